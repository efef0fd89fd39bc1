-- The loop of the queue: the options of a line that does not wait all pass.
use Rattle.std.proofs.Common.{◌≡◌, ℕ, ◌<◌, Bool, true, false, List, Ok, None, Option, set, sym, ap, ◌∙◌, subst, ⊎_elim, arith}
use Rattle.std.proofs.lemmas.Bool.{cases_Bool, cases_eq, cases_lt}
use Rattle.std.proofs.lemmas.Option.{none-some}
use Rattle.model.specs.Meaning.{Meaning}
use Rattle.model.specs.Sets.{In, Less, EachLine}
use Rattle.filters.specs.Keeping.{Keeps}
use Rattle.filters.specs.Queues.{ticket, Waits, Woken}
use Rattle.filters.specs.Sweeps.{LineSwept}
use Rattle.filters.proofs.Strikes.{keeps_trans}
use Rattle.filters.proofs.Sweeping.{each_stays}
use Rattle.filters.proofs.Tickets.{cases_ticket, others_stay, waited}

-- s was filtered so far, which left r, and the tickets are ts
pub record Queued (m : Meaning) (P : List ℕ → ℕ → ℕ → Type 0) (s r : List ℕ) (ts : List (Option ℕ)) : Type 0 where
  pub keeps : Keeps m P s r
  pub each : EachLine m r
  pub clean : (j : ℕ) → j < m.lines → ticket ts j ≡ None → (a : ℕ) → In m r j a → P r j a
  pub real : (j : ℕ) → Waits ts j → j < m.lines

-- line i, which waits, was taken out of the queue, which left the tickets ts', and was swept, which left r'
module _ (m : Meaning) (P : List ℕ → ℕ → ℕ → Type 0) (s r r' : List ℕ) (ts ts' : List (Option ℕ)) (i : ℕ) (wait : Waits ts i) (taken : ts' ≡ set ts i None) (q : Queued m P s r ts) where
  still : (j : ℕ) → (j ≡ i → ⊥) → ticket ts' j ≡ ticket ts j
  still j ne = ap (λ x. ticket x j) taken ∙ others_stay ts i wait j ne

  real_still : (j : ℕ) → Waits ts' j → j < m.lines
  real_still j w = q.real j (w.0, waited ts i wait j w.0 (sym (ap (λ x. ticket x j) taken) ∙ w.1))

  -- nothing was struck
  pub queued_clean : (self : Bool) → LineSwept m P self i r r' (Ok false) → Queued m P s r' ts'
  queued_clean self swept = subst (λ x. Queued m P s x ts') (sym same) (record {
    keeps = q.keeps;
    each = q.each;
    clean = λ j lj z. ⊎_elim
        (λ (e : j ≡ i). subst (λ n. (a : ℕ) → In m r n a → P r n a) (sym e) (subst (λ x. (a : ℕ) → In m x i a → P x i a) same swept.ended.1))
        (λ ne. q.clean j lj (sym (still j ne) ∙ z))
        (cases_eq j i);
    real = real_still;
  })
    where
      same : r' ≡ r
      same = swept.ended.0

  -- options of it were struck, and the lines that it touches were woken
  pub queued_strike : (T : ℕ → ℕ → Bool)
      → ((s t : List ℕ) (i j a : ℕ) → Less m i s t → P s j a → In m t j a → T i j ≡ false → P t j a)
      → (us : List (Option ℕ)) (last next : ℕ) → LineSwept m P (T i i) i r r' (Ok true) → Woken m.lines (T i) ts' us last next
      → Queued m P s r' us
  queued_strike T touch us last next swept woken = record {
    keeps = keeps_trans m P s r r' q.keeps swept.keeps;
    each = each_stays m i r r' swept.less swept.ended.1 q.each;
    clean = λ j lj z.
        let before = asleep j z in
        let apart : T i j ≡ false = ⊎_elim (λ t. let w = woken.wait j (lj, t, before) in absurd (none-some w.0 (sym z ∙ w.1))) (λ f. f) (cases_Bool (T i j)) in
        ⊎_elim
        (λ (e : j ≡ i). subst (λ n. (a : ℕ) → In m r' n a → P r' n a) (sym e) (swept.own (subst (λ n. T i n ≡ false) e apart)))
        (λ ne a p. touch r r' i j a swept.less (q.clean j lj (sym (still j ne) ∙ before) a (swept.less.sub.all j a p)) p apart)
        (cases_eq j i);
    real = λ j w. ⊎_elim
        (λ none. ⊎_elim (λ l. l) (λ past. absurd (none-some w.0 (sym (woken.others j none (λ t. omega (arith, past, t.0))) ∙ w.1))) (cases_lt j m.lines))
        (real_still j)
        (cases_ticket (ticket ts' j));
  }
    where
      -- a line that does not wait now did not before
      asleep : (j : ℕ) → ticket us j ≡ None → ticket ts' j ≡ None
      asleep j z = ⊎_elim (λ e. e) (λ w. absurd (none-some w.0 (sym z ∙ woken.stay j w.0 w.1))) (cases_ticket (ticket ts' j))
