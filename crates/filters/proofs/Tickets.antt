-- Tickets of waiting lines.
use Rattle.std.proofs.Common.{◌≡◌, ℕ, ◌+◌, ◌-◌, ◌^◌, ◌<◌, ◌≤◌, Bool, true, false, not, ◌&&◌, List, Some, None, Option, MatchOption, is_some, length, set, count_by, sym, refl, ap, ◌∙◌, subst, inl, inr, ◌⊎◌, ⊎_elim, arith}
use Rattle.std.proofs.lemmas.List.{get_or_past, get_or-set_same, get_or-set_other}
use Rattle.std.proofs.lemmas.Bool.{and_from, and_parts, both_ways, cases_eq, cases_lt, false≢true}
use Rattle.std.proofs.lemmas.Option.{none-some, same_Some}
use Rattle.filters.specs.Queues.{First, NoneWaits, ticket, ToWake, Waits, Woken}

-- a line waits or does not
pub cases_ticket : (o : Option ℕ) → (o ≡ None) ⊎ ((t : ℕ) × (o ≡ Some t))
cases_ticket None = inl refl
cases_ticket (Some t) = inr (t, refl)

no_ticket : (o : Option ℕ) → not (is_some o) ≡ true → o ≡ None
no_ticket None h = refl
no_ticket (Some t) h = absurd (false≢true h)

-- a line that waits has a place
pub ticket_within : (ts : List (Option ℕ)) (i : ℕ) → Waits ts i → i < length ts
ticket_within ts i wait =
    ⊎_elim (λ l. l) (λ past. absurd (none-some wait.0 (sym (get_or_past ts i None past) ∙ wait.1))) (cases_lt i (length ts))

-- of the first n lines, `first` has the least ticket, which is `least`, or none waits and `least` is the largest number
abbrev pub Earliest : List (Option ℕ) → ℕ → Option ℕ → ℕ → Type 0
Earliest ts n first least = MatchOption first
    ((least ≡ 2 ^ 64 - 1) × ((k : ℕ) → k < n → ticket ts k ≡ None))
    (λ k. (k < n) × (ticket ts k ≡ Some least) × ((j u : ℕ) → j < n → ticket ts j ≡ Some u → least ≤ u))

-- no line past the tickets waits
pub earliest : (ts : List (Option ℕ)) (n : ℕ) (first : Option ℕ) (least : ℕ) → length ts ≤ n → Earliest ts n first least → MatchOption first (NoneWaits ts) (First ts)
earliest ts n None least few e = λ i. ⊎_elim (e.1 i) (λ past. get_or_past ts i None (omega (arith, few, past))) (cases_lt i n)
earliest ts n (Some k) least few e = (least, e.1, λ j u w. e.2 j u (omega (arith, few, ticket_within ts j (u, w))) w)

-- how many lines wait
abbrev pub waiting : List (Option ℕ) → ℕ
waiting ts = count_by is_some ts

-- line i, which waits, is taken out
module _ (ts : List (Option ℕ)) (i : ℕ) (wait : Waits ts i) where
  within : i < length ts
  within = ticket_within ts i wait

  pub others_stay : (j : ℕ) → (j ≡ i → ⊥) → ticket (set ts i None) j ≡ ticket ts j
  others_stay j ne = get_or-set_other ts i j None None ne

  -- who waits now is another line
  pub waited : (j t : ℕ) → ticket (set ts i None) j ≡ Some t → ticket ts j ≡ Some t
  waited j t w = ⊎_elim
      (λ (e : j ≡ i). absurd (none-some t (sym (get_or-set_same ts i None None within) ∙ ap (λ k. ticket (set ts i None) k) (sym e) ∙ w)))
      (λ ne. sym (others_stay j ne) ∙ w)
      (cases_eq j i)

-- the touched ones of the first n lines are woken, and line n is next
module _ (n : ℕ) (touched : ℕ → Bool) (ts us : List (Option ℕ)) (last next : ℕ) (h : Woken n touched ts us last next) where
  earlier : (i : ℕ) → (i ≡ n → ⊥) → ToWake (n + 1) touched ts i → ToWake n touched ts i
  earlier i ne w = (⊎_elim (λ l. l) (λ le. absurd (ne (omega (arith, w.0)))) (cases_lt i n), w.1, w.2)

  later : (i : ℕ) → ToWake n touched ts i → ToWake (n + 1) touched ts i
  later i w = (omega (arith, w.0), w.1, w.2)

  -- it waits, or is not touched
  pub woken_skip : (not (is_some (ticket us n)) && touched n) ≡ false → Woken (n + 1) touched ts us last next
  woken_skip out = record {
    stay = h.stay;
    wait = λ i w. h.wait i (before i w);
    others = λ i z none. h.others i z (λ w. none (later i w));
    up_to = h.up_to;
    at_end = λ fits. let e = h.at_end (omega arith) in record {
      from = e.from;
      few = omega (arith, e.few);
      after = λ i t w. e.after i t (before i w);
      by_number = λ i j t u lt v w. e.by_number i j t u lt (before i v) (before j w);
    };
  }
    where
      not_here : ToWake (n + 1) touched ts n → ⊥
      not_here w = both_ways (not (is_some (ticket us n)) && touched n) out
          (and_from (not (is_some (ticket us n))) (touched n) (ap (λ o. not (is_some o)) (h.others n w.2 (λ v. omega (arith, v.0)))) w.1)

      before : (i : ℕ) → ToWake (n + 1) touched ts i → ToWake n touched ts i
      before i w = earlier i (λ (e : i ≡ n). not_here (subst (λ k. ToWake (n + 1) touched ts k) e w)) w

  -- it gets the ticket v
  pub woken_add : (v : ℕ) → n < length us → (not (is_some (ticket us n)) && touched n) ≡ true → next ≤ v → (next + 1 < 2 ^ 64 → v ≡ next + 1) → Woken (n + 1) touched ts (set us n (Some v)) last v
  woken_add v room called up is = record {
    stay = λ i t w. other i (λ (e : i ≡ n). none-some t (sym asleep ∙ ap (ticket ts) (sym e) ∙ w)) ∙ h.stay i t w;
    wait = λ i w. at (λ o. (t : ℕ) × (o ≡ Some t)) i (v, refl) (λ ne. h.wait i (earlier i ne w));
    others = λ i z none. other i (λ (e : i ≡ n). none (omega arith, ap touched e ∙ parts.1, z)) ∙ h.others i z (λ w. none (later i w));
    up_to = λ i t. at (λ o. o ≡ Some t → t ≤ v) i (λ e. omega (arith, same_Some v t e)) (λ ne e. omega (arith, h.up_to i t e));
    at_end = λ fits. let end = h.at_end (omega arith) in record {
      from = omega (arith, end.from, end.few);
      few = omega (arith, end.few);
      after = λ i t w. at (λ o. o ≡ Some t → last < t) i (λ e. omega (arith, end.from, end.few, same_Some v t e)) (λ ne. end.after i t (earlier i ne w));
      by_number = λ i j t u lt p w e.
          let ni : i ≡ n → ⊥ = λ e. omega (arith, w.0) in
          let was : ticket us i ≡ Some t = sym (other i ni) ∙ e in
          at (λ o. o ≡ Some u → t < u) j (λ e. omega (arith, h.up_to i t was, end.few, same_Some v u e))
          (λ nj. end.by_number i j t u lt (earlier i ni p) (earlier j nj w) was);
    };
  }
    where
      parts : (not (is_some (ticket us n)) ≡ true) × (touched n ≡ true)
      parts = and_parts (not (is_some (ticket us n))) (touched n) called

      -- line n did not wait at first either
      asleep : ticket ts n ≡ None
      asleep = ⊎_elim (λ e. e)
          (λ w. absurd (none-some w.0 (sym (no_ticket (ticket us n) parts.0) ∙ h.stay n w.0 w.1)))
          (cases_ticket (ticket ts n))

      other : (i : ℕ) → (i ≡ n → ⊥) → ticket (set us n (Some v)) i ≡ ticket us i
      other i ne = get_or-set_other us n i (Some v) None ne

      -- what holds of v, and of the ticket of line i if that is another line, holds of its ticket now
      at : (Q : Option ℕ → Type 0) (i : ℕ) → Q (Some v) → ((i ≡ n → ⊥) → Q (ticket us i)) → Q (ticket (set us n (Some v)) i)
      at Q i here there = ⊎_elim
          (λ (e : i ≡ n). subst Q (sym (ap (ticket (set us n (Some v))) e ∙ get_or-set_same us n (Some v) None room)) here)
          (λ ne. subst Q (sym (other i ne)) (there ne))
          (cases_eq i n)
