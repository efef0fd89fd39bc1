-- The loops that test and strike: what is known after n steps.
use Rattle.std.proofs.Common.{◌≡◌, ℕ, ◌+◌, ◌<◌, Bool, true, false, ◌||◌, List, Ok, Err, Result, IsErr, sum, sym, refl, ◌∙◌, subst, ⊎_elim, arith, below_more}
use Rattle.std.proofs.Math.Bool.{or-false}
use Rattle.std.proofs.lemmas.Bool.{cases_eq, false≢true, or_parts, true≢false}
use Rattle.model.specs.Meaning.{Meaning}
use Rattle.model.specs.Sets.{In, Less, SomeOn, EachLine}
use Rattle.filters.specs.Keeping.{Keeps}
use Rattle.filters.specs.Sweeps.{Tested, LineEnd, LineSwept, RoundSwept}
use Rattle.filters.specs.declared.sweep.Emptied.{Emptied}
use Rattle.filters.proofs.Strikes.{keeps_trans, less_trans}

-- a sum that fell once more, where the set was as at first or had fallen
fell_more : (s r r' : List ℕ) (struck : Bool) → (struck ≡ false → r ≡ s) → (struck ≡ true → sum r < sum s) → sum r' < sum r → sum r' < sum s
fell_more s r r' true same fell lt = let f = fell refl in omega (arith, f, lt)
fell_more s r r' false same fell lt = subst (λ q. sum r' < sum q) (same refl) lt

-- n options of line i of s were tested, which left r
pub record LineLoop (m : Meaning) (P : List ℕ → ℕ → ℕ → Type 0) (self : Bool) (i : ℕ) (s r : List ℕ) (struck : Bool) (n : ℕ) : Type 0 where
  pub keeps : Keeps m P s r
  pub less : Less m i s r
  pub clean : struck ≡ false → (r ≡ s) × ((k : ℕ) → k < n → In m r i k → P r i k)
  pub fell : struck ≡ true → (sum r < sum s) × SomeOn m r i
  pub own : self ≡ false → (k : ℕ) → k < n → In m r i k → P r i k

module _ (m : Meaning) (P : List ℕ → ℕ → ℕ → Type 0) (self : Bool) (i : ℕ) (s : List ℕ) where
  -- option n stays
  pub line_stay : (r r' : List ℕ) (struck : Bool) (n : ℕ) → LineLoop m P self i s r struck n → Tested m P i n r r' false → LineLoop m P self i s r' struck (n + 1)
  line_stay r r' struck n h t = subst (λ q. LineLoop m P self i s q struck (n + 1)) (sym (t.stays refl).0) (record {
    keeps = h.keeps;
    less = h.less;
    clean = λ e. ((h.clean e).0, below_more (λ k. In m r i k → P r i k) n (h.clean e).1 (t.stays refl).1);
    fell = h.fell;
    own = λ e. below_more (λ k. In m r i k → P r i k) n (h.own e) (t.stays refl).1;
  })

  -- option n is struck, and the line has another
  pub line_strike : (self ≡ false → (s t : List ℕ) (a : ℕ) → Less m i s t → P s i a → In m t i a → P t i a)
      → (r r' : List ℕ) (struck : Bool) (n : ℕ) → LineLoop m P self i s r struck n → Tested m P i n r r' true → SomeOn m r' i → LineLoop m P self i s r' true (n + 1)
  line_strike touch r r' struck n h t some = record {
    keeps = keeps_trans m P s r r' h.keeps t.keeps;
    less = less_trans m i s r r' h.less t.less;
    clean = λ e. absurd (true≢false e);
    fell = λ e. (fell_more s r r' struck (λ f. (h.clean f).0) (λ f. (h.fell f).0) (t.falls refl).0, some);
    own = λ e. below_more (λ k. In m r' i k → P r' i k) n
        (λ k lt p. touch e r r' k t.less (h.own e k lt (t.less.sub.all i k p)) p)
        (λ p. absurd ((t.falls refl).1 p));
  }

  -- all options are tested
  pub line_end : (r : List ℕ) (struck : Bool) (n : ℕ) → n ≡ m.count i → LineLoop m P self i s r struck n → LineSwept m P self i s r (Ok struck)
  line_end r struck n e h = record {
    keeps = h.keeps;
    less = h.less;
    ended = how struck h.clean h.fell;
    own = λ f a p. h.own f a (within a p) p;
  }
    where
      within : (a : ℕ) → In m r i a → a < n
      within a p = subst (λ x. a < x) (sym e) p.1

      how : (struck : Bool) → (struck ≡ false → (r ≡ s) × ((k : ℕ) → k < n → In m r i k → P r i k)) → (struck ≡ true → (sum r < sum s) × SomeOn m r i) → LineEnd m P i s r (Ok struck)
      how true clean fell = fell refl
      how false clean fell = ((clean refl).0, λ a p. (clean refl).1 a (within a p) p)

-- each line still has an option, where only line i lost some and has one left
pub each_stays : (m : Meaning) (i : ℕ) (s r : List ℕ) → Less m i s r → SomeOn m r i → EachLine m s → EachLine m r
each_stays m i s r less some each k l = ⊎_elim
    (λ (e : k ≡ i). subst (λ n. SomeOn m r n) (sym e) some)
    (λ ne. let w = each k l in (w.0, less.rest k w.0 ne w.1))
    (cases_eq k i)

-- n lines of s were swept, which left r
pub record RoundLoop (m : Meaning) (P : List ℕ → ℕ → ℕ → Type 0) (s r : List ℕ) (struck : Bool) (n : ℕ) : Type 0 where
  pub keeps : Keeps m P s r
  pub each : EachLine m r
  pub clean : struck ≡ false → (r ≡ s) × ((k : ℕ) → k < n → (a : ℕ) → In m r k a → P r k a)
  pub fell : struck ≡ true → sum r < sum s

module _ (m : Meaning) (P : List ℕ → ℕ → ℕ → Type 0) (s : List ℕ) where
  -- line n was swept, and `more` says whether options of it were struck
  pub round_more : (self : Bool) (r r' : List ℕ) (struck more : Bool) (n : ℕ) → RoundLoop m P s r struck n → LineSwept m P self n r r' (Ok more) → RoundLoop m P s r' (struck || more) (n + 1)
  round_more self r r' struck true n h t = record {
    keeps = keeps_trans m P s r r' h.keeps t.keeps;
    each = each_stays m n r r' t.less t.ended.1 h.each;
    clean = λ e. absurd (true≢false (or_parts struck true e).1);
    fell = λ e. fell_more s r r' struck (λ f. (h.clean f).0) h.fell t.ended.0;
  }
  round_more self r r' struck false n h t = subst (λ q. RoundLoop m P s q (struck || false) (n + 1)) (sym t.ended.0) (record {
    keeps = h.keeps;
    each = h.each;
    clean = λ e.
        let c = h.clean (or_parts struck false e).0 in
        (c.0, below_more (λ k. (a : ℕ) → In m r k a → P r k a) n c.1 (subst (λ q. (a : ℕ) → In m q n a → P q n a) t.ended.0 t.ended.1));
    fell = λ e. h.fell (sym (or-false struck) ∙ e);
  })

  -- line n was left without options
  pub round_emptied : (self : Bool) (r r' : List ℕ) (struck : Bool) (n : ℕ) (e : Emptied) (how : Result Bool Emptied) → n < m.lines → RoundLoop m P s r struck n
      → LineSwept m P self n r r' (Err e) → IsErr how → RoundSwept m P s r' how
  round_emptied self r r' struck n e (Ok b) real h t err = absurd (false≢true err)
  round_emptied self r r' struck n e (Err d) real h t err = record {
    keeps = keeps_trans m P s r r' h.keeps t.keeps;
    ended = (n, real, t.ended);
  }
