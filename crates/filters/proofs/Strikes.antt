-- Striking one option: what stays, and that no good subset loses anything.
use Rattle.std.proofs.Common.{◌≡◌, ℕ, ◌<◌, true, false, not, ◌&&◌, eqb, List, length, get_or, sum, sym, refl, ap, ◌∙◌, subst, subst₂, ⊎_elim, arith}
use Rattle.std.proofs.lemmas.List.{get_or-set_same, get_or-set_other, get_or_past}
use Rattle.std.proofs.lemmas.List.Sums.{sum_by-set}
use Rattle.std.proofs.Math.Bool.{and-true}
use Rattle.std.proofs.lemmas.Bool.{and_right, both_ways, cases_eq, cases_lt, eq-eqb, ne_eqb}
use Rattle.bits.specs.Bits.{on, cleared}
use Rattle.bits.proofs.Bits.{cleared_falls, on_cleared, on_zero}
use Rattle.model.specs.Meaning.{Meaning, Is}
use Rattle.model.specs.Sets.{In, Sub, Less}
use Rattle.filters.specs.Keeping.{Keeps}
use Rattle.filters.specs.Sweeps.{strike}

-- a line with a standing option has a word
pub line_within : (s : List ℕ) (i a : ℕ) → on (get_or s i 0) a ≡ true → i < length s
line_within s i a h = ⊎_elim (λ l. l) (λ past. absurd (both_ways (on (get_or s i 0) a) (ap (λ w. on w a) (get_or_past s i 0 past) ∙ on_zero a) h)) (cases_lt i (length s))

module _ (s : List ℕ) (i a : ℕ) (stands : on (get_or s i 0) a ≡ true) where
  pub struck_falls : sum (strike s i a) < sum s
  struck_falls =
      omega (arith, sum_by-set (λ x. x) s i (cleared (get_or s i 0) a) 0 (line_within s i a stands), cleared_falls (get_or s i 0) a stands)

  same_word : get_or (strike s i a) i 0 ≡ cleared (get_or s i 0) a
  same_word = get_or-set_same s i (cleared (get_or s i 0) a) 0 (line_within s i a stands)

  -- the bits after a strike
  struck_gone : on (get_or (strike s i a) i 0) a ≡ false
  struck_gone = ap (λ w. on w a) same_word ∙ on_cleared (get_or s i 0) a a ∙ and_right (on (get_or s i 0) a) (not (eqb a a)) (ap not (eq-eqb a a refl))

  struck_other : (j b : ℕ) → (j ≡ i → b ≡ a → ⊥) → on (get_or (strike s i a) j 0) b ≡ on (get_or s j 0) b
  struck_other j b ne = ⊎_elim same (λ nj. ap (λ w. on w b) (get_or-set_other s i j (cleared (get_or s i 0) a) 0 nj)) (cases_eq j i)
    where
      same : j ≡ i → on (get_or (strike s i a) j 0) b ≡ on (get_or s j 0) b
      same e =
          subst (λ k. on (get_or (strike s i a) k 0) b ≡ on (get_or s k 0) b) (sym e)
          (ap (λ w. on w b) same_word ∙ on_cleared (get_or s i 0) a b ∙ ap (λ t. on (get_or s i 0) b && not t) (ne_eqb b a (ne e)) ∙ and-true (on (get_or s i 0) b))

  down : (j b : ℕ) → on (get_or (strike s i a) j 0) b ≡ true → on (get_or s j 0) b ≡ true
  down j b h = ⊎_elim
      (λ (e : j ≡ i). ⊎_elim (λ (eb : b ≡ a). subst₂ (λ x y. on (get_or s x 0) y ≡ true) (sym e) (sym eb) stands) (λ nb. sym (struck_other j b (λ _ eb. nb eb)) ∙ h) (cases_eq b a))
      (λ nj. sym (struck_other j b (λ e _. nj e)) ∙ h) (cases_eq j i)

  struck_sub : (m : Meaning) → Sub m (strike s i a) s
  struck_sub m = record { all = λ j b h. (h.0, h.1, down j b h.2) }

  pub struck_less : (m : Meaning) → Less m i s (strike s i a)
  struck_less m = record {
    sub = struck_sub m;
    rest = λ j b nj h. (h.0, h.1, struck_other j b (λ e _. nj e) ∙ h.2);
  }

  pub struck_out : (m : Meaning) → In m (strike s i a) i a → ⊥
  struck_out m h = both_ways (on (get_or (strike s i a) i 0) a) struck_gone h.2

  -- an option that exists and fails is in no good subset
  pub struck_keeps : (m : Meaning) (P : List ℕ → ℕ → ℕ → Type 0)
      → ((s t : List ℕ) (i a : ℕ) → Sub m s t → P s i a → P t i a)
      → Is m i a → (P s i a → ⊥) → Keeps m P s (strike s i a)
  struck_keeps m P mono is fails = record {
    sub = struck_sub m;
    holds = λ t full le. record {
      all = λ j b h.
          let h' = le.all j b h in
          (h'.0, h'.1, struck_other j b (λ ej eb. fails (mono t s i a le (subst₂ (λ x y. P t x y) ej eb (full.pass j b h)))) ∙ h'.2);
    };
    rest = λ j b missing. struck_other j b (λ ej eb. missing (subst₂ (λ x y. Is m x y) (sym ej) (sym eb) is));
  }

module _ (m : Meaning) (P : List ℕ → ℕ → ℕ → Type 0) where
  pub keeps_refl : (s : List ℕ) → Keeps m P s s
  keeps_refl s = record {
    sub = record { all = λ i a h. h };
    holds = λ t full le. le;
    rest = λ i a missing. refl;
  }

  pub keeps_trans : (s t u : List ℕ) → Keeps m P s t → Keeps m P t u → Keeps m P s u
  keeps_trans s t u p q = record {
    sub = record { all = λ i a h. p.sub.all i a (q.sub.all i a h) };
    holds = λ v full le. q.holds v full (p.holds v full le);
    rest = λ i a missing. q.rest i a missing ∙ p.rest i a missing;
  }

module _ (m : Meaning) (i : ℕ) where
  pub less_refl : (s : List ℕ) → Less m i s s
  less_refl s = record { sub = record { all = λ j a h. h }; rest = λ j a ne h. h }

  pub less_trans : (s t u : List ℕ) → Less m i s t → Less m i t u → Less m i s u
  less_trans s t u p q = record {
    sub = record { all = λ j a h. p.sub.all j a (q.sub.all j a h) };
    rest = λ j a ne h. q.rest j a ne (p.rest j a ne h);
  }
