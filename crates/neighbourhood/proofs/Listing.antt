-- The set bits of a word, listed one after the other.
use Rattle.std.proofs.Common.{◌≡◌, ℕ, ◌<◌, ◌≤◌, true, not, eqb, List, [], ◌∷◌, ◌++◌, length, get_or, Some, None, sym, refl, ap, ◌∙◌, ⊎_elim, arith}
use Rattle.std.proofs.lemmas.List.{length_push, get_or_push, get_or_append_left}
use Rattle.std.proofs.lemmas.Bool.{and_parts, both_ways, cases_lt, eqb-false, not-true}
use Rattle.bits.specs.Bits.{on, cleared}
use Rattle.bits.specs.Least.{Least}
use Rattle.bits.proofs.Bits.{on_cleared}
use Rattle.bits.proofs.Pops.{Rest, rest_pop}
use Rattle.model.specs.Views.{Lists}

-- k stands in v
abbrev pub Stands : List ℕ → ℕ → Type 0
Stands v k = (p : ℕ) × (p < length v) × (get_or v p 0 ≡ k)

-- of the set bits of word, v lists those below all that are left in rest
pub record Listing (word rest : ℕ) (v : List ℕ) : Type 0 where
  pub real : (p : ℕ) → p < length v → on word (get_or v p 0) ≡ true
  pub left : Rest (on word) (Stands v) rest
  pub rising : (p q : ℕ) → p < q → q < length v → get_or v p 0 < get_or v q 0
  pub below : (p k : ℕ) → p < length v → on rest k ≡ true → get_or v p 0 < k
  pub few : (k : ℕ) → on rest k ≡ true → length v ≤ k

pub listing_none : (word : ℕ) → Listing word word []
listing_none word = record {
  real = λ p l. absurd (omega arith);
  left = ((λ k h. h), λ k h off. absurd (both_ways (on word k) off h));
  rising = λ p q l h. absurd (omega arith);
  below = λ p k l h. absurd (omega arith);
  few = λ k h. omega arith;
}

pub listing_end : (word rest : ℕ) (v : List ℕ) → Listing word rest v → Least (on rest) 0 None → Lists (on word) v
listing_end word rest v h none = record {
  real = h.real;
  all = λ k e. h.left.1 k e (none k (omega arith));
  rising = h.rising;
}

-- the least bit k that is left is taken out and listed
module _ (word rest rest' k : ℕ) (v : List ℕ) (h : Listing word rest v) (least : Least (on rest) 0 (Some k)) (out : rest' ≡ cleared rest k) where
  before : (p : ℕ) → p < length v → get_or (v ++ k ∷ []) p 0 ≡ get_or v p 0
  before p l = get_or_append_left v (k ∷ []) 0 p l

  at : (p : ℕ) → p < length (v ++ k ∷ []) → length v ≤ p → get_or (v ++ k ∷ []) p 0 ≡ k
  at p l le = get_or_push v k 0 p (omega (arith, length_push v k))

  -- what is left is above k
  above : (c : ℕ) → on rest' c ≡ true → (on rest c ≡ true) × (k < c)
  above c e =
      let p = and_parts (on rest c) (not (eqb c k)) (sym (ap (λ w. on w c) out ∙ on_cleared rest k c) ∙ e) in
      let ne : c ≡ k → ⊥ = eqb-false c k (not-true (eqb c k) p.1) in
      (p.0, ⊎_elim (λ lt. absurd (both_ways (on rest c) (least.2 c (omega arith) lt) p.0)) (λ le. ⊎_elim (λ g. g) (λ ge. absurd (ne (omega arith))) (cases_lt k c)) (cases_lt c k))

  pub listing_push : Listing word rest' (v ++ k ∷ [])
  listing_push = record {
    real = λ p l. ⊎_elim (λ lt. rw (before p lt) (h.real p lt)) (λ le. rw (at p l le) (h.left.0 k least.1)) (cases_lt p (length v));
    left = rest_pop (on word) (Stands (v ++ k ∷ [])) rest rest' k out (length v, omega (arith, length_push v k), get_or_push v k 0 (length v) refl)
        (h.left.0, λ c e off. let w = h.left.1 c e off in (w.0, omega (arith, w.1, length_push v k), before w.0 w.1 ∙ w.2));
    rising = λ p q l lq. ⊎_elim
        (λ lt. rw (before q lt, before p (omega arith)) (h.rising p q l lt))
        (λ le. let lp : p < length v = omega (arith, length_push v k) in rw (at q lq le, before p lp) (h.below p k lp least.1))
        (cases_lt q (length v));
    below = λ p c l e. ⊎_elim (λ lt. rw (before p lt) (h.below p c lt (above c e).0)) (λ le. rw (at p l le) (above c e).1) (cases_lt p (length v));
    few = λ c e. omega (arith, h.few k least.1, (above c e).1, length_push v k);
  }
