-- Two filters of one set agree, however they go about it.
use Rattle.std.proofs.Common.{◌≡◌, ℕ, ◌<◌, Bool, true, false, List, get_or, sym, refl, ◌∙◌, ⊎_elim, arith}
use Rattle.std.proofs.lemmas.Bool.{cases_lt}
use Rattle.bits.specs.Bits.{on}
use Rattle.bits.proofs.Bits.{same_bits}
use Rattle.model.specs.Meaning.{Meaning, Is}
use Rattle.model.specs.Sets.{Sub}
use Rattle.filters.specs.Filtering.{Filtered}
use Rattle.filters.specs.declared.outcome.Outcome.{Outcome}
use Rattle.filters.specs.declared.outcome.Outcome.TheVariants.{Settled, NoPlan}

-- tests that pass for each other are the same
same_tests : (x y : Bool) → (x ≡ true → y ≡ true) → (y ≡ true → x ≡ true) → x ≡ y
same_tests true y there back = sym (there refl)
same_tests false true there back = back refl
same_tests false false there back = refl

module _ (m : Meaning) (P : List ℕ → ℕ → ℕ → Type 0) (s : List ℕ) where
  -- each is a good subset, so the other holds it
  inside : (r t : List ℕ) (x y : Outcome) → Filtered m P s r x → Filtered m P s t y → Sub m r t
  inside r t x y p q = q.largest.holds r p.largest.good p.largest.sub

  not_both : (r t : List ℕ) → 0 < m.lines → Filtered m P s r Settled → Filtered m P s t NoPlan → ⊥
  not_both r t some p q = let w = p.ended.some 0 some in q.ended 0 w.0 ((inside r t Settled NoPlan p q).all 0 w.0 w.1)

  pub same_end : (r t : List ℕ) (x y : Outcome) → 0 < m.lines → Filtered m P s r x → Filtered m P s t y → x ≡ y
  same_end r t Settled Settled some p q = refl
  same_end r t NoPlan NoPlan some p q = refl
  same_end r t Settled NoPlan some p q = absurd (not_both r t some p q)
  same_end r t NoPlan Settled some p q = absurd (not_both t r some q p)

  -- options agree since each set holds the other, and other bits since they are as found
  pub same_words_left : (r t : List ℕ) (x y : Outcome) → Filtered m P s r x → Filtered m P s t y → (i : ℕ) → get_or r i 0 ≡ get_or t i 0
  same_words_left r t x y p q i = same_bits (get_or r i 0) (get_or t i 0) (λ b. ⊎_elim
      (λ li. ⊎_elim
      (λ lb. same_tests (on (get_or r i 0) b) (on (get_or t i 0) b) (λ h. ((inside r t x y p q).all i b (li, lb, h)).2) (λ h. ((inside t r y x q p).all i b (li, lb, h)).2))
      (λ past. other b (λ is. omega (arith, past, is.1)))
      (cases_lt b (m.count i)))
      (λ past. other b (λ is. omega (arith, past, is.0)))
      (cases_lt i m.lines))
    where
      other : (b : ℕ) → (Is m i b → ⊥) → on (get_or r i 0) b ≡ on (get_or t i 0) b
      other b missing = p.rest i b missing ∙ sym (q.rest i b missing)
