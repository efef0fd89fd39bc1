-- The first fault, found number by number.
use Rattle.std.proofs.Common.{◌≡◌, ℕ, ◌+◌, ◌<◌, Bool, true, false, cond, eqb, ◌⊎◌, List, Some, None, Ok, Err, refl, ap, ◌∙◌, inl, inr, ⊎_elim, zero-le, arith}
use Rattle.std.specs.List.{position}
use Rattle.std.proofs.lemmas.Bool.{cases_lt}
use Rattle.bits.specs.Least.{Least}
use Rattle.rules.specs.declared.fault.SourceFault.{SourceFault}
use Rattle.rules.specs.declared.fault.SourceFault.TheVariants.{Lines, Span, Values, Records, Names, Kind, Range, Words, Counts, Memory}
use Rattle.rules.specs.Faults.{number, concerned, flawed_at, FirstFault}
use Rattle.rules.proofs.Flaws.{first_flaw}

-- the fault of a number at a line or record
abbrev pub fault_of : ℕ → ℕ → SourceFault
fault_of n p =
    cond (eqb n 1) Lines
    (cond (eqb n 2) (Span p)
    (cond (eqb n 3) (Values p)
    (cond (eqb n 4) Records
    (cond (eqb n 5) (Names p)
    (cond (eqb n 6) (Kind p)
    (cond (eqb n 7) (Range p)
    (cond (eqb n 8) (Words p)
    (cond (eqb n 9) (Counts p) Memory))))))))

is_fault : (f : SourceFault) → f ≡ fault_of (number f) (concerned f)
is_fault Lines = refl
is_fault (Span i) = refl
is_fault (Values i) = refl
is_fault Records = refl
is_fault (Names r) = refl
is_fault (Kind r) = refl
is_fault (Range r) = refl
is_fault (Words r) = refl
is_fault (Counts i) = refl
is_fault Memory = refl

-- a fault has a number from 1 to 9, or is want of memory
numbered : (f : SourceFault) → (0 < number f) × ((number f < 10) ⊎ (f ≡ Memory))
numbered Lines = (omega arith, inl (omega arith))
numbered (Span i) = (omega arith, inl (omega arith))
numbered (Values i) = (omega arith, inl (omega arith))
numbered Records = (omega arith, inl (omega arith))
numbered (Names r) = (omega arith, inl (omega arith))
numbered (Kind r) = (omega arith, inl (omega arith))
numbered (Range r) = (omega arith, inl (omega arith))
numbered (Words r) = (omega arith, inl (omega arith))
numbered (Counts i) = (omega arith, inl (omega arith))
numbered Memory = (omega arith, inr refl)

-- no fault has a number below n
pub record Clear (there : SourceFault → Bool) (n : ℕ) : Type 0 where
  pub none : (f : SourceFault) → number f < n → there f ≡ false

module _ (there : SourceFault → Bool) where
  pub clear_start : Clear there 1
  clear_start = record { none = λ f h. absurd (omega (arith, (numbered f).0, h)) }

  at_number : (n : ℕ) (f : SourceFault) → number f ≡ n → there f ≡ there (fault_of n (concerned f))
  at_number n f e = ap there (is_fault f ∙ ap (λ k. fault_of k (concerned f)) e)

  -- nor has one the number n
  pub clear_more : (n : ℕ) → Clear there n → ((p : ℕ) → there (fault_of n p) ≡ false) → Clear there (n + 1)
  clear_more n clear none = record {
    none = λ f h. ⊎_elim (λ lt. clear.none f lt) (λ ge. at_number n f (omega (arith, h, ge)) ∙ none (concerned f)) (cases_lt (number f) n);
  }

  pub clear_all : Clear there 10 → there Memory ≡ false → FirstFault there (Ok tt)
  clear_all clear memory f = ⊎_elim (λ lt. clear.none f lt) (λ (e : f ≡ Memory). ap there e ∙ memory) (numbered f).1

  -- the first line or record p that has the fault of the number n
  pub first_at : (n p : ℕ) → number (fault_of n p) ≡ n → concerned (fault_of n p) ≡ p → Clear there n → Least (λ q. there (fault_of n q)) 0 (Some p) → FirstFault there (Err (fault_of n p))
  first_at n p en ep clear least = (
    least.1,
    λ g before. ⊎_elim
        (λ (lt : number g < number (fault_of n p)). clear.none g (omega (arith, lt, en)))
        (λ (w : (number g ≡ number (fault_of n p)) × (concerned g < concerned (fault_of n p))).
        at_number n g (w.0 ∙ en) ∙ least.2 (concerned g) zero-le (omega (arith, w.1, ep))) before,
  )

  -- a fault that no line or record is concerned by
  pub first_of : (n : ℕ) → concerned (fault_of n 0) ≡ 0 → number (fault_of n 0) ≡ n → Clear there n → there (fault_of n 0) ≡ true → FirstFault there (Err (fault_of n 0))
  first_of n ep en clear e = (
    e,
    λ g before. ⊎_elim
        (λ (lt : number g < number (fault_of n 0)). clear.none g (omega (arith, lt, en)))
        (λ (w : (number g ≡ number (fault_of n 0)) × (concerned g < concerned (fault_of n 0))). absurd (omega (arith, w.1, ep))) before,
  )

  module _ {X : Type 0} (flawed : X → Bool) (xs : List X) (n : ℕ) (at : (p : ℕ) → there (fault_of n p) ≡ flawed_at flawed xs p) where
    -- the fault of the number n is a flaw, and p is the first place that has it
    pub first_flawed : (p : ℕ) → number (fault_of n p) ≡ n → concerned (fault_of n p) ≡ p → Clear there n → Some p ≡ position flawed xs → FirstFault there (Err (fault_of n p))
    first_flawed p en ep clear found =
        let least = first_flaw flawed xs (Some p) found in
        first_at n p en ep clear (zero-le, at p ∙ least.1, λ q from lt. at q ∙ least.2 q from lt)

    -- no place has it
    pub clear_flaw : Clear there n → None ≡ position flawed xs → Clear there (n + 1)
    clear_flaw clear none = clear_more n clear (λ p. at p ∙ first_flaw flawed xs None none p zero-le)
