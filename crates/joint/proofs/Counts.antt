-- The first line on which the option counts of two sources differ.
use Rattle.std.proofs.Common.{◌≡◌, ℕ, ◌<◌, ◌≤◌, true, false, not, Option, None, Some, MatchOption, sym, ap, ◌∙◌, ⊎_elim, arith}
use Rattle.std.proofs.lemmas.Bool.{cases_lt, eq-eqb}
use Rattle.bits.specs.Least.{Least}
use Rattle.model.specs.Meaning.{Meaning, Lawful}
use Rattle.joint.specs.Faults.{unequal}

module _ (m n : Meaning) (p : Lawful m) (q : Lawful n) (lines : ℕ) (first : m.lines ≤ lines) (second : n.lines ≤ lines) where
  -- lines that both sources lack have no options in either
  past : (i : ℕ) → lines ≤ i → unequal m n i ≡ false
  past i h = ap not (eq-eqb (m.count i) (n.count i) (p.proper.count i (omega arith) ∙ sym (q.proper.count i (omega arith))))

  -- what is found of so many lines is found of all
  pub found_least : (r : Option ℕ)
      → MatchOption r ((k : ℕ) → 0 ≤ k → k < lines → unequal m n k ≡ false)
      (λ i. (0 ≤ i) × (i < lines) × (unequal m n i ≡ true) × ((k : ℕ) → 0 ≤ k → k < i → unequal m n k ≡ false))
      → Least (unequal m n) 0 r
  found_least None none = λ k h. ⊎_elim (none k h) (past k) (cases_lt k lines)
  found_least (Some i) found = (found.0, found.2, found.3)
