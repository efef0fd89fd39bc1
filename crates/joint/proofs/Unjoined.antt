-- A missing line is joined with none.
use Rattle.std.proofs.Common.{◌≡◌, ℕ, ◌≤◌, Bool, true, false, sym, refl, ◌∙◌, ⊎_elim, arith}
use Rattle.std.proofs.lemmas.Bool.{cases_Bool}
use Rattle.bits.specs.Bits.{on}
use Rattle.bits.proofs.Bits.{on_zero}
use Rattle.model.specs.Meaning.{Meaning, Lawful}
use Rattle.model.specs.Joints.{clipped, joint}
use Rattle.model.proofs.Joining.{clipped_lawful}

pub none_joined : (alike : Bool) (m n : Meaning) → Lawful m → Lawful n → (i : ℕ) → (alike ≡ true → m.lines ≤ i) → (j : ℕ) → on 0 j ≡ (joint alike m n).joined i j
none_joined true m n p q i past j = on_zero j ∙ sym (⊎_elim
    (λ t. absurd (omega (arith, ((clipped_lawful m n p q).proper.joined i j t).0, past refl))) (λ f. f) (cases_Bool ((clipped m n).joined i j)))
none_joined false m n p q i past j = on_zero j
