-- What a checked joint source means.
use Rattle.std.proofs.Common.{Bool, true, false, eqb, refl}
use Rattle.std.proofs.lemmas.Bool.{eqb-true, not-false}
use Rattle.model.specs.Meaning.{Meaning, Lawful}
use Rattle.model.specs.Joints.{both, joint}
use Rattle.model.proofs.Joining.{clipped_both}
use Rattle.rules.specs.declared.fault.SourceFault.TheVariants.{Counts}
use Rattle.rules.specs.Faults.{Makes}
use Rattle.rules.proofs.Makings.{makes_sound, makes_bare}
use Rattle.joint.specs.Faults.{FoundAlike, joint_fault}

pub joint_makes : (m n : Meaning) → Lawful m → Lawful n → (alike : Bool) → FoundAlike alike m n → Makes (joint_fault m n) (both m n) (joint alike m n)
joint_makes m n p q true none =
    makes_sound (joint_fault m n) (both m n) (joint true m n) none
    (clipped_both m n p q (λ i. eqb-true (m.count i) (n.count i) (not-false (eqb (m.count i) (n.count i)) (none (Counts i)))))
joint_makes m n p q false some = makes_bare (joint_fault m n) (both m n) (joint false m n) some refl
