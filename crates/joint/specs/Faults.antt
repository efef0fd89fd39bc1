-- The fault of two sources that are to be joined.
use Rattle.std.specs.Prelude.{ℕ, Bool, false, not, MatchBool, ◌==◌}
use Rattle.model.specs.Meaning.{Meaning}
use Rattle.rules.specs.Faults.{Faulty, Sound}
use Rattle.rules.specs.declared.fault.SourceFault.{SourceFault}
use Rattle.rules.specs.declared.fault.SourceFault.TheVariants.{Lines, Span, Values, Records, Names, Kind, Range, Words, Counts, Memory}

-- the option counts of a line differ
abbrev pub unequal : Meaning → Meaning → ℕ → Bool
unequal m n i = not (m.count i == n.count i)

-- the one fault that two sources can have: different option counts on a line
abbrev pub joint_fault : Meaning → Meaning → SourceFault → Bool
joint_fault m n Lines = false
joint_fault m n (Span i) = false
joint_fault m n (Values i) = false
joint_fault m n Records = false
joint_fault m n (Names r) = false
joint_fault m n (Kind r) = false
joint_fault m n (Range r) = false
joint_fault m n (Words r) = false
joint_fault m n (Counts i) = unequal m n i
joint_fault m n Memory = false

-- whether two sources are found alike: there is no fault, or there is some
abbrev pub FoundAlike : Bool → Meaning → Meaning → Type 0
FoundAlike alike m n = MatchBool alike (Sound (joint_fault m n)) (Faulty (joint_fault m n))
