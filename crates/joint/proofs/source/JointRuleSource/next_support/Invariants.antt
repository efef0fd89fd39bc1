use Rattle.std.proofs.Common.{◌≡◌, ℕ, ◌-◌, ◌<◌, ◌≤◌, false}
use Rattle.model.specs.Joints.{joint}
use Rattle.joint.proofs.source.JointRuleSource.next_support.Given as goal

-- what was passed does not go with option a of line i by both sources
abbrev pub invariant-loop-b : goal.invariant-loop-b
invariant-loop-b g l =
    (l.from ≤ l.at)
    × ((c : ℕ) → l.from ≤ c → c < l.at
    → (joint l.self.alike (g.A.RuleSource.meaning l.self.first) (g.B.RuleSource.meaning l.self.second)).together l.i l.a l.j c ≡ false)

-- an option number is below 64
abbrev pub decreases-loop-b : goal.decreases-loop-b
decreases-loop-b g l = 64 - l.at
