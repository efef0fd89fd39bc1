use Rattle.std.proofs.Common.{◌≡◌, ℕ, ◌-◌, ◌<◌, ◌≤◌, false}
use Rattle.model.specs.Joints.{joint}
use Rattle.rules.specs.Standing.{standing_with}
use Rattle.joint.proofs.source.JointRuleSource.next_standing.Given as goal

-- no option that was passed both goes with option a of line i by both sources and stands
abbrev pub invariant-loop-c : goal.invariant-loop-c
invariant-loop-c g l =
    (l.from ≤ l.at)
    × ((b : ℕ) → l.from ≤ b → b < l.at
    → standing_with (joint l.self.alike (g.A.RuleSource.meaning l.self.first) (g.B.RuleSource.meaning l.self.second)) l.i l.a l.j l.standing b ≡ false)

-- an option number is below 64
abbrev pub decreases-loop-c : goal.decreases-loop-c
decreases-loop-c g l = 64 - l.at
