use Rattle.std.proofs.Common.{◌≡◌, ℕ, ◌-◌, ◌<◌, true}
use Rattle.model.specs.Passing.{Supported}
use Rattle.levels.proofs.arc.all_in_turn.Given as goal

-- every joined line that was passed has a support
abbrev pub invariant-loop-j : goal.invariant-loop-j
invariant-loop-j g l = (k : ℕ) → k < l.from → (g.S.RuleSource.meaning l.source).joined l.i k ≡ true → Supported (g.S.RuleSource.meaning l.source) l.set l.i l.a k

-- a line number is below 128
abbrev pub decreases-loop-j : goal.decreases-loop-j
decreases-loop-j g l = 128 - l.from
