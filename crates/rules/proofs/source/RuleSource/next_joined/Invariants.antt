use Rattle.std.proofs.Common.{◌≡◌, ℕ, ◌<◌, ◌≤◌, false}
use Rattle.rules.proofs.source.RuleSource.next_joined.Given as goal

-- no line that was passed is joined
abbrev pub invariant-loop-j : goal.invariant-loop-j
invariant-loop-j g l = (k : ℕ) → l.from ≤ k → k < l.j → (g.Self.RuleSource.meaning l.self).joined l.i k ≡ false
