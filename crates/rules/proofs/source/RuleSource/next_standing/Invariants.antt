use Rattle.std.proofs.Common.{◌≡◌, ℕ, ◌-◌, ◌<◌, ◌≤◌, false}
use Rattle.rules.specs.Standing.{standing_with}
use Rattle.rules.proofs.source.RuleSource.next_standing.Given as goal

-- no option that was passed both goes with option a of line i and stands
abbrev pub invariant-loop-b : goal.invariant-loop-b
invariant-loop-b g l =
    (l.from ≤ l.at)
    × ((c : ℕ) → l.from ≤ c → c < l.at → standing_with (g.Self.RuleSource.meaning l.self) l.i l.a l.j l.standing c ≡ false)

-- a word has 64 bits
abbrev pub decreases-loop-b : goal.decreases-loop-b
decreases-loop-b g l = 64 - l.at
