use Rattle.std.proofs.Common.{◌≡◌, ℕ, ◌<◌, ◌≤◌, ◌&&◌, leb, get_or}
use Rattle.bits.specs.Bits.{on}
use Rattle.filters.proofs.sweep.strike_all.Given as goal

-- the words before i have lost their options, and the others are as found
abbrev pub invariant-loop-i : goal.invariant-loop-i
invariant-loop-i g l =
    ((k b : ℕ) → k < l.i → on (get_or l.set k 0) b ≡ (on (get_or l.initial.set k 0) b && leb ((g.L.Level.meaning l.level).count k) b))
    × ((k : ℕ) → l.i ≤ k → get_or l.set k 0 ≡ get_or l.initial.set k 0)
