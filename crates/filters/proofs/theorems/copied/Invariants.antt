use Rattle.std.proofs.Common.{◌≡◌, ℕ, ◌<◌, get_or}
use Rattle.filters.proofs.theorems.copied.Given as goal

-- the words before k are copied
abbrev pub invariant-loop-k : goal.invariant-loop-k
invariant-loop-k l = (k : ℕ) → k < l.k → get_or l.place-items k 0 ≡ get_or l.set k 0
