use Rattle.std.proofs.Common.{◌≡◌, ℕ, ◌<◌, ◌&&◌, length, get_or}
use Rattle.bits.specs.Bits.{on}
use Rattle.model.specs.Passing.{stays}
use Rattle.neighbourhood.proofs.held_words.Given as goal

-- the words before the line's place are made
abbrev pub invariant-loop-line : goal.invariant-loop-line
invariant-loop-line l =
    let v = l.looked.items in
    (length l.words.items ≡ l.line-index)
    × ((q : ℕ) → q < l.line-index → (b : ℕ) → on (get_or l.words.items q 0) b ≡ (on (get_or l.set (get_or v q 0) 0) b && stays l.centre l.option (get_or v q 0) b))
