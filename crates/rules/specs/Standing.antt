-- Supports that stand in a word.
use Rattle.std.specs.Prelude.{ℕ, Bool, ◌&&◌}
use Rattle.bits.specs.Bits.{on}
use Rattle.model.specs.Meaning.{Meaning}

-- option b of line j goes with option a of line i and stands in the word of line j
abbrev pub standing_with : Meaning → ℕ → ℕ → ℕ → ℕ → ℕ → Bool
standing_with m i a j standing b = m.together i a j b && on standing b
