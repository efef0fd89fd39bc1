-- What the trial of an option tells.
use Rattle.std.specs.Prelude.{◌≡◌, ℕ, ◌<◌, ◌&&◌, List, Some, None, Option, slice_index}
use Rattle.bits.specs.Bits.{on}
use Rattle.model.specs.Meaning.{Meaning, Is}
use Rattle.model.specs.Sets.{EachLine, Empty, Largest}
use Rattle.model.specs.Passing.{Held, SinglePasses, stays}

-- None: option a of line i does not pass in s, and every largest good subset at P of s with line i
-- held to the option is empty. Some r: it passes, r is the largest good subset at P of s with line i
-- held to it, and each line has an option in r. The bits of r that stand for no option are those of s, and
-- none on line i.
abbrev pub Tried : Meaning → (List ℕ → ℕ → ℕ → Type 0) → List ℕ → ℕ → ℕ → Option (List ℕ) → Type 0
Tried m P s i a None = (SinglePasses m P s i a → ⊥) × ((h r : List ℕ) → i < m.lines → Held m i a s h → Largest m P h r → Empty m r)
Tried m P s i a (Some r) = SinglePasses m P s i a × ((h : List ℕ) → Held m i a s h → Largest m P h r) × EachLine m r
    × ((k b : ℕ) → k < 128 → (Is m k b → ⊥) → on (slice_index r k) b ≡ (on (slice_index s k) b && stays i a k b))
