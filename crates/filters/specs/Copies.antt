-- Option sets in 128 words, which is as many as there can be lines.
use Rattle.std.specs.Prelude.{◌≡◌, ℕ, ◌<◌, List, slice_index}
use Rattle.bits.specs.Bits.{on}
use Rattle.model.specs.Meaning.{Meaning, Is}
use Rattle.model.specs.Sets.{Largest}

-- u has the first 128 words of s
pub record CopyOf (s u : List ℕ) : Type 0 where
  pub words : (k : ℕ) → k < 128 → slice_index u k ≡ slice_index s k

-- in these words, the bits that stand for no existing option are in r as in s
abbrev pub RestFound : Meaning → List ℕ → List ℕ → Type 0
RestFound m s r = (i a : ℕ) → i < 128 → (Is m i a → ⊥) → on (slice_index r i) a ≡ on (slice_index s i) a

-- what a level leaves of s: r is the largest good subset of s, and its other bits are those of s
pub record Leaves (m : Meaning) (P : List ℕ → ℕ → ℕ → Type 0) (s r : List ℕ) : Type 0 where
  pub largest : Largest m P s r
  pub rest : RestFound m s r
