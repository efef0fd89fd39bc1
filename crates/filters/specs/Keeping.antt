-- Striking options of a set s so that no good subset loses any, which leaves r.
use Rattle.std.specs.Prelude.{◌≡◌, ℕ, List, slice_index}
use Rattle.bits.specs.Bits.{on}
use Rattle.model.specs.Meaning.{Meaning, Is}
use Rattle.model.specs.Sets.{Sub, Full}

-- the bits that stand for no existing option are in r as in s: those at or above a line's count, and
-- all of the words past the last line
abbrev pub AsFound : Meaning → List ℕ → List ℕ → Type 0
AsFound m s r = (i a : ℕ) → (Is m i a → ⊥) → on (slice_index r i) a ≡ on (slice_index s i) a

-- r is a subset of s, holds every good subset of s, and has its other bits as found
pub record Keeps (m : Meaning) (P : List ℕ → ℕ → ℕ → Type 0) (s r : List ℕ) : Type 0 where
  pub sub : Sub m r s
  pub holds : (t : List ℕ) → Full m P t → Sub m t s → Sub m t r
  pub rest : AsFound m s r
