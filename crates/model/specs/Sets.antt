-- Option sets and plans; good sets and the largest good subset, for any passing P, where P s i a says
-- that option a of line i passes in the set s.
use Rattle.std.specs.Prelude.{◌≡◌, ℕ, ◌<◌, true, ◌⊎◌, List, ◌≢◌, slice_index}
use Rattle.bits.specs.Bits.{on}
use Rattle.model.specs.Meaning.{Meaning}

-- Option a of line i exists and is in the option set s, which has one word for each line: bit a of
-- the line's word stands for option a, a missing word is 0, and bits at or above the line's option
-- count are not read.
abbrev pub In : Meaning → List ℕ → ℕ → ℕ → Type 0
In m s i a = (i < m.lines) × (a < m.count i) × (on (slice_index s i) a ≡ true)

-- s is a subset of t
pub record Sub (m : Meaning) (s t : List ℕ) : Type 0 where
  pub all : (i a : ℕ) → In m s i a → In m t i a

-- s and t have the same options
pub record Same (m : Meaning) (s t : List ℕ) : Type 0 where
  pub there : Sub m s t
  pub back : Sub m t s

-- p names one option of each line, any two of them going together: a plan is a solution
pub record Plan (m : Meaning) (p : ℕ → ℕ) : Type 0 where
  pub real : (i : ℕ) → i < m.lines → p i < m.count i
  pub agree : (i j : ℕ) → i < m.lines → j < m.lines → (i ≢ j) → m.together i (p i) j (p j) ≡ true

-- the set s holds the plan p
abbrev pub Holds : Meaning → List ℕ → (ℕ → ℕ) → Type 0
Holds m s p = (i : ℕ) → i < m.lines → In m s i (p i)

-- t is s without some options of line i
pub record Less (m : Meaning) (i : ℕ) (s t : List ℕ) : Type 0 where
  pub sub : Sub m t s
  pub rest : (j a : ℕ) → (j ≢ i) → In m s j a → In m t j a

-- line i has an option in s
abbrev pub SomeOn : Meaning → List ℕ → ℕ → Type 0
SomeOn m s i = (a : ℕ) × In m s i a

-- line i has no option in s
abbrev pub NoneOn : Meaning → List ℕ → ℕ → Type 0
NoneOn m s i = (a : ℕ) → In m s i a → ⊥

-- each line has an option in s
abbrev pub EachLine : Meaning → List ℕ → Type 0
EachLine m s = (i : ℕ) → i < m.lines → SomeOn m s i

-- s has no options
abbrev pub Empty : Meaning → List ℕ → Type 0
Empty m s = (i a : ℕ) → In m s i a → ⊥

-- a good set that is not empty: each line has an option in it, and all its options pass in it
pub record Full (m : Meaning) (P : List ℕ → ℕ → ℕ → Type 0) (s : List ℕ) : Type 0 where
  pub some : EachLine m s
  pub pass : (i a : ℕ) → In m s i a → P s i a

-- a good set: it is empty, or each line has an option in it and all its options pass in it
abbrev pub Good : Meaning → (List ℕ → ℕ → ℕ → Type 0) → List ℕ → Type 0
Good m P s = Empty m s ⊎ Full m P s

-- r is the good subset of s that holds every other one
pub record Largest (m : Meaning) (P : List ℕ → ℕ → ℕ → Type 0) (s r : List ℕ) : Type 0 where
  pub good : Good m P r
  pub sub : Sub m r s
  pub holds : (t : List ℕ) → Good m P t → Sub m t s → Sub m t r
