-- Which options pass at each level, and when one level is at least as strong as another.
use Rattle.std.specs.Prelude.{◌≡◌, ℕ, ◌<◌, Bool, true, not, ◌||◌, List, ◌==◌}
use Rattle.model.specs.Meaning.{Meaning}
use Rattle.model.specs.Making.{two_of}
use Rattle.model.specs.Sets.{In, Sub, SomeOn, Full}

-- line j has an option in s that goes with option a of line i: the option has a support on line j
abbrev pub Supported : Meaning → List ℕ → ℕ → ℕ → ℕ → Type 0
Supported m s i a j = (b : ℕ) × In m s j b × (m.together i a j b ≡ true)

-- every line that is joined with line i has such an option
abbrev pub AllSupported : Meaning → List ℕ → ℕ → ℕ → Type 0
AllSupported m s i a = (j : ℕ) → m.joined i j ≡ true → Supported m s i a j

-- arc consistency: every joined line has an option in the set that goes with option a of line i
pub record ArcPasses (m : Meaning) (s : List ℕ) (i a : ℕ) : Type 0 where
  pub here : In m s i a
  pub all : AllSupported m s i a

-- line k is line i or joined with it
abbrev pub near : Meaning → ℕ → ℕ → Bool
near m i k = k == i || m.joined i k

-- Neighbourhood singleton arc consistency: line i is held to option a, and only it and its joined lines
-- are looked at. Some part of these options has an option on each of these lines, and each option in
-- it goes with one on every line joined to its own among them. So a rule between two of the joined
-- lines counts, and a line outside does not.
pub record NearPasses (m : Meaning) (s : List ℕ) (i a : ℕ) : Type 0 where
  pub here : In m s i a
  pub part : List ℕ
  pub held : (b : ℕ) → In m part i b → b ≡ a
  pub sub : (k b : ℕ) → near m i k ≡ true → In m part k b → In m s k b
  pub some : (k : ℕ) → k < m.lines → near m i k ≡ true → SomeOn m part k
  pub pass : (k b j : ℕ) → near m i k ≡ true → near m i j ≡ true → In m part k b → m.joined k j ≡ true → Supported m part k b j

-- whether option b of line k stays where line i is held to option a
abbrev pub stays : ℕ → ℕ → ℕ → ℕ → Bool
stays i a k b = not (k == i) || b == a

-- h is s with line i held to option a: on line i it has a alone, if s has a, and on the other lines
-- what s has
pub record Held (m : Meaning) (i a : ℕ) (s h : List ℕ) : Type 0 where
  pub sub : Sub m h s
  pub only : (b : ℕ) → In m h i b → b ≡ a
  pub all : (k b : ℕ) → (k ≡ i → b ≡ a) → In m s k b → In m h k b

-- singleton consistency over the level P: the set with line i held to option a has a part that is
-- good at P and not empty, so that its largest good subset at P is not empty
pub record SinglePasses (m : Meaning) (P : List ℕ → ℕ → ℕ → Type 0) (s : List ℕ) (i a : ℕ) : Type 0 where
  pub here : In m s i a
  pub part : List ℕ
  pub full : Full m P part
  pub sub : Sub m part s
  pub held : (b : ℕ) → In m part i b → b ≡ a

-- at singleton a line touches every other line
abbrev pub single_touching : Meaning → ℕ → ℕ → Bool
single_touching m i j = two_of m.lines i j

-- level P is at least as strong as level Q: whatever passes at P in any set passes at Q in it
abbrev pub AtLeast : (List ℕ → ℕ → ℕ → Type 0) → (List ℕ → ℕ → ℕ → Type 0) → Type 0
AtLeast P Q = (s : List ℕ) (i a : ℕ) → P s i a → Q s i a
