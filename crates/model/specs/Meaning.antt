-- What a rule source means, and the facts that it must show. A line is a variable of a constraint
-- problem, an option one of its values, and a rule source its binary constraints.
use Rattle.std.specs.Prelude.{◌≡◌, ℕ, ◌<◌, ◌≤◌, Bool, true, false, ◌≢◌}

-- The number of lines, the option count of each line, which lines are joined by a rule, and which
-- options of two lines go together. Lines and options are numbered from 0.
pub record Meaning : Type 0 where
  pub lines : ℕ
  pub count : ℕ → ℕ
  pub joined : ℕ → ℕ → Bool
  pub together : ℕ → ℕ → ℕ → ℕ → Bool

-- option a of line i exists
abbrev pub Is : Meaning → ℕ → ℕ → Type 0
Is m i a = (i < m.lines) × (a < m.count i)

-- there are 1 to 128 lines, and each has 1 to 64 options
pub record Limits (m : Meaning) : Type 0 where
  pub some_line : 0 < m.lines
  pub few_lines : m.lines ≤ 128
  pub some_option : (i : ℕ) → i < m.lines → 0 < m.count i
  pub few_options : (i : ℕ) → i < m.lines → m.count i ≤ 64

-- joined and going together are the same from either side
pub record Mirrored (m : Meaning) : Type 0 where
  pub joined : (i j : ℕ) → m.joined i j ≡ m.joined j i
  pub together : (i a j b : ℕ) → m.together i a j b ≡ m.together j b i a

-- options of two lines that are not joined all go together
pub record Free (m : Meaning) : Type 0 where
  pub all : (i a j b : ℕ) → Is m i a → Is m j b → (i ≢ j) → m.joined i j ≡ false → m.together i a j b ≡ true

-- a missing line has no options; only two lines that exist are joined, and only options that exist
-- of two lines go together
pub record Proper (m : Meaning) : Type 0 where
  pub count : (i : ℕ) → m.lines ≤ i → m.count i ≡ 0
  pub joined : (i j : ℕ) → m.joined i j ≡ true → (i < m.lines) × (j < m.lines) × (i ≢ j)
  pub together : (i a j b : ℕ) → m.together i a j b ≡ true → Is m i a × Is m j b × (i ≢ j)

-- all facts of a source
pub record Lawful (m : Meaning) : Type 0 where
  pub limits : Limits m
  pub mirrored : Mirrored m
  pub free : Free m
  pub proper : Proper m
