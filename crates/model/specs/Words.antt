-- A source compiled into words: for each option and each other line one word, whose bit b stands for
-- option b of that line.
use Rattle.std.specs.Prelude.{◌≡◌, ℕ, ◌+◌, ◌*◌, ◌/◌, ◌%◌, ◌<◌, ◌≤◌, true, ◌&&◌, List, length, slice_index, slice_set}
use Rattle.bits.specs.Bits.{on, cleared, marked}
use Rattle.model.specs.Meaning.{Meaning, Lawful}
use Rattle.model.specs.Making.{two_lines, two_options}

-- where the word of option a of line i and the line j stands, among n lines of width places each
abbrev pub place : ℕ → ℕ → ℕ → ℕ → ℕ → ℕ
place n width i a j = (i * width + a) * n + j

-- one bit cleared in one word of a list
abbrev pub clear_at : List ℕ → ℕ → ℕ → List ℕ
clear_at ws p b = slice_set ws p (cleared (slice_index ws p) b)

-- one bit set in one word of a list
abbrev pub mark_at : List ℕ → ℕ → ℕ → List ℕ
mark_at ws p b = slice_set ws p (marked (slice_index ws p) b)

-- a word of joins for each line, and of supports for each option and line; no count is larger than
-- the width
pub record Sized (cs : List ℕ) (width : ℕ) (joins words : List ℕ) : Type 0 where
  pub joins_len : length joins ≡ length cs
  pub words_len : length words ≡ length cs * width * length cs
  pub counts_le : (i : ℕ) → slice_index cs i ≤ width
  pub width_le : width ≤ 64

-- only bits of lines and options that exist are set, and none of a line with itself
pub record Clean (cs : List ℕ) (width : ℕ) (joins words : List ℕ) : Type 0 where
  pub lines : (i j : ℕ) → on (slice_index joins i) j ≡ true → two_lines cs i j ≡ true
  pub options : (i a j b : ℕ) → i < length cs → a < width → j < length cs
      → on (slice_index words (place (length cs) width i a j)) b ≡ true → two_options cs i a j b ≡ true

-- the words where there are no rules: that at p has the bits of the options that exist, for the line,
-- the option and the other line that p stands for
abbrev pub Unruled : List ℕ → ℕ → List ℕ → Type 0
Unruled cs width words = (p b : ℕ) → p < length cs * width * length cs
    → on (slice_index words p) b ≡ two_options cs (p / length cs / width) (p / length cs % width) (p % length cs) b

-- what the words mean
unfoldable pub words_meaning : List ℕ → ℕ → List ℕ → List ℕ → Meaning
words_meaning cs width joins words = record {
  lines = length cs;
  count = λ i. slice_index cs i;
  joined = λ i j. two_lines cs i j && on (slice_index joins i) j;
  together = λ i a j b. two_options cs i a j b && on (slice_index words (place (length cs) width i a j)) b;
}

-- the words have their places and are clean, and what they mean has the facts of a source
pub record Compiled (cs : List ℕ) (width : ℕ) (joins words : List ℕ) : Type 0 where
  pub sized : Sized cs width joins words
  pub clean : Clean cs width joins words
  pub lawful : Lawful (words_meaning cs width joins words)
