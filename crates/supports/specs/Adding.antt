-- A source of option counts, and a rule more.
use Rattle.std.specs.Prelude.{ℕ, Bool, cond, ◌&&◌, List, filter, length, nat_le, nat_lt}
use Rattle.model.specs.Meaning.{Meaning}
use Rattle.model.specs.Making.{bare, counts_ok, no_rules, records_meaning, two_of, with_rule}

-- there are 1 to 128 lines, and each has 1 to 64 options
abbrev pub fit : List ℕ → Bool
fit cs = nat_lt 0 (length cs) && (nat_le (length cs) 128 && counts_ok cs)

-- no rules between lines of these option counts, or the bare source where they do not keep the limits
abbrev pub unruled : List ℕ → Meaning
unruled cs = cond (fit cs) (no_rules cs) bare

-- the rule f between the lines i and j more, if they exist and differ
abbrev pub ruled : ℕ → ℕ → (ℕ → ℕ → Bool) → Meaning → Meaning
ruled i j f m = cond (two_of m.lines i j) (with_rule i j f m) m

module _ {R : Type 0} (first second : R → ℕ) (f : R → ℕ → ℕ → Bool) where
  -- one record more, if its lines exist and differ
  abbrev pub adding_if : Meaning → R → Meaning
  adding_if m r = ruled (first r) (second r) (f r) m

  -- the record names two lines of the first n
  abbrev pub names_lines : ℕ → R → Bool
  names_lines n r = two_of n (first r) (second r)

  -- what these counts and records mean, with faults or without: records that do not name two lines say
  -- nothing, and counts that do not keep the limits make the bare source
  abbrev pub meant : List ℕ → List R → Meaning
  meant cs rs = cond (fit cs) (records_meaning first second f cs (filter (names_lines (length cs)) rs)) bare
