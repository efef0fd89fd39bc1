-- The faults of the parts of a table source.
use Rattle.std.specs.Prelude.{ℕ, ◌+◌, Bool, false, not, ◌&&◌, List, length, nat_le, nat_lt, slice_index}
use Rattle.rules.specs.declared.fault.SourceFault.{SourceFault}
use Rattle.rules.specs.declared.fault.SourceFault.TheVariants.{Lines, Span, Values, Records, Names, Kind, Range, Words, Counts, Memory}
use Rattle.model.specs.Making.{two_of}
use Rattle.rules.specs.Faults.{flawed_at}
use Rattle.tables.specs.declared.records.TableRecord.{TableRecord}

-- the line has 0 or over 64 options
abbrev pub bad_count : ℕ → Bool
bad_count c = not (nat_lt 0 c && nat_le c 64)

-- the record names a missing line, or one line twice
abbrev pub bad_names : ℕ → TableRecord → Bool
bad_names n r = not (two_of n r.first r.second)

-- the record's words, one for each option of its first line, end outside the table
abbrev pub bad_words : List ℕ → ℕ → TableRecord → Bool
bad_words cs len r = not (nat_le (r.start + slice_index cs r.first) len)

-- which faults the parts have
abbrev pub table_fault : List ℕ → List TableRecord → List ℕ → SourceFault → Bool
table_fault cs rs ws Lines = not (nat_lt 0 (length cs) && nat_le (length cs) 128)
table_fault cs rs ws (Span i) = flawed_at bad_count cs i
table_fault cs rs ws (Values i) = false
table_fault cs rs ws Records = nat_lt 2048 (length rs)
table_fault cs rs ws (Names r) = flawed_at (bad_names (length cs)) rs r
table_fault cs rs ws (Kind r) = false
table_fault cs rs ws (Range r) = false
table_fault cs rs ws (Words r) = flawed_at (bad_words cs (length ws)) rs r
table_fault cs rs ws (Counts i) = false
table_fault cs rs ws Memory = false
