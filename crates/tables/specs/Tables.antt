-- What the parts of a table source mean.
use Rattle.std.specs.Prelude.{ℕ, ◌+◌, Bool, List, slice_index}
use Rattle.bits.specs.Bits.{on}
use Rattle.model.specs.Meaning.{Meaning}
use Rattle.model.specs.Making.{records_meaning}
use Rattle.supports.specs.Adding.{meant}
use Rattle.tables.specs.declared.records.TableRecord.{TableRecord}

-- word start + a has bit b set if option a of the first line goes with option b of the second
abbrev pub record_allows : List ℕ → TableRecord → ℕ → ℕ → Bool
record_allows ws r a b = on (slice_index ws (r.start + a)) b

-- lines are joined if some record names them, and options go together if every record of their lines
-- allows them
abbrev pub table_meaning : List ℕ → List TableRecord → List ℕ → Meaning
table_meaning cs rs ws = records_meaning (λ (r : TableRecord). r.first) (λ (r : TableRecord). r.second) (record_allows ws) cs rs

-- what the words of any parts mean: the records that name two lines, or the bare source where the counts do not
-- keep the limits
abbrev pub table_words : List ℕ → List TableRecord → List ℕ → Meaning
table_words cs rs ws = meant (λ (r : TableRecord). r.first) (λ (r : TableRecord). r.second) (record_allows ws) cs rs
