use Rattle.std.proofs.Common.{◌≡◌, fold, take}
use Rattle.supports.specs.Adding.{adding_if, unruled}
use Rattle.supports.specs.Held.{supports_meaning}
use Rattle.tables.specs.declared.records.TableRecord.{TableRecord}
use Rattle.tables.specs.Tables.{record_allows}
use Rattle.tables.proofs.records.Table.added.Given as goal

-- the records so far are added
abbrev pub invariant-loop-r : goal.invariant-loop-r
invariant-loop-r l =
    supports_meaning l.all
    ≡ fold (adding_if (λ (r : TableRecord). r.first) (λ (r : TableRecord). r.second) (record_allows l.self.words.now)) (unruled l.self.counts.now) (take l.r-index l.r-items)
