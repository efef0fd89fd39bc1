use Rattle.std.proofs.Common.{◌∙◌}
use Rattle.std.proofs.lemmas.Result.{IfOk-weaker}
use Rattle.supports.proofs.Folding.{all_meant}
use Rattle.tables.specs.declared.records.TableRecord.{TableRecord}
use Rattle.tables.specs.Tables.{record_allows}
use Rattle.tables.proofs.source.TableParts.compile.Goals as goal

pub returns : goal.returns
returns c =
    let p = c.args.self.now in
    IfOk-weaker c.added.result _ _ (λ s e. e ∙ all_meant (λ (r : TableRecord). r.first) (λ (r : TableRecord). r.second) (record_allows p.words.now) p.counts.now p.records.now)
    c.added.ensures
