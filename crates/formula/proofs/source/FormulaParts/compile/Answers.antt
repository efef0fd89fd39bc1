use Rattle.std.proofs.Common.{◌∙◌}
use Rattle.std.proofs.lemmas.Result.{IfOk-weaker}
use Rattle.supports.proofs.Folding.{all_meant}
use Rattle.formula.specs.declared.records.RuleRecord.{RuleRecord}
use Rattle.formula.specs.Formulas.{counts_of, rule_allows}
use Rattle.formula.proofs.source.FormulaParts.compile.Goals as goal

pub returns : goal.returns
returns c =
    let p = c.args.self.now in
    let ls = p.lines.now in
    IfOk-weaker c.added.result _ _ (λ s e. e ∙ all_meant (λ (r : RuleRecord). r.first) (λ (r : RuleRecord). r.second) (rule_allows ls p.values.now) (counts_of ls) p.rules.now)
    c.added.ensures
