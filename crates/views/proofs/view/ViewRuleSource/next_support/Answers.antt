use Rattle.std.proofs.Common.{sym, ◌∙◌, subst}
use Rattle.bits.specs.Least.{Least}
use Rattle.model.proofs.Views.{view_row}
use Rattle.views.proofs.view.ViewRuleSource.next_support.Goals as goal

-- options of joined lines go together as in the source
pub returns-then-joined : goal.returns-then-joined
returns-then-joined g c =
    let x = c.args.self.now in
    subst (λ t. Least t c.args.from c.next_support.result)
    (view_row (g.S.RuleSource.meaning x.source) (g.S.RuleSource.lawful x.source) x.shown.lines.now c.args.i c.args.a c.args.j
    c.line.result c.line-then-joined.result (sym c.joined.ensures ∙ c.if-joined.true) c.line.ensures c.line-then-joined.ensures)
    c.next_support.ensures
