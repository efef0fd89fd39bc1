use Rattle.std.proofs.Common.{arith}
use Rattle.model.proofs.Views.{words_joined}
use Rattle.views.proofs.view.Shown.joins.Goals as goal

-- all lines are passed
pub returns : goal.returns
returns g c =
    let x = c.args.source.now in
    let made = c.loop-line.invariant in
    words_joined (g.S.RuleSource.meaning x) (g.S.RuleSource.lawful x) c.args.self.now.lines.now c.loop-line.joins.items (omega (arith, made.0)) (λ k j lt. made.1 k (omega (arith, lt)) j)
