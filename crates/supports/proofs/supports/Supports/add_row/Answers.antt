use Rattle.std.proofs.Common.{◌≡◌, sym, ap, ◌∙◌, arith}
use Rattle.model.specs.Making.{with_part}
use Rattle.model.specs.Words.{words_meaning}
use Rattle.model.proofs.Parts.{row, part_frame, row_start, row_skip, row_ban}
use Rattle.supports.specs.Held.{supports_meaning}
use Rattle.supports.proofs.supports.Supports.add_row.Goals as goal
use Rattle.supports.proofs.supports.Supports.add_row.Goals.{then-not-allows, else-not-allows}

pub loop-b-init : goal.loop-b-init
loop-b-init g c = row_start c.args.i c.args.j (g.R.PairRule.permits c.args.rule.now) (supports_meaning c.args.self.now) c.args.a

pub forbid-requires : goal.forbid-requires
unfolding words_meaning
forbid-requires g c =
    let f = part_frame c.args.i c.args.j (g.R.PairRule.permits c.args.rule.now) (row c.args.a c.loop-b.b) (supports_meaning c.loop-b.self) (supports_meaning c.args.self.now) c.loop-b.invariant in
    record {
      joined = f.joined c.args.i c.args.j ∙ c.requires.joined;
      first = omega (arith, f.count c.args.i, c.requires.option);
      second = omega (arith, f.count c.args.j, c.requires.options);
    }

pub loop-b-preserved : goal.loop-b-preserved
loop-b-preserved g c =
    let i = c.args.i in
    let j = c.args.j in
    let f = g.R.PairRule.permits c.args.rule.now in
    let start = supports_meaning c.args.self.now in
    elim c.if-not-allows.branch [
      | then-not-allows w ↦ row_ban i j f start c.args.a c.loop-b.b (supports_meaning c.loop-b.self) (supports_meaning c.if-not-allows.self) c.loop-b.invariant (sym w.if-not-allows.ensures) (ap supports_meaning w.self-is ∙ w.forbid.ensures)
      | else-not-allows w ↦ row_skip i j f start c.args.a c.loop-b.b (supports_meaning c.loop-b.self) (supports_meaning c.if-not-allows.self) c.loop-b.invariant (sym w.if-not-allows.ensures) (ap supports_meaning w.self-is)
    ]

pub returns : goal.returns
returns g c =
    let b : c.loop-b.b ≡ c.args.options = omega arith in
    c.loop-b.invariant ∙ ap (λ x. with_part c.args.i c.args.j (g.R.PairRule.permits c.args.rule.now) (row c.args.a x) (supports_meaning c.args.self.now)) b
