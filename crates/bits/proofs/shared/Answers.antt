use Rattle.std.proofs.Common.{ap, ◌∙◌}
use Rattle.bits.specs.Bits.{on}
use Rattle.bits.proofs.Bits.{on_and}
use Rattle.bits.proofs.shared.Goals as goal

pub returns : goal.returns
returns g c b = ap (λ x. on x b) c.met.ensures ∙ on_and (g.W.Word.number c.args.word) (g.W.Word.number c.args.other) b
