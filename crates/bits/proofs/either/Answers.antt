use Rattle.std.proofs.Common.{ap, ◌∙◌}
use Rattle.bits.specs.Bits.{on}
use Rattle.bits.proofs.Bits.{on_or}
use Rattle.bits.proofs.either.Goals as goal

pub returns : goal.returns
returns g c b = ap (λ x. on x b) c.joined.ensures ∙ on_or (g.W.Word.number c.args.word) (g.W.Word.number c.args.other) b
