use Rattle.std.proofs.Common.{ap, ◌∙◌}
use Rattle.bits.specs.Bits.{on}
use Rattle.bits.proofs.Bits.{on_mask}
use Rattle.bits.proofs.ones.Goals as goal

pub returns : goal.returns
returns g c b = ap (λ x. on x b) c.mask.ensures ∙ on_mask c.args.n g.W.Word.bits b
