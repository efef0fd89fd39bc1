use Rattle.std.proofs.Common.{◌∙◌, arith}
use Rattle.bits.proofs.Bits.{past_end}
use Rattle.bits.proofs.wide.U128Word.zeros_from.Goals as goal

pub returns-else-from-lt128 : goal.returns-else-from-lt128
returns-else-from-lt128 c = c.width.ensures.count ∙ past_end 128 c.args.self c.args.from (omega arith) c.if-from-lt128.false
