use Rattle.std.proofs.Common.{◌∙◌, arith}
use Rattle.bits.proofs.Bits.{past_end}
use Rattle.bits.proofs.narrow.U64Word.zeros_from.Goals as goal

pub returns-else-from-lt64 : goal.returns-else-from-lt64
returns-else-from-lt64 c = c.width.ensures.count ∙ past_end 64 c.args.self c.args.from (omega arith) c.if-from-lt64.false
