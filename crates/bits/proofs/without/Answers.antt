use Rattle.std.proofs.Common.{sym, arith}
use Rattle.bits.proofs.Bits.{cleared_past}
use Rattle.bits.proofs.without.Goals as goal

-- past the word's end
pub returns-then-b-width : goal.returns-then-b-width
returns-then-b-width g c = sym (cleared_past (g.W.Word.number c.args.word) g.W.Word.bits c.args.b c.width.ensures.fits (omega (arith, c.width.ensures.count, c.if-b-width.true)))
