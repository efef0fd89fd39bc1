use Rattle.std.proofs.Common.{◌<◌, sym, ◌∙◌, arith}
use Rattle.std.proofs.lemmas.Bool.{le-ltb}
use Rattle.bits.proofs.Bits.{on_past, starts_on}
use Rattle.bits.proofs.has.Goals as goal

pub returns-then-b-width : goal.returns-then-b-width
returns-then-b-width g c = let m = g.W.Word in let some : 0 < m.bits = omega (arith, c.width.ensures.count, c.if-b-width.true) in c.starts_at.ensures ∙ starts_on m.bits (m.number c.args.word) c.args.b some

-- past the word's end
pub returns-else-b-width : goal.returns-else-b-width
returns-else-b-width g c = le-ltb c.args.b c.width.result c.if-b-width.false ∙ sym (on_past (g.W.Word.number c.args.word) g.W.Word.bits c.args.b c.width.ensures.fits (omega (arith, c.width.ensures.count, c.if-b-width.false)))
