use Rattle.std.proofs.Common.{ltb, ap, ◌∙◌, subst, sym, arith}
use Rattle.std.specs.Bool.{then_some}
use Rattle.bits.specs.Bits.{on}
use Rattle.bits.specs.Least.{Least}
use Rattle.bits.proofs.Bits.{on_past, least_there}
use Rattle.bits.proofs.next_one.Goals as goal

pub returns-then-from-width : goal.returns-then-from-width
returns-then-from-width g c b h = on_past (g.W.Word.number c.args.word) g.W.Word.bits b c.width-width.ensures.fits (omega (arith, h, c.width-width.ensures.count, c.if-from-width.true))

pub returns : goal.returns
returns g c =
    let m = g.W.Word in
    let b = c.past_zeros-b.result in
    subst (Least (on (m.number c.args.word)) c.args.from) (sym (c.then_some.ensures ∙ ap (λ k. then_some (ltb b k) b) c.width-width.ensures.count))
    (least_there m.bits (m.number c.args.word) c.args.from b c.width-width.ensures.fits c.past_zeros-b.ensures)
