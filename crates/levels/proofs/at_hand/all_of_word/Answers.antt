use Rattle.std.proofs.Common.{◌<◌, subst, sym, refl}
use Rattle.bits.proofs.Bits.{cleared_falls}
use Rattle.bits.proofs.Pops.{rest_pop}
use Rattle.model.specs.Passing.{Supported}
use Rattle.levels.proofs.at_hand.all_of_word.Goals as goal

pub loop-j-smaller : goal.loop-j-smaller
loop-j-smaller g c =
    let e = c.in-Some.ensures in
    let w = c.loop-j.rest in
    subst (λ v. v < w) (sym e.left) (cleared_falls w c.in-Some.j e.least.1)

pub loop-j-preserved : goal.loop-j-preserved
loop-j-preserved g c =
    let m = g.S.RuleSource.meaning c.args.source.now in
    let e = c.in-Some.ensures in
    rest_pop (m.joined c.args.i) (Supported m c.args.set.now c.args.i c.args.a) c.loop-j.rest c.pop.new.word c.in-Some.j e.left (c.if-not-supported.ensures.0 refl) c.loop-j.invariant
