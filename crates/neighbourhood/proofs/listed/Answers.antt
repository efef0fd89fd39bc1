use Rattle.std.proofs.Common.{◌<◌, sym, subst, ⊎_elim, arith}
use Rattle.std.proofs.lemmas.Bool.{both_ways, cases_lt}
use Rattle.bits.specs.Bits.{on}
use Rattle.bits.proofs.Bits.{cleared_falls, on_past}
use Rattle.neighbourhood.proofs.Listing.{Listing, listing_push}
use Rattle.neighbourhood.proofs.listed.Goals as goal

-- fewer bits were listed than the least that is left has below it
pub push-requires : goal.push-requires
push-requires c =
    let k = c.in-Some.k in
    let inv = c.loop-k.invariant in
    let on_k = c.in-Some.ensures.least.1 in
    let few : k < 128 = ⊎_elim (λ l. l) (λ past. absurd (both_ways (on c.args.word k) (on_past c.args.word 128 k c.ranges.word.fits past) (inv.left.0 k on_k))) (cases_lt k 128) in
    omega (arith, inv.few k on_k)

pub loop-k-smaller : goal.loop-k-smaller
loop-k-smaller c =
    let e = c.in-Some.ensures in
    subst (λ w. w < c.loop-k.rest) (sym e.left) (cleared_falls c.loop-k.rest c.in-Some.k e.least.1)

pub loop-k-preserved : goal.loop-k-preserved
loop-k-preserved c =
    let e = c.in-Some.ensures in
    subst (Listing c.args.word c.pop.new.word) (sym c.push.ensures.items)
    (listing_push c.args.word c.loop-k.rest c.pop.new.word c.in-Some.k c.loop-k.lines.items c.loop-k.invariant e.least e.left)
