use Rattle.std.proofs.Common.{Ok, sym, subst}
use Rattle.model.specs.Sets.{EachLine}
use Rattle.filters.specs.Sweeps.{RoundSwept}
use Rattle.filters.proofs.Strikes.{keeps_trans}
use Rattle.filters.proofs.Ends.{emptied}
use Rattle.filters.proofs.rounds.settle.Goals as goal

-- a round emptied a line
pub returns-in_err-sweep_all : goal.returns-in_err-sweep_all
returns-in_err-sweep_all g c =
    let x = c.args.level.now in
    let m = g.L.Level.meaning x in
    let P = g.L.Level.passing x in
    let s = c.args.set.now in
    let r = c.sweep_all.new.set in
    let round = c.in_err-sweep_all.ensures in
    emptied m P s r round.ended.0 c.from_residual-in_err-sweep_all.result (keeps_trans m P s c.loop.set r c.loop.invariant.0 round.keeps)
    round.ended.1 round.ended.2 c.from_residual-in_err-sweep_all.ensures.0

-- a round struck some
pub loop-preserved : goal.loop-preserved
loop-preserved g c =
    let x = c.args.level.now in
    let m = g.L.Level.meaning x in
    let P = g.L.Level.passing x in
    let r = c.sweep_all.new.set in
    let round = subst (λ b. RoundSwept m P c.loop.set r (Ok b)) c.if-branch.true c.in_ok-sweep_all.ensures in
    (keeps_trans m P c.args.set.now c.loop.set r c.loop.invariant.0 round.keeps, round.ended.1)

-- a round struck nothing
pub returns : goal.returns
returns g c =
    let x = c.args.level.now in
    let m = g.L.Level.meaning x in
    let P = g.L.Level.passing x in
    let r = c.sweep_all.new.set in
    let round = subst (λ b. RoundSwept m P c.loop.set r (Ok b)) c.if-branch.false c.in_ok-sweep_all.ensures in
    record {
      keeps = keeps_trans m P c.args.set.now c.loop.set r c.loop.invariant.0 round.keeps;
      ended = record { some = subst (λ q. EachLine m q) (sym round.ended.0) c.loop.invariant.1; pass = round.ended.1 };
    }
