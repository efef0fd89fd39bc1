use Rattle.std.proofs.Common.{arith}
use Rattle.filters.proofs.Sweeping.{round_emptied, round_more}
use Rattle.filters.proofs.rounds.sweep_all.Goals as goal

-- a line was emptied
pub returns-in_err-struck : goal.returns-in_err-struck
returns-in_err-struck g c =
    let x = c.args.level.now in
    let i = c.loop-i.i in
    round_emptied (g.L.Level.meaning x) (g.L.Level.passing x) c.args.set.now (g.L.Level.touching x i i) c.loop-i.set c.sweep_line.new.set
    c.loop-i.struck i c.in_err-struck.field-0.0 c.from_residual.result (omega arith) c.loop-i.invariant c.in_err-struck.ensures c.from_residual.ensures.0

pub loop-i-preserved : goal.loop-i-preserved
loop-i-preserved g c =
    let x = c.args.level.now in
    let i = c.loop-i.i in
    round_more (g.L.Level.meaning x) (g.L.Level.passing x) c.args.set.now (g.L.Level.touching x i i) c.loop-i.set c.sweep_line.new.set
    c.loop-i.struck c.in_ok-struck.field-0 i c.loop-i.invariant c.in_ok-struck.ensures
