use Rattle.std.proofs.Common.{Ok, subst}
use Rattle.filters.specs.Sweeps.{LineSwept}
use Rattle.filters.proofs.Strikes.{keeps_trans}
use Rattle.filters.proofs.Ends.{emptied}
use Rattle.filters.proofs.Queueing.{queued_clean, queued_strike}
use Rattle.filters.proofs.queue.settle.Goals as goal

-- a line was emptied
pub returns-in_err-sweep_line : goal.returns-in_err-sweep_line
returns-in_err-sweep_line g c =
    let x = c.args.level.now in
    let m = g.L.Level.meaning x in
    let P = g.L.Level.passing x in
    let s = c.args.set.now in
    let r = c.sweep_line.new.set in
    let i = c.in-Some.i in
    let q = c.loop-i.invariant in
    let line = c.in_err-sweep_line.ensures in
    emptied m P s r i c.from_residual-in_err-sweep_line.result (keeps_trans m P s c.loop-i.set r q.keeps line.keeps)
    (q.real i (c.in-Some.ensures.0.0, c.in-Some.ensures.0.1)) line.ended c.from_residual-in_err-sweep_line.ensures.0

-- something was struck
pub loop-i-preserved-then-branch : goal.loop-i-preserved-then-branch
loop-i-preserved-then-branch g c =
    let x = c.args.level.now in
    let m = g.L.Level.meaning x in
    let P = g.L.Level.passing x in
    let T = g.L.Level.touching x in
    let r = c.loop-i.set in
    let r' = c.sweep_line.new.set in
    let i = c.in-Some.i in
    let first = c.in-Some.ensures.0 in
    queued_strike m P c.args.set.now r r' c.loop-i.queue.tickets c.take_first.new.self.tickets i (first.0, first.1) c.in-Some.ensures.1 c.loop-i.invariant
    T (g.met.L.Level.touch x) c.wake.new.self.tickets c.take_first.new.self.last c.wake.new.self.last
    (subst (λ b. LineSwept m P (T i i) i r r' (Ok b)) c.if-branch.true c.in_ok-sweep_line.ensures) c.wake.ensures

-- nothing was struck
pub loop-i-preserved : goal.loop-i-preserved
loop-i-preserved g c =
    let x = c.args.level.now in
    let m = g.L.Level.meaning x in
    let P = g.L.Level.passing x in
    let i = c.in-Some.i in
    let self = g.L.Level.touching x i i in
    let r = c.loop-i.set in
    let r' = c.sweep_line.new.set in
    let first = c.in-Some.ensures.0 in
    queued_clean m P c.args.set.now r r' c.loop-i.queue.tickets c.take_first.new.self.tickets i (first.0, first.1) c.in-Some.ensures.1 c.loop-i.invariant
    self (subst (λ b. LineSwept m P self i r r' (Ok b)) c.if-branch.false c.in_ok-sweep_line.ensures)
