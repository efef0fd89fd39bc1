use Rattle.std.proofs.Common.{arith}
use Rattle.filters.proofs.Tickets.{earliest}
use Rattle.filters.proofs.queue.Queue.first.Goals as goal

pub returns : goal.returns
returns c = earliest c.args.self.now.tickets c.loop-i.i c.loop-i.first c.loop-i.least (omega (arith, c.args.self.now.places, c.loop-i-test.false)) c.loop-i.invariant
