use Rattle.std.proofs.Common.{ℕ}
use Rattle.filters.proofs.Tickets.{Earliest}
use Rattle.filters.proofs.queue.Queue.first.Given as goal

-- `first` is the line before i that has the least ticket, which is `least`, or none waits before i
abbrev pub invariant-loop-i : goal.invariant-loop-i
invariant-loop-i l = Earliest l.self.tickets l.i l.first l.least
