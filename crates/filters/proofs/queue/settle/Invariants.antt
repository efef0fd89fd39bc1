use Rattle.std.proofs.Common.{◌+◌, ◌*◌, sum}
use Rattle.filters.proofs.Queueing.{Queued}
use Rattle.filters.proofs.Tickets.{waiting}
use Rattle.filters.proofs.queue.settle.Given as goal

-- the options of a line that does not wait all pass
abbrev pub invariant-loop-i : goal.invariant-loop-i
invariant-loop-i g l = Queued (g.L.Level.meaning l.level) (g.L.Level.passing l.level) l.fn.set l.set l.queue.tickets

-- a strike makes a word smaller; else one line fewer waits, of at most 128
abbrev pub decreases-loop-i : goal.decreases-loop-i
decreases-loop-i g l = sum l.set * 129 + waiting l.queue.tickets
