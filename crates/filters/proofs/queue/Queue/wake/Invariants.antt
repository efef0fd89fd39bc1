use Rattle.filters.specs.Queues.{Woken}
use Rattle.filters.proofs.queue.Queue.wake.Given as goal

-- of the lines before j, the touched ones are woken
abbrev pub invariant-loop-j : goal.invariant-loop-j
invariant-loop-j g l = Woken l.j (g.L.Level.touching l.level l.line) l.fn.self.tickets l.self.tickets l.fn.self.last l.self.last
