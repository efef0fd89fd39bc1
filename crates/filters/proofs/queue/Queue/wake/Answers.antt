use Rattle.std.proofs.Common.{◌+◌, sym, ap, ◌∙◌, subst₂, arith}
use Rattle.filters.specs.Queues.{Woken}
use Rattle.filters.specs.declared.queue.Queue.{Queue}
use Rattle.filters.proofs.Tickets.{woken_skip, woken_add}
use Rattle.filters.proofs.queue.Queue.wake.Goals as goal
use Rattle.filters.proofs.queue.Queue.wake.Goals.{then-wakes, else-wakes}

pub loop-j-preserved : goal.loop-j-preserved
loop-j-preserved g c =
    let touched = g.L.Level.touching c.args.level.now c.args.line in
    let ts = c.args.self.now.tickets in
    let us = c.loop-j.self.tickets in
    let last = c.args.self.now.last in
    let next = c.loop-j.self.last in
    let j = c.loop-j.j in
    let woken = c.loop-j.invariant in
    elim c.if-wakes.branch [
      | then-wakes w ↦
          subst₂ (λ vs n. Woken (j + 1) touched ts vs last n)
          (sym (ap (λ (q : Queue). q.tickets) w.self-is ∙ w.append.ensures.tickets)) (sym (ap (λ (q : Queue). q.last) w.self-is))
          (woken_add j touched ts us last next woken w.append.new.self.last (omega (arith, c.loop-j.self.places, (g.met.L.Level.lawful c.args.level.now).limits.few_lines)) (sym c.wakes.ensures ∙ w.if-wakes.true) w.append.ensures.later w.append.ensures.next)
      | else-wakes w ↦
          subst₂ (λ vs n. Woken (j + 1) touched ts vs last n) (sym (ap (λ (q : Queue). q.tickets) w.self-is)) (sym (ap (λ (q : Queue). q.last) w.self-is))
          (woken_skip j touched ts us last next woken (sym c.wakes.ensures ∙ w.if-wakes.false))
    ]
