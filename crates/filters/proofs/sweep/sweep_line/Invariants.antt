use Rattle.filters.proofs.Sweeping.{LineLoop}
use Rattle.filters.proofs.sweep.sweep_line.Given as goal

-- the options before a were tested
abbrev pub invariant-loop-a : goal.invariant-loop-a
invariant-loop-a g l =
    LineLoop (g.L.Level.meaning l.level) (g.L.Level.passing l.level) (g.L.Level.touching l.level l.line l.line) l.line l.initial.set l.set l.struck l.a
