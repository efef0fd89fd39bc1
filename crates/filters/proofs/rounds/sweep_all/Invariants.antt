use Rattle.filters.proofs.Sweeping.{RoundLoop}
use Rattle.filters.proofs.rounds.sweep_all.Given as goal

-- the lines before i were swept
abbrev pub invariant-loop-i : goal.invariant-loop-i
invariant-loop-i g l = RoundLoop (g.L.Level.meaning l.level) (g.L.Level.passing l.level) l.initial.set l.set l.struck l.i
