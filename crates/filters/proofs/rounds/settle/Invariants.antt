use Rattle.std.proofs.Common.{sum}
use Rattle.model.specs.Sets.{EachLine}
use Rattle.filters.specs.Keeping.{Keeps}
use Rattle.filters.proofs.rounds.settle.Given as goal

-- no good subset has lost an option, and each line has one
abbrev pub invariant-loop : goal.invariant-loop
invariant-loop g l = Keeps (g.L.Level.meaning l.level) (g.L.Level.passing l.level) l.initial.set l.set × EachLine (g.L.Level.meaning l.level) l.set

-- a strike makes a word smaller
abbrev pub decreases-loop : goal.decreases-loop
decreases-loop g l = sum l.set
