use Rattle.bits.proofs.Pops.{Rest}
use Rattle.model.specs.Passing.{Supported}
use Rattle.levels.proofs.at_hand.all_of_word.Given as goal

-- every joined line that was taken out has a support
abbrev pub invariant-loop-j : goal.invariant-loop-j
invariant-loop-j g l = let m = g.S.RuleSource.meaning l.source in Rest (m.joined l.i) (Supported m l.set l.i l.a) l.rest

-- a bit that is taken out makes the word smaller
abbrev pub decreases-loop-j : goal.decreases-loop-j
decreases-loop-j g l = l.rest
