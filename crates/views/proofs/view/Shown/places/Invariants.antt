use Rattle.std.proofs.Common.{get_or}
use Rattle.bits.specs.Bits.{on}
use Rattle.rules.proofs.Founds.{Found}
use Rattle.views.proofs.view.Shown.places.Given as goal

-- of the places before p, those whose lines are in the word are found
abbrev pub invariant-loop-p : goal.invariant-loop-p
invariant-loop-p l = Found (λ p. on l.word (get_or l.self.lines.now p 0)) l.found l.p
