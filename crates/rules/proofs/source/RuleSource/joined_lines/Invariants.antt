use Rattle.rules.proofs.Founds.{Found}
use Rattle.rules.proofs.source.RuleSource.joined_lines.Given as goal

-- of the lines before j, those that are joined are found
abbrev pub invariant-loop-j : goal.invariant-loop-j
invariant-loop-j g l = Found ((g.Self.RuleSource.meaning l.self).joined l.i) l.found l.j
