use Rattle.std.proofs.Common.{◌∙◌, arith}
use Rattle.bits.proofs.Bits.{lowest_cleared}
use Rattle.bits.proofs.pop.Goals as goal

pub returns-clause-left : goal.returns-clause-left
returns-clause-left g c = let e = c.in_ok-b.ensures in c.less_lowest.ensures ∙ lowest_cleared (g.W.Word.number c.args.word.now) c.in_ok-b.b e.1 (λ n l. e.2 n (omega arith) l)
