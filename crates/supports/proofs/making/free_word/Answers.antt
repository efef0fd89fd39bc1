use Rattle.std.proofs.Common.{◌≡◌, ◌<◌, true, ◌∙◌, sym, length, arith}
use mathlib.Core.Path.{fun_ext}
use Rattle.std.proofs.lemmas.Bool.Decides.{nat_tests}
use Rattle.model.specs.Making.{two_of}
use Rattle.model.proofs.Pairs.{count_at}
use Rattle.supports.proofs.making.free_word.Goals as goal

pub returns-then-a-counts : goal.returns-then-a-counts
returns-then-a-counts c =
    let cs = c.args.counts.now in
    let two : two_of (length cs) c.args.i c.args.j ≡ true = sym c.if-names_two.ensures in
    let j_lt : c.args.j < length cs = grind (arith, nat_tests) in
    let small = (count_at cs c.requires c.args.j j_lt).1 in
    fun_ext (λ b. c.ones.ensures b ∙ grind (arith, nat_tests))
