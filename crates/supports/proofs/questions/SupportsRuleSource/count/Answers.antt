use Rattle.std.proofs.Common.{sym, ap, ◌∙◌, vec_items}
use Rattle.model.specs.Words.{words_meaning}
use Rattle.supports.proofs.Lines.{count_is}
use Rattle.supports.proofs.questions.SupportsRuleSource.count.Goals as goal

pub returns : goal.returns
unfolding words_meaning
returns c = ap (λ l. l.count) c.line.ensures ∙ sym (count_is (vec_items c.args.self.now.lines) c.args.line)
