use Rattle.std.proofs.Common.{◌∙◌}
use Rattle.model.specs.Words.{words_meaning}
use Rattle.supports.proofs.Indices.{many}
use Rattle.supports.proofs.questions.SupportsRuleSource.lines.Goals as goal

pub returns : goal.returns
unfolding words_meaning
returns c = c.len.ensures ∙ many c.args.self.now
