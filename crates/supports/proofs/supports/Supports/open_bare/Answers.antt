use Rattle.std.proofs.Common.{◌≡◌, [], ◌∷◌, ◌∙◌}
use Rattle.std.proofs.lemmas.Result.{IfOk-weaker}
use Rattle.model.specs.Making.{bare, no_rules}
use Rattle.model.proofs.Joining.{bare_is}
use Rattle.supports.specs.Held.{supports_meaning}
use Rattle.supports.proofs.supports.Supports.open_bare.Goals as goal

pub returns : goal.returns
returns c = IfOk-weaker c.open.result (λ s. supports_meaning s ≡ no_rules (1 ∷ [])) (λ s. supports_meaning s ≡ bare) (λ s e. e ∙ bare_is) c.open.ensures
