use mathlib.Core.Path.{subst}
use Rattle.model.specs.Passing.{ArcPasses, AtLeast, NearPasses, SinglePasses}
use Rattle.model.proofs.Strength.{at_least_refl, single_over_arc}
use Rattle.strength.proofs.order.singleton_over_neighbourhood.Goals as goal

pub returns : goal.returns
returns g c same =
    let m = g.S.RuleSource.meaning c.args.singleton.now.below.source in
    subst (λ n. AtLeast (SinglePasses m (ArcPasses m)) (NearPasses n)) same (single_over_arc m (ArcPasses m) (at_least_refl (ArcPasses m)))
