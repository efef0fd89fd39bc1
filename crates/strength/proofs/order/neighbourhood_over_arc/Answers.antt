use mathlib.Core.Path.{subst}
use Rattle.model.specs.Passing.{ArcPasses, AtLeast, NearPasses}
use Rattle.model.proofs.Strength.{near_at_least}
use Rattle.strength.proofs.order.neighbourhood_over_arc.Goals as goal

pub returns : goal.returns
returns g c same =
    let m = g.S.RuleSource.meaning c.args.neighbourhood.now.source in
    subst (λ n. AtLeast (NearPasses m) (ArcPasses n)) same (near_at_least m)
