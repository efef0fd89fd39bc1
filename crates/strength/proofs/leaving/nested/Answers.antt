use Rattle.model.specs.Passing.{ArcPasses, NearPasses, SinglePasses}
use Rattle.model.proofs.Strength.{at_least_refl, near_at_least, single_over_arc, stronger_leaves}
use Rattle.strength.proofs.leaving.nested.Goals as goal

pub returns-clause-neighbourhood : goal.returns-clause-neighbourhood
returns-clause-neighbourhood g c near arc =
    let left = c.args.left.now in
    let m = g.S.RuleSource.meaning c.args.source.now in
    stronger_leaves m (NearPasses m) (ArcPasses m) (near_at_least m) c.args.set.now left.neighbourhood left.arc near.largest arc.largest

pub returns-clause-singleton : goal.returns-clause-singleton
returns-clause-singleton g c single near =
    let left = c.args.left.now in
    let m = g.S.RuleSource.meaning c.args.source.now in
    let Arcs = ArcPasses m in
    stronger_leaves m (SinglePasses m Arcs) (NearPasses m) (single_over_arc m Arcs (at_least_refl Arcs)) c.args.set.now left.singleton left.neighbourhood single.largest near.largest
