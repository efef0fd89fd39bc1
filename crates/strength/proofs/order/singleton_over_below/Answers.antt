use Rattle.model.proofs.Strength.{single_at_least}
use Rattle.strength.proofs.order.singleton_over_below.Goals as goal

pub returns : goal.returns
returns g c =
    let x = c.args.singleton.now.below in
    single_at_least (g.L.Level.meaning x) (g.L.Level.passing x) (g.met.L.Level.monotone x)
