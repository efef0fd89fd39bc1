use Rattle.filters.proofs.Ends.{leaves}
use Rattle.filters.proofs.theorems.left_of.Goals as goal

pub returns : goal.returns
returns g c s copy =
    let x = c.args.level.now in
    leaves (g.L.Level.meaning x) (g.L.Level.passing x) (g.met.L.Level.lawful x).limits.few_lines s c.args.set c.by_rounds.new.set c.by_rounds.result copy c.by_rounds.ensures
