use Rattle.std.proofs.Common.{subst}
use Rattle.filters.specs.Filtering.{Ran}
use Rattle.filters.proofs.Ends.{no_plan, settles}
use Rattle.filters.proofs.ending.ended.Goals as goal

pub returns-in-Ok : goal.returns-in-Ok
returns-in-Ok g c s ran =
    let x = c.args.level.now in
    let m = g.L.Level.meaning x in
    let P = g.L.Level.passing x in
    let r = c.args.set.now in
    settles m P (g.met.L.Level.plans x) s r c.in-Ok.field-0 (subst (Ran m P s r) c.in-Ok.is ran)

pub returns-in-Err : goal.returns-in-Err
returns-in-Err g c s ran =
    let x = c.args.level.now in
    let m = g.L.Level.meaning x in
    let P = g.L.Level.passing x in
    let r = c.args.set.now in
    no_plan m P (g.met.L.Level.plans x) (g.met.L.Level.lawful x) s r c.strike_all.new.set c.in-Err.field-0 (subst (Ran m P s r) c.in-Err.is ran) c.strike_all.ensures
