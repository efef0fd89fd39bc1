use Rattle.std.proofs.Common.{◌≡◌, true, pos, ◌-ℤ◌, arith}
use lib.Signed.{le_z}
use Rattle.std.proofs.lemmas.Grind.{common_steps}
use Rattle.std.proofs.lemmas.Int.{ints}
use Rattle.kinds.proofs.Steps.{step_of}
use Rattle.kinds.proofs.values.is_step.Goals as goal

pub returns-then-m-ge1 : goal.returns-then-m-ge1
returns-then-m-ge1 c =
    let some : le_z (pos 1) c.args.m ≡ true = grind (arith, ints) in
    let e = step_of c.args.m (c.args.x -ℤ c.args.y) c.args.k some in
    grind (arith, common_steps)
