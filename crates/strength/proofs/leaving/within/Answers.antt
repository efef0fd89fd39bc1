use Rattle.std.proofs.Common.{subst}
use Rattle.model.specs.Sets.{Largest}
use Rattle.model.proofs.Strength.{stronger_leaves}
use Rattle.strength.proofs.leaving.within.Goals as goal

pub returns : goal.returns
returns g c same stronger strong weak =
    let a = c.args.strong.now in
    let b = c.args.weak.now in
    let P = g.A.Level.passing a in
    let s = c.args.set.now in
    let left = c.args.left.now in
    stronger_leaves (g.B.Level.meaning b) P (g.B.Level.passing b) stronger s left.strong left.weak
    (subst (λ m. Largest m P s left.strong) same strong.largest) weak.largest
