use Rattle.std.proofs.Common.{◌≡◌, true, false, rules, tests}
use Rattle.std.proofs.lemmas.Iterator.{first_from_Range}
use Rattle.joint.specs.Faults.{unequal}
use Rattle.joint.proofs.Counts.{found_least}
use Rattle.joint.proofs.check.first_unequal.Goals as goal

pub returns : goal.returns
returns g c =
    let x = c.args.first.now in
    let y = c.args.second.now in
    let m = g.A.RuleSource.meaning x in
    let n = g.B.RuleSource.meaning y in
    found_least m n (g.A.RuleSource.lawful x) (g.B.RuleSource.lawful y) c.args.lines c.requires.first c.requires.second c.find.result
    (first_from_Range _ _ _ _ (λ i. unequal m n i ≡ true) (λ i. unequal m n i ≡ false) c.find.ensures.ran
    (λ x q k. search (rules, tests))
    (λ x q k. (search rules, search (rules, tests))))
