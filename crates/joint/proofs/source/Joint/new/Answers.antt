use Rattle.joint.proofs.Makings.{joint_makes}
use Rattle.joint.proofs.source.Joint.new.Goals as goal

pub returns : goal.returns
returns g c =
    joint_makes (g.A.RuleSource.meaning c.args.first) (g.B.RuleSource.meaning c.args.second) (g.A.RuleSource.lawful c.args.first) (g.B.RuleSource.lawful c.args.second)
    c.are_alike-alike.result c.are_alike-alike.ensures
