use Rattle.std.proofs.Common.{◌≡◌, ◌&&◌, eqb, ltb}
use Rattle.model.specs.Making.{with_part}
use Rattle.supports.specs.Held.{supports_meaning}
use Rattle.supports.proofs.supports.Supports.add_row.Given as goal

abbrev pub invariant-loop-b : goal.invariant-loop-b
invariant-loop-b g l =
    supports_meaning l.self ≡ with_part l.i l.j (g.R.PairRule.permits l.rule) (λ x y. eqb x l.a && ltb y l.b) (supports_meaning l.initial.self)
