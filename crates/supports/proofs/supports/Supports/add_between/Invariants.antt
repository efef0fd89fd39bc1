use Rattle.std.proofs.Common.{◌≡◌, ◌&&◌, ltb}
use Rattle.model.specs.Making.{with_part}
use Rattle.supports.specs.Held.{supports_meaning}
use Rattle.supports.proofs.supports.Supports.add_between.Given as goal

-- the rule is added on the rows before a
abbrev pub invariant-loop-a : goal.invariant-loop-a
invariant-loop-a g l =
    supports_meaning l.self
    ≡ with_part l.i l.j (g.R.PairRule.permits l.rule) (λ x y. ltb x l.a && ltb y l.options) (supports_meaning l.initial.self)
