use Rattle.std.proofs.Common.{eqb, ltb, ap, ◌∙◌}
use Rattle.std.proofs.lemmas.Bool.{cond-true, lt-ltb}
use Rattle.bits.specs.Bits.{on, marked}
use Rattle.bits.proofs.Bits.{on_marked}
use Rattle.std.proofs.Math.Bool.{or_comm}
use Rattle.neighbourhood.proofs.with_line.Goals as goal

pub returns : goal.returns
returns c k =
    let w = c.args.word in
    let i = c.args.line in
    ap (λ x. on x k) (c.with.ensures ∙ cond-true (ltb i 128) (marked w i) w (lt-ltb i 128 c.requires)) ∙ on_marked w i k ∙ or_comm (on w k) (eqb k i)
