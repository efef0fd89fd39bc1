use Rattle.std.proofs.Common.{sym, ap, ◌∙◌, vec_items}
use Rattle.bits.specs.Bits.{on}
use Rattle.supports.proofs.Lines.{joins_are}
use Rattle.supports.proofs.Read.{joins_bits}
use Rattle.supports.proofs.supports.Supports.joins.Goals as goal

pub returns : goal.returns
returns c j =
    ap (λ w. on w j) (ap (λ l. l.joins) c.line.ensures ∙ sym (joins_are (vec_items c.args.self.now.lines) c.args.i)) ∙ joins_bits c.args.self.now c.args.i j
