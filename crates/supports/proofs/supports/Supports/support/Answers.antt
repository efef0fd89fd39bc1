use Rattle.std.proofs.Common.{◌<◌, length, get_or, vec_items, vec_len, ap, ◌∙◌, arith}
use Rattle.std.proofs.lemmas.List.{get_or_read_under}
use Rattle.bits.specs.Bits.{on}
use Rattle.supports.specs.Held.{counts}
use Rattle.supports.proofs.Indices.{many}
use Rattle.supports.proofs.Read.{support_bits, support_none}
use Rattle.supports.proofs.supports.Supports.support.Goals as goal
use Rattle.supports.proofs.supports.Supports.support.Goals.{then-i-lines-via-then-i-lines, then-i-lines-via-else-i-lines+then-j-lines, then-i-lines-via-else-i-lines+else-j-lines+then-a-self}

pub returns-then-i-lines : goal.returns-then-i-lines
returns-then-i-lines c b =
    let s = c.args.self.now in
    support_none s c.args.i c.args.a c.args.j b (λ h g k. elim c.then-i-lines.branch [
      | then-i-lines-via-then-i-lines w ↦ omega (arith, many s, w.if-i-lines.true)
      | then-i-lines-via-else-i-lines+then-j-lines w ↦ omega (arith, many s, w.if-j-lines.true)
      | then-i-lines-via-else-i-lines+else-j-lines+then-a-self w ↦ omega (arith, w.if-a-self.true)
    ])

pub returns : goal.returns
returns c b =
    let s = c.args.self.now in
    let i_lt : c.args.i < length (counts s) = omega (arith, many s) in
    let j_lt : c.args.j < length (counts s) = omega (arith, many s) in
    ap (λ w. on w b) (get_or_read_under (vec_items s.words) c.place_of.result (vec_len s.words) c.index.result.now 0 c.index.ensures c.place_of.ensures.inside s.words.ok.0
    ∙ ap (λ x. get_or (vec_items s.words) x 0) c.place_of.ensures.value)
    ∙ support_bits s c.args.i c.args.a c.args.j b i_lt j_lt c.if-a-self.false
