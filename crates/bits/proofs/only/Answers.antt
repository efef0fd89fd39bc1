use Rattle.std.proofs.Common.{◌^◌, ◌&&◌, eqb, sym, ap, ◌∙◌, ⊎_elim, arith}
use Rattle.std.proofs.lemmas.Bool.{and_left, and_right, cases_lt, ne_eqb}
use Rattle.bits.specs.Bits.{on}
use Rattle.bits.proofs.Bits.{on_and, on_no_mask, on_past, on_pow}
use Rattle.bits.proofs.only.Goals as goal

pub returns-then-b-width : goal.returns-then-b-width
returns-then-b-width g c q =
    let m = g.W.Word in
    let w = m.number c.args.word in
    let b = c.args.b in
    ap (λ x. on x q) c.mask.ensures ∙ on_no_mask m.bits q ∙ sym (⊎_elim (λ h. and_right (on w q) (eqb q b) (ne_eqb q b (λ e. omega (arith, e, h, c.width.ensures.count, c.if-b-width.true))))
    (λ h. and_left (on w q) (eqb q b) (on_past w m.bits q c.width.ensures.fits h)) (cases_lt q m.bits))

pub returns : goal.returns
returns g c q =
    let w = g.W.Word.number c.args.word in
    let b = c.args.b in
    ap (λ x. on x q) c.kept_at.ensures ∙ on_and w (2 ^ b) q ∙ ap (λ t. on w q && t) (on_pow b q)
