use Rattle.std.proofs.Common.{◌≡◌, ◌-◌, ◌^◌, not, ◌&&◌, ltb, leb, sym, ap, ◌∙◌, ⊎_elim, arith}
use Rattle.std.proofs.lemmas.Bool.{and_left, and_right, lt-leb, cases_lt}
use Rattle.std.proofs.lemmas.Bool.Decides.{nat_tests}
use Rattle.bits.specs.Bits.{on}
use Rattle.bits.proofs.Bits.{on_no_mask, on_past, on_out, on_ones}
use Rattle.bits.proofs.above.Goals as goal

pub returns-then-n-width : goal.returns-then-n-width
returns-then-n-width g c b =
    let m = g.W.Word in
    let w = m.number c.args.word in
    let n = c.args.n in
    ap (λ x. on x b) c.mask.ensures ∙ on_no_mask m.bits b ∙ sym (⊎_elim (λ h. and_right (on w b) (leb n b) (lt-leb n b (omega (arith, h, c.width.ensures.count, c.if-n-width.true))))
    (λ h. and_left (on w b) (leb n b) (on_past w m.bits b c.width.ensures.fits h)) (cases_lt b m.bits))

pub returns : goal.returns
returns g c b =
    let w = g.W.Word.number c.args.word in
    let n = c.args.n in
    let e : not (ltb b n) ≡ leb n b = grind (arith, nat_tests) in
    ap (λ x. on x b) c.less_below.ensures ∙ on_out w (2 ^ n - 1) b ∙ ap (λ t. on w b && not t) (on_ones n b) ∙ ap (λ t. on w b && t) e
