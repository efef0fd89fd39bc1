use Rattle.std.proofs.Common.{◌≡◌, true, ◌-◌, ◌^◌, ◌&&◌, ltb, sym, ap, ◌∙◌, ⊎_elim, arith}
use Rattle.std.proofs.lemmas.Bool.{and_left, cases_lt, lt-ltb}
use Rattle.std.proofs.lemmas.Bool.Decides.{nat_tests}
use Rattle.bits.specs.Bits.{on}
use Rattle.bits.proofs.Bits.{on_and, on_ones, on_past}
use Rattle.bits.proofs.below.Goals as goal

pub returns-then-n-width : goal.returns-then-n-width
returns-then-n-width g c b =
    let m = g.W.Word in
    let w = m.number c.args.word in
    let n = c.args.n in
    ⊎_elim (λ h. let e : ltb b n ≡ true = lt-ltb b n (omega (arith, h, c.width.ensures.count, c.if-n-width.true)) in grind (arith, nat_tests))
    (λ h. let out = on_past w m.bits b c.width.ensures.fits h in out ∙ sym (and_left (on w b) (ltb b n) out)) (cases_lt b m.bits)

pub returns : goal.returns
returns g c b =
    let w = g.W.Word.number c.args.word in
    let n = c.args.n in
    ap (λ x. on x b) c.kept_below.ensures ∙ on_and w (2 ^ n - 1) b ∙ ap (λ t. on w b && t) (on_ones n b)
