use Rattle.std.proofs.Common.{◌≡◌, ℕ, ◌+◌, ◌<◌, ltb, get_or, sym, ◌∙◌, subst, arith}
use Rattle.std.proofs.lemmas.Bool.{cond-true, lt-ltb}
use Rattle.bits.specs.Bits.{on, marked}
use Rattle.rules.proofs.Founds.{Found, found_more, found_same}
use Rattle.views.proofs.view.Shown.places.Goals as goal
use Rattle.views.proofs.view.Shown.places.Goals.{then-has, else-has}

pub loop-p-preserved : goal.loop-p-preserved
loop-p-preserved c =
    let f = λ (p : ℕ). on c.args.word (get_or c.args.self.now.lines.now p 0) in
    let w = c.loop-p.found in
    let p = c.loop-p.p in
    let few : p < 128 = omega (arith, c.args.self.now.few) in
    elim c.if-has.branch [
      | then-has v ↦
          let is : c.if-has.found ≡ marked w p = v.found-is ∙ v.with-found.ensures ∙ cond-true (ltb p 128) (marked w p) w (lt-ltb p 128 few) in
          subst (λ n. Found f n (p + 1)) (sym is) (found_more f w p c.loop-p.invariant (sym c.has.ensures ∙ v.if-has.true))
      | else-has v ↦ subst (λ n. Found f n (p + 1)) (sym v.found-is) (found_same f w p c.loop-p.invariant (sym c.has.ensures ∙ v.if-has.false))
    ]
