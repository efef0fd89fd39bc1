use Rattle.std.proofs.Common.{◌≡◌, ◌+◌, ◌<◌, ltb, sym, ◌∙◌, subst, arith}
use Rattle.std.proofs.lemmas.Bool.{cond-true, lt-ltb}
use Rattle.bits.specs.Bits.{marked}
use Rattle.rules.proofs.Founds.{Found, found_more, found_same}
use Rattle.rules.proofs.source.RuleSource.joined_lines.Goals as goal
use Rattle.rules.proofs.source.RuleSource.joined_lines.Goals.{then-joined, else-joined}

pub loop-j-preserved : goal.loop-j-preserved
loop-j-preserved g c =
    let x = c.args.self.now in
    let f = (g.Self.RuleSource.meaning x).joined c.args.i in
    let w = c.loop-j.found in
    let j = c.loop-j.j in
    let few : j < 128 = omega (arith, (g.Self.RuleSource.lawful x).limits.few_lines) in
    elim c.if-joined.branch [
      | then-joined v ↦
          let is : c.if-joined.found ≡ marked w j = v.found-is ∙ v.with-found.ensures ∙ cond-true (ltb j 128) (marked w j) w (lt-ltb j 128 few) in
          subst (λ n. Found f n (j + 1)) (sym is) (found_more f w j c.loop-j.invariant (sym c.joined.ensures ∙ v.if-joined.true))
      | else-joined v ↦ subst (λ n. Found f n (j + 1)) (sym v.found-is) (found_same f w j c.loop-j.invariant (sym c.joined.ensures ∙ v.if-joined.false))
    ]
