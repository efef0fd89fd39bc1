use Rattle.std.proofs.Common.{◌≡◌, true, get_or, sym, ap, ◌∙◌, subst}
use Rattle.std.proofs.lemmas.Bool.{both_ways, true≢false}
use Rattle.bits.specs.Bits.{on}
use Rattle.filters.specs.Sweeps.{Tested}
use Rattle.filters.proofs.Strikes.{struck_falls, struck_keeps, struck_less, struck_out}
use Rattle.filters.proofs.sweep.test_option.Goals as goal

-- the option stands and fails
pub returns : goal.returns
returns g c =
    let x = c.args.level.now in
    let m = g.L.Level.meaning x in
    let P = g.L.Level.passing x in
    let s = c.args.set.now in
    let i = c.args.line in
    let a = c.args.option in
    let stands : on (get_or s i 0) a ≡ true = ap (λ w. on w a) (sym c.word.ensures) ∙ sym c.if-not-has.ensures in
    subst (λ r. Tested m P i a s r true) (sym c.strike.ensures) (record {
      keeps = struck_keeps s i a stands m P (g.met.L.Level.monotone x) (c.requires.0, c.requires.1)
          (λ p. both_ways c.passes.result c.if-passes.false (c.passes.ensures.1 p));
      less = struck_less s i a stands m;
      stays = λ e. absurd (true≢false e);
      falls = λ e. (struck_falls s i a stands, struck_out s i a stands m);
    })
