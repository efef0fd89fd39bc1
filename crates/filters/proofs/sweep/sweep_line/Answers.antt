use Rattle.std.proofs.Common.{◌≡◌, ℕ, ◌+◌, false, List, sym, subst, rules}
use Rattle.model.specs.Sets.{In, Less}
use Rattle.filters.specs.Sweeps.{Tested}
use Rattle.filters.proofs.Strikes.{keeps_trans, less_trans}
use Rattle.filters.proofs.Sweeping.{LineLoop, line_stay, line_strike, line_end}
use Rattle.filters.proofs.sweep.sweep_line.Goals as goal
use Rattle.filters.proofs.sweep.sweep_line.Goals.{then-test_option+else-line_empty, else-test_option}

-- the line was emptied
pub returns-then-line_empty : goal.returns-then-line_empty
returns-then-line_empty g c =
    let m = g.L.Level.meaning c.args.level.now in
    let P = g.L.Level.passing c.args.level.now in
    let s = c.args.set.now in
    let r = c.loop-a.set in
    let r' = c.test_option.new.set in
    record {
      keeps = keeps_trans m P s r r' c.loop-a.invariant.keeps c.test_option.ensures.keeps;
      less = less_trans m c.args.line s r r' c.loop-a.invariant.less c.test_option.ensures.less;
      ended = c.if-line_empty.ensures;
      own = λ _. tt;
    }

pub loop-a-preserved : goal.loop-a-preserved
loop-a-preserved g c =
    let x = c.args.level.now in
    let m = g.L.Level.meaning x in
    let P = g.L.Level.passing x in
    let i = c.args.line in
    let self = g.L.Level.touching x i i in
    let s = c.args.set.now in
    let r = c.loop-a.set in
    let r' = c.test_option.new.set in
    let n = c.loop-a.a in
    let touch : self ≡ false → (s t : List ℕ) (a : ℕ) → Less m i s t → P s i a → In m t i a → P t i a =
    λ e s t a less p h. g.met.L.Level.touch x s t i i a less p h e in
    elim c.if-test_option.branch [
      | then-test_option+else-line_empty w ↦
          subst (λ b. LineLoop m P self i s r' b (n + 1)) (sym w.struck-is)
          (line_strike m P self i s touch r r' c.loop-a.struck n c.loop-a.invariant
          (subst (λ b. Tested m P i n r r' b) w.if-test_option.true c.test_option.ensures) w.if-line_empty.ensures)
      | else-test_option w ↦
          subst (λ b. LineLoop m P self i s r' b (n + 1)) (sym w.struck-is)
          (line_stay m P self i s r r' c.loop-a.struck n c.loop-a.invariant
          (subst (λ b. Tested m P i n r r' b) w.if-test_option.false c.test_option.ensures))
    ]

-- all options were tested
pub returns : goal.returns
returns g c =
    let x = c.args.level.now in
    let m = g.L.Level.meaning x in
    let i = c.args.line in
    let all : c.loop-a.a ≡ m.count i = search rules in
    line_end m (g.L.Level.passing x) (g.L.Level.touching x i i) i c.args.set.now c.loop-a.set c.loop-a.struck c.loop-a.a all c.loop-a.invariant
