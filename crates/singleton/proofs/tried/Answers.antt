use Rattle.std.proofs.Common.{sym, ap, ◌∙◌, arith}
use Rattle.std.proofs.lemmas.Bool.{both_ways}
use Rattle.bits.specs.Bits.{on}
use Rattle.singleton.proofs.Trials.{tried_none, tried_full, tried_empty}
use Rattle.singleton.proofs.tried.Goals as goal

-- the set has no such option
pub returns-then-option-count : goal.returns-then-option-count
returns-then-option-count g c =
    let x = c.args.below.now in
    let a = c.args.option in
    tried_none (g.L.Level.meaning x) (g.L.Level.passing x) c.args.set.now c.args.line a (λ p. elim c.then-option-count.branch [
      | goal.then-option-count-via-then-option-count w ↦ omega (arith, p.here.1)
      | goal.then-option-count-via-else-option-count+then-not-has w ↦
          both_ways (on w.word.result a) (sym w.has.ensures ∙ w.if-not-has.true) (ap (λ n. on n a) w.word.ensures ∙ p.here.2)
    ])

-- the run left an option of each line
pub returns-in-Settled : goal.returns-in-Settled
returns-in-Settled g c =
    let x = c.args.below.now in
    let run = c.in-Settled.ensures in
    tried_full (g.L.Level.meaning x) (g.L.Level.passing x) c.args.set.now c.args.line c.args.option
    (g.met.L.Level.lawful x) (omega arith) c.hold-held.result c.by_rounds.new.set c.hold-held.ensures run.largest run.ended run.rest

-- it left none
pub returns-in-NoPlan : goal.returns-in-NoPlan
returns-in-NoPlan g c =
    let x = c.args.below.now in
    let run = c.in-NoPlan.ensures in
    tried_empty (g.L.Level.meaning x) (g.L.Level.passing x) c.args.set.now c.args.line c.args.option
    (g.met.L.Level.lawful x) (omega arith) c.hold-held.result c.by_rounds.new.set c.hold-held.ensures run.largest run.ended
