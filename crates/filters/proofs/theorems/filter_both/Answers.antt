use Rattle.filters.proofs.Agreeing.{same_end, same_words_left}
use Rattle.filters.proofs.Ends.{leaves}
use Rattle.filters.proofs.theorems.filter_both.Goals as goal

pub returns : goal.returns
returns g c =
    let x = c.args.level.now in
    let m = g.L.Level.meaning x in
    let P = g.L.Level.passing x in
    let limits = (g.met.L.Level.lawful x).limits in
    let u = c.args.set in
    let rounds = c.by_rounds in
    let queue = c.by_queue in
    record {
      agree = same_end m P u rounds.new.set queue.new.set rounds.result queue.result limits.some_line rounds.ensures queue.ensures;
      same = same_words_left m P u rounds.new.set queue.new.set rounds.result queue.result rounds.ensures queue.ensures;
      ended = rounds.ensures.ended;
      leaves = λ s copy. leaves m P limits.few_lines s u rounds.new.set rounds.result copy rounds.ensures;
    }
