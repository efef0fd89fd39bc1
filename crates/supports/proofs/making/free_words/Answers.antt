use Rattle.std.proofs.Common.{◌*◌, ◌/◌, ◌%◌, length, rules}
use Rattle.bits.specs.Bits.{on}
use Rattle.model.specs.Making.{two_options}
use Rattle.supports.proofs.Collecting.{collected_at}
use Rattle.supports.proofs.making.free_words.Goals as goal

pub returns-clause-words : goal.returns-clause-words
returns-clause-words c =
    let cs = c.args.counts.now in
    let n = length cs in
    let width = c.args.width in
    collected_at c.collect.result on (λ p. two_options cs (p / n / width) (p / n % width) (p % n)) (n * width * n) 0
    c.collect.ensures.ran c.map.ensures.source c.map.ensures.closure (λ x y q k. search rules)
