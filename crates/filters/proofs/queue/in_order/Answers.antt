use borrow.Author.Tests.{tests}
use Rattle.std.proofs.Common.{◌≡◌, None, rules, arith}
use Rattle.std.specs.Prelude.{nat_lt}
use Rattle.std.specs.Bool.{then_some}
use Rattle.filters.proofs.Ranges.{made_each}
use Rattle.filters.proofs.queue.in_order.Goals as goal

pub returns : goal.returns
returns c i few =
    made_each (λ k t. t ≡ then_some (nat_lt k c.args.lines) k) _ c.from_fn.result None 128 (λ k y q called. search (rules, tests)) 0 c.from_fn.ensures.items.each i (omega arith) (omega arith)
