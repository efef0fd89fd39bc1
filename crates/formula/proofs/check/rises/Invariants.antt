use Rattle.std.proofs.Common.{◌≡◌, drop, negsuc}
use Rattle.formula.specs.Faults.{rising}
use Rattle.formula.proofs.check.rises.Given as goal

abbrev pub invariant-loop-v : goal.invariant-loop-v
invariant-loop-v l = rising l.low (drop l.v-index l.values) ≡ rising (negsuc 1000000) l.values
