use Rattle.std.proofs.Common.{◌≡◌, fold, take}
use Rattle.supports.specs.Adding.{adding_if, unruled}
use Rattle.supports.specs.Held.{supports_meaning}
use Rattle.formula.specs.declared.records.RuleRecord.{RuleRecord}
use Rattle.formula.specs.Formulas.{counts_of, rule_allows}
use Rattle.formula.proofs.records.Formula.added.Given as goal

-- the rules so far are added
abbrev pub invariant-loop-r : goal.invariant-loop-r
invariant-loop-r l =
    let ls = l.self.lines.now in
    supports_meaning l.words
    ≡ fold (adding_if (λ (r : RuleRecord). r.first) (λ (r : RuleRecord). r.second) (rule_allows ls l.self.values.now)) (unruled (counts_of ls)) (take l.r-index l.r-items)
