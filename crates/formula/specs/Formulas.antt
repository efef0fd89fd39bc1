-- What the parts of a formula source mean.
use Rattle.std.specs.Prelude.{ℕ, ◌+◌, Bool, false, List, map, get_or, ℤ, pos, Some, None, Option, slice_index_or}
use Rattle.model.specs.Meaning.{Meaning}
use Rattle.model.specs.Making.{records_meaning}
use Rattle.supports.specs.Adding.{meant}
use Rattle.kinds.specs.declared.kind.Kind.{Kind}
use Rattle.formula.specs.declared.records.LineRecord.{LineRecord}
use Rattle.formula.specs.declared.records.RuleRecord.{RuleRecord}
use Rattle.kinds.specs.Kinds.{kind_of, allowed_by}

abbrev pub no_line : LineRecord
no_line = record { start = 0; count = 0 }

-- the option counts of the lines
abbrev pub counts_of : List LineRecord → List ℕ
counts_of ls = map (λ l. l.count) ls

-- the value of option a of line i
abbrev pub value_of : List LineRecord → List ℤ → ℕ → ℕ → ℤ
value_of ls vs i a = slice_index_or vs ((get_or ls i no_line).start + a) (pos 0)

-- a rule of the kind, if there is one, allows the values x and y
abbrev pub allowed_if : Option Kind → ℤ → ℤ → ℤ → ℤ → Bool
allowed_if None k m x y = false
allowed_if (Some kind) k m x y = allowed_by kind k m x y

-- the rule allows option a of its first line with option b of its second
abbrev pub rule_allows : List LineRecord → List ℤ → RuleRecord → ℕ → ℕ → Bool
rule_allows ls vs r a b = allowed_if (kind_of r.kind) r.k r.m (value_of ls vs r.first a) (value_of ls vs r.second b)

-- lines are joined if some rule names them, and options go together if every rule of their lines
-- allows their values
abbrev pub formula_meaning : List LineRecord → List ℤ → List RuleRecord → Meaning
formula_meaning ls vs rs = records_meaning (λ (r : RuleRecord). r.first) (λ (r : RuleRecord). r.second) (rule_allows ls vs) (counts_of ls) rs

-- what the words of any parts mean: the rules that name two lines, or the bare source where the counts do not
-- keep the limits
abbrev pub formula_words : List LineRecord → List ℤ → List RuleRecord → Meaning
formula_words ls vs rs = meant (λ (r : RuleRecord). r.first) (λ (r : RuleRecord). r.second) (rule_allows ls vs) (counts_of ls) rs
