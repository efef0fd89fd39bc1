-- The faults of the parts of a formula source.
use Rattle.std.specs.Prelude.{ℕ, ◌+◌, Bool, true, false, not, ◌&&◌, List, [], ◌∷◌, length, take, drop, ℤ, pos, negsuc, is_some, Some, None, Option, int_le, int_lt, nat_le, nat_lt}
use Rattle.rules.specs.declared.fault.SourceFault.{SourceFault}
use Rattle.rules.specs.declared.fault.SourceFault.TheVariants.{Lines, Span, Values, Records, Names, Kind as Kinds, Range, Words, Counts, Memory}
use Rattle.model.specs.Making.{two_of}
use Rattle.rules.specs.Faults.{flawed_at}
use Rattle.kinds.specs.declared.kind.Kind.{Kind}
use Rattle.formula.specs.declared.records.LineRecord.{LineRecord}
use Rattle.formula.specs.declared.records.RuleRecord.{RuleRecord}
use Rattle.kinds.specs.Kinds.{kind_of, in_range}

-- the line has 0 or over 64 options, or its values end outside the run
abbrev pub bad_span : ℕ → LineRecord → Bool
bad_span len l = not (nat_lt 0 l.count && (nat_le l.count 64 && nat_le (l.start + l.count) len))

-- each value lies above the one before it, the first above low, and none above 1,000,000
abbrev pub rising : ℤ → List ℤ → Bool
rising low [] = true
rising low (x ∷ xs) = (int_lt low x && int_le x (pos 1000000)) && rising x xs

-- the line's values lie outside -1,000,000 to 1,000,000 or do not rise; nothing is said of a line
-- whose values end outside the run
abbrev pub bad_values : List ℤ → LineRecord → Bool
bad_values vs l = not (bad_span (length vs) l) && not (rising (negsuc 1000000) (take l.count (drop l.start vs)))

-- the rule names a missing line, or one line twice
abbrev pub bad_names : ℕ → RuleRecord → Bool
bad_names n r = not (two_of n r.first r.second)

-- the rule's kind is not 1 to 5
abbrev pub bad_kind : RuleRecord → Bool
bad_kind r = not (is_some (kind_of r.kind))

-- k or m is out of the range of the kind; nothing is said where there is no kind
abbrev pub out_of_range : Option Kind → ℤ → ℤ → Bool
out_of_range None k m = false
out_of_range (Some kind) k m = not (in_range kind k m)

abbrev pub bad_range : RuleRecord → Bool
bad_range r = out_of_range (kind_of r.kind) r.k r.m

-- which faults the parts have
abbrev pub formula_fault : List LineRecord → List ℤ → List RuleRecord → SourceFault → Bool
formula_fault ls vs rs Lines = not (nat_lt 0 (length ls) && nat_le (length ls) 128)
formula_fault ls vs rs (Span i) = flawed_at (bad_span (length vs)) ls i
formula_fault ls vs rs (Values i) = flawed_at (bad_values vs) ls i
formula_fault ls vs rs Records = nat_lt 2048 (length rs)
formula_fault ls vs rs (Names r) = flawed_at (bad_names (length ls)) rs r
formula_fault ls vs rs (Kinds r) = flawed_at bad_kind rs r
formula_fault ls vs rs (Range r) = flawed_at bad_range rs r
formula_fault ls vs rs (Words r) = false
formula_fault ls vs rs (Counts i) = false
formula_fault ls vs rs Memory = false
