-- The first fault of the parts, where the numbers before it are clear.
use Rattle.std.proofs.Common.{◌≡◌, ℕ, ◌<◌, ◌≤◌, Bool, List, length, ℤ, Some, None, Ok, Err, refl, arith}
use Rattle.std.specs.List.{position}
use Rattle.std.proofs.lemmas.Bool.{lt-ltb, le-ltb}
use Rattle.std.proofs.lemmas.Bool.Decides.{nat_tests}
use Rattle.rules.specs.declared.fault.SourceFault.{SourceFault}
use Rattle.rules.specs.declared.fault.SourceFault.TheVariants.{Span, Values, Records, Names, Kind, Range}
use Rattle.rules.specs.Faults.{FirstFault}
use Rattle.rules.proofs.Firsts.{Clear, clear_start, clear_more, clear_all, clear_flaw, first_flawed, first_of}
use Rattle.formula.specs.declared.records.LineRecord.{LineRecord}
use Rattle.formula.specs.declared.records.RuleRecord.{RuleRecord}
use Rattle.formula.specs.Faults.{bad_span, bad_values, bad_names, bad_kind, bad_range, formula_fault}

module _ (ls : List LineRecord) (vs : List ℤ) (rs : List RuleRecord) where
  abbrev there : SourceFault → Bool
  there = formula_fault ls vs rs

  pub lines_right : 0 < length ls → length ls ≤ 128 → Clear there 2
  lines_right some few = clear_more there 1 (clear_start there) (λ p. grind (arith, nat_tests))

  pub span_told : (i : ℕ) → Clear there 2 → Some i ≡ position (bad_span (length vs)) ls → FirstFault there (Err (Span i))
  span_told i = first_flawed there (bad_span (length vs)) ls 2 (λ p. refl) i refl refl

  pub spans_right : Clear there 2 → None ≡ position (bad_span (length vs)) ls → Clear there 3
  spans_right = clear_flaw there (bad_span (length vs)) ls 2 (λ p. refl)

  pub values_told : (i : ℕ) → Clear there 3 → Some i ≡ position (bad_values vs) ls → FirstFault there (Err (Values i))
  values_told i = first_flawed there (bad_values vs) ls 3 (λ p. refl) i refl refl

  pub values_right : Clear there 3 → None ≡ position (bad_values vs) ls → Clear there 4
  values_right = clear_flaw there (bad_values vs) ls 3 (λ p. refl)

  pub rules_told : Clear there 4 → 2048 < length rs → FirstFault there (Err Records)
  rules_told clear many = first_of there 4 refl refl clear (lt-ltb 2048 (length rs) many)

  pub rules_right : Clear there 4 → length rs ≤ 2048 → Clear there 5
  rules_right clear few = clear_more there 4 clear (λ p. le-ltb 2048 (length rs) few)

  pub names_told : (r : ℕ) → Clear there 5 → Some r ≡ position (bad_names (length ls)) rs → FirstFault there (Err (Names r))
  names_told r = first_flawed there (bad_names (length ls)) rs 5 (λ p. refl) r refl refl

  pub names_right : Clear there 5 → None ≡ position (bad_names (length ls)) rs → Clear there 6
  names_right = clear_flaw there (bad_names (length ls)) rs 5 (λ p. refl)

  pub kind_told : (r : ℕ) → Clear there 6 → Some r ≡ position bad_kind rs → FirstFault there (Err (Kind r))
  kind_told r = first_flawed there bad_kind rs 6 (λ p. refl) r refl refl

  pub kinds_right : Clear there 6 → None ≡ position bad_kind rs → Clear there 7
  kinds_right = clear_flaw there bad_kind rs 6 (λ p. refl)

  pub range_told : (r : ℕ) → Clear there 7 → Some r ≡ position bad_range rs → FirstFault there (Err (Range r))
  range_told r = first_flawed there bad_range rs 7 (λ p. refl) r refl refl

  pub all_right : Clear there 7 → None ≡ position bad_range rs → FirstFault there (Ok tt)
  all_right clear none = clear_all there (clear_more there 9 (clear_more there 8 (clear_flaw there bad_range rs 7 (λ p. refl) clear none) (λ p. refl)) (λ p. refl)) refl
