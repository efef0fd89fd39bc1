-- The first fault of the parts, where the numbers before it are clear.
use Rattle.std.proofs.Common.{◌≡◌, ℕ, ◌<◌, ◌≤◌, Bool, List, length, Some, None, Ok, Err, refl, arith}
use Rattle.std.specs.List.{position}
use Rattle.std.proofs.lemmas.Bool.{lt-ltb, le-ltb}
use Rattle.std.proofs.lemmas.Bool.Decides.{nat_tests}
use Rattle.rules.specs.declared.fault.SourceFault.{SourceFault}
use Rattle.rules.specs.declared.fault.SourceFault.TheVariants.{Span, Records, Names, Words}
use Rattle.rules.specs.Faults.{FirstFault}
use Rattle.rules.proofs.Firsts.{Clear, clear_start, clear_more, clear_all, clear_flaw, first_flawed, first_of}
use Rattle.tables.specs.declared.records.TableRecord.{TableRecord}
use Rattle.tables.specs.Faults.{bad_count, bad_names, bad_words, table_fault}

module _ (cs : List ℕ) (rs : List TableRecord) (ws : List ℕ) where
  abbrev there : SourceFault → Bool
  there = table_fault cs rs ws

  pub lines_right : 0 < length cs → length cs ≤ 128 → Clear there 2
  lines_right some few = clear_more there 1 (clear_start there) (λ p. grind (arith, nat_tests))

  pub count_told : (i : ℕ) → Clear there 2 → Some i ≡ position bad_count cs → FirstFault there (Err (Span i))
  count_told i = first_flawed there bad_count cs 2 (λ p. refl) i refl refl

  pub counts_right : Clear there 2 → None ≡ position bad_count cs → Clear there 4
  counts_right clear none = clear_more there 3 (clear_flaw there bad_count cs 2 (λ p. refl) clear none) (λ p. refl)

  pub records_told : Clear there 4 → 2048 < length rs → FirstFault there (Err Records)
  records_told clear many = first_of there 4 refl refl clear (lt-ltb 2048 (length rs) many)

  pub records_right : Clear there 4 → length rs ≤ 2048 → Clear there 5
  records_right clear few = clear_more there 4 clear (λ p. le-ltb 2048 (length rs) few)

  pub names_told : (r : ℕ) → Clear there 5 → Some r ≡ position (bad_names (length cs)) rs → FirstFault there (Err (Names r))
  names_told r = first_flawed there (bad_names (length cs)) rs 5 (λ p. refl) r refl refl

  pub names_right : Clear there 5 → None ≡ position (bad_names (length cs)) rs → Clear there 8
  names_right clear none = clear_more there 7 (clear_more there 6 (clear_flaw there (bad_names (length cs)) rs 5 (λ p. refl) clear none) (λ p. refl)) (λ p. refl)

  pub words_told : (r : ℕ) → Clear there 8 → Some r ≡ position (bad_words cs (length ws)) rs → FirstFault there (Err (Words r))
  words_told r = first_flawed there (bad_words cs (length ws)) rs 8 (λ p. refl) r refl refl

  pub all_right : Clear there 8 → None ≡ position (bad_words cs (length ws)) rs → FirstFault there (Ok tt)
  all_right clear none = clear_all there (clear_more there 9 (clear_flaw there (bad_words cs (length ws)) rs 8 (λ p. refl) clear none) (λ p. refl)) refl
