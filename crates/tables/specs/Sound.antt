-- The words of parts without faults mean what the parts mean.
use Rattle.std.proofs.Common.{◌≡◌, ℕ, suc, true, false, ◌&&◌, ltb, leb, List, [], ◌∷◌, length, refl}
use Rattle.std.proofs.lemmas.Bool.{and_parts, and_from, not-false}
use Rattle.model.specs.Making.{counts_ok}
use Rattle.rules.specs.declared.fault.SourceFault.{SourceFault}
use Rattle.rules.specs.declared.fault.SourceFault.TheVariants.{Lines, Span, Names}
use Rattle.rules.specs.Faults.{flawed_at}
use Rattle.supports.specs.Adding.{fit}
use Rattle.supports.proofs.Folding.{meant_all}
use Rattle.tables.specs.declared.records.TableRecord.{TableRecord}
use Rattle.tables.specs.Faults.{bad_count, table_fault}
use Rattle.tables.specs.Tables.{record_allows, table_meaning, table_words}

counts_right : (cs : List ℕ) → ((p : ℕ) → flawed_at bad_count cs p ≡ false) → counts_ok cs ≡ true
counts_right [] none = refl
counts_right (c ∷ cs) none = and_from (ltb 0 c && leb c 64) (counts_ok cs) (not-false (ltb 0 c && leb c 64) (none 0)) (counts_right cs (λ p. none (suc p)))

module _ (cs : List ℕ) (rs : List TableRecord) (ws : List ℕ) (sound : (f : SourceFault) → table_fault cs rs ws f ≡ false) where
  fits : fit cs ≡ true
  fits =
      let p = and_parts (ltb 0 (length cs)) (leb (length cs) 128) (not-false (ltb 0 (length cs) && leb (length cs) 128) (sound Lines)) in
      and_from (ltb 0 (length cs)) (leb (length cs) 128 && counts_ok cs) p.0 (and_from (leb (length cs) 128) (counts_ok cs) p.1 (counts_right cs (λ p. sound (Span p))))

  pub all_records : table_words cs rs ws ≡ table_meaning cs rs ws
  all_records = meant_all (λ (r : TableRecord). r.first) (λ (r : TableRecord). r.second) (record_allows ws) cs rs fits (λ p. sound (Names p))
