-- The words of parts without faults mean what the parts mean.
use Rattle.std.proofs.Common.{◌≡◌, ℕ, suc, ◌+◌, true, false, not, ◌&&◌, ltb, leb, List, [], ◌∷◌, length, ℤ, refl, ap, ◌∙◌}
use lib.ListN.{length-map}
use Rattle.std.proofs.lemmas.Bool.{and_parts, and_from, not-false}
use Rattle.model.specs.Making.{counts_ok, two_of}
use Rattle.rules.specs.declared.fault.SourceFault.{SourceFault}
use Rattle.rules.specs.declared.fault.SourceFault.TheVariants.{Lines, Span, Names}
use Rattle.rules.specs.Faults.{flawed_at}
use Rattle.supports.specs.Adding.{fit}
use Rattle.supports.proofs.Folding.{meant_all}
use Rattle.formula.specs.declared.records.LineRecord.{LineRecord}
use Rattle.formula.specs.declared.records.RuleRecord.{RuleRecord}
use Rattle.formula.specs.Faults.{bad_span, formula_fault}
use Rattle.formula.specs.Formulas.{counts_of, rule_allows, formula_meaning, formula_words}

counts_right : (len : ℕ) (ls : List LineRecord) → ((p : ℕ) → flawed_at (bad_span len) ls p ≡ false) → counts_ok (counts_of ls) ≡ true
counts_right len [] none = refl
counts_right len (l ∷ ls) none =
    let q = and_parts (ltb 0 l.count) (leb l.count 64 && leb (l.start + l.count) len) (not-false _ (none 0)) in
    let r = and_parts (leb l.count 64) (leb (l.start + l.count) len) q.1 in
    and_from (ltb 0 l.count && leb l.count 64) (counts_ok (counts_of ls)) (and_from (ltb 0 l.count) (leb l.count 64) q.0 r.0) (counts_right len ls (λ p. none (suc p)))

module _ (ls : List LineRecord) (vs : List ℤ) (rs : List RuleRecord) (sound : (f : SourceFault) → formula_fault ls vs rs f ≡ false) where
  same_length : length (counts_of ls) ≡ length ls
  same_length = length-map ls (λ l. l.count)

  fits : fit (counts_of ls) ≡ true
  fits =
      let p = and_parts (ltb 0 (length ls)) (leb (length ls) 128) (not-false _ (sound Lines)) in
      and_from (ltb 0 (length (counts_of ls))) (leb (length (counts_of ls)) 128 && counts_ok (counts_of ls)) (ap (ltb 0) same_length ∙ p.0)
      (and_from (leb (length (counts_of ls)) 128) (counts_ok (counts_of ls)) (ap (λ n. leb n 128) same_length ∙ p.1) (counts_right (length vs) ls (λ p. sound (Span p))))

  pub all_rules : formula_words ls vs rs ≡ formula_meaning ls vs rs
  all_rules = meant_all (λ (r : RuleRecord). r.first) (λ (r : RuleRecord). r.second) (rule_allows ls vs) (counts_of ls) rs fits
      (λ p. ap (λ n. flawed_at (λ (r : RuleRecord). not (two_of n r.first r.second)) rs p) same_length ∙ sound (Names p))
