-- Records added one after the other are all the records.
use Rattle.std.proofs.Common.{◌≡◌, ℕ, Bool, ◌&&◌, ◌||◌, List, [], ◌∷◌, length, get_or, fold, sym, ap, ◌∙◌}
use Rattle.model.specs.Meaning.{Meaning}
use Rattle.model.specs.Making.{no_rules, same_lines, allowed, with_rule, joins, allows, adding, records_meaning}
use Rattle.std.proofs.Math.Bool.{and-true, and_assoc, or-false, or_assoc}
use Rattle.model.proofs.Parts.{same_meaning}

module _ {R : Type 0} (first second : R → ℕ) (f : R → ℕ → ℕ → Bool) where
  -- what a meaning becomes by records
  grown : Meaning → List R → Meaning
  grown m rs = record {
    lines = m.lines;
    count = m.count;
    joined = λ i j. m.joined i j || joins first second f rs i j;
    together = λ i a j b. m.together i a j b && allows first second f rs i a j b;
  }

  grown_step : (m : Meaning) (r : R) (rs : List R) → grown (adding first second f m r) rs ≡ grown m (r ∷ rs)
  unfolding grown with_rule
  grown_step m r rs = same_meaning m.lines m.count _ _ _ _
      (λ i j. or_assoc (m.joined i j) (same_lines (first r) (second r) i j) (joins first second f rs i j))
      (λ i a j b. and_assoc (m.together i a j b) (allowed (first r) (second r) (f r) i a j b) (allows first second f rs i a j b))

  folded_grown : (m : Meaning) (rs : List R) → fold (adding first second f) m rs ≡ grown m rs
  unfolding grown
  folded_grown m [] = same_meaning m.lines m.count _ _ _ _ (λ i j. sym (or-false (m.joined i j))) (λ i a j b. sym (and-true (m.together i a j b)))
  folded_grown m (r ∷ rs) = folded_grown (adding first second f m r) rs ∙ grown_step m r rs

  pub all_added : (cs : List ℕ) (rs : List R) → fold (adding first second f) (no_rules cs) rs ≡ records_meaning first second f cs rs
  unfolding grown no_rules records_meaning
  all_added cs rs = folded_grown (no_rules cs) rs

  pub added_frame : (cs : List ℕ) (rs : List R) (m : Meaning) → m ≡ fold (adding first second f) (no_rules cs) rs → (m.lines ≡ length cs) × ((i : ℕ) → m.count i ≡ get_or cs i 0)
  unfolding grown no_rules
  added_frame cs rs m e = let d = e ∙ folded_grown (no_rules cs) rs in (ap (λ x. x.lines) d, λ i. ap (λ x. x.count i) d)
