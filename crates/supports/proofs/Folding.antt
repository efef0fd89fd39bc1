-- Records added one after the other mean those that name lines that exist and differ.
use Rattle.std.proofs.Common.{◌≡◌, ℕ, suc, Bool, true, false, not, List, [], ◌∷◌, length, fold, filter, sym, refl, ap, ◌∙◌, arith}
use Rattle.std.proofs.lemmas.Bool.{cond-true, cond-false, not-false}
use Rattle.model.specs.Meaning.{Meaning}
use Rattle.model.specs.Making.{bare, two_of, no_rules, with_rule, adding, records_meaning}
use Rattle.model.proofs.Folding.{all_added}
use Rattle.model.proofs.Pairs.{two_parts}
use Rattle.rules.specs.Faults.{flawed_at}
use Rattle.supports.specs.Adding.{fit, unruled, adding_if, names_lines, meant}

off : (b : Bool) → (b ≡ true → ⊥) → b ≡ false
off true h = absurd (h refl)
off false h = refl

-- one line alone can't be named twice
one_line : (i j : ℕ) → two_of 1 i j ≡ false
one_line i j = off (two_of 1 i j) (λ e. let p = two_parts 1 i j e in p.2 (omega (arith, p.0, p.1)))

module _ {R : Type 0} (first second : R → ℕ) (f : R → ℕ → ℕ → Bool) where
  bare_stays : (rs : List R) → fold (adding_if first second f) bare rs ≡ bare
  bare_stays [] = refl
  bare_stays (r ∷ rs) =
      ap (λ x. fold (adding_if first second f) x rs) (cond-false (two_of 1 (first r) (second r)) (with_rule (first r) (second r) (f r) bare) bare (one_line (first r) (second r)))
      ∙ bare_stays rs

  module _ (n : ℕ) where
    abbrev there : R → Bool
    there = names_lines first second f n

    -- no record names a missing line, or one line twice
    abbrev pub Named : List R → Type 0
    Named rs = (p : ℕ) → flawed_at (λ r. not (two_of n (first r) (second r))) rs p ≡ false

    all_named : (rs : List R) → Named rs → filter there rs ≡ rs
    all_named [] named = refl
    all_named (r ∷ rs) named =
        cond-true (there r) (r ∷ filter there rs) (filter there rs) (not-false (there r) (named 0)) ∙ ap (λ x. r ∷ x) (all_named rs (λ p. named (suc p)))

    -- a record that does not name two lines is left out
    one_more : (m : Meaning) (r : R) (rs : List R) (t : Bool) → m.lines ≡ n → there r ≡ t
        → ((k : Meaning) → k.lines ≡ n → fold (adding_if first second f) k rs ≡ fold (adding first second f) k (filter there rs))
        → fold (adding_if first second f) m (r ∷ rs) ≡ fold (adding first second f) m (filter there (r ∷ rs))
    unfolding with_rule
    one_more m r rs true e h rest =
        ap (λ x. fold (adding_if first second f) x rs)
        (cond-true (two_of m.lines (first r) (second r)) (with_rule (first r) (second r) (f r) m) m (ap (λ k. two_of k (first r) (second r)) e ∙ h))
        ∙ rest (with_rule (first r) (second r) (f r) m) e
        ∙ sym (ap (fold (adding first second f) m) (cond-true (there r) (r ∷ filter there rs) (filter there rs) h))
    one_more m r rs false e h rest =
        ap (λ x. fold (adding_if first second f) x rs)
        (cond-false (two_of m.lines (first r) (second r)) (with_rule (first r) (second r) (f r) m) m (ap (λ k. two_of k (first r) (second r)) e ∙ h))
        ∙ rest m e ∙ sym (ap (fold (adding first second f) m) (cond-false (there r) (r ∷ filter there rs) (filter there rs) h))

    folded_if : (rs : List R) (m : Meaning) → m.lines ≡ n → fold (adding_if first second f) m rs ≡ fold (adding first second f) m (filter there rs)
    folded_if [] m e = refl
    folded_if (r ∷ rs) m e = one_more m r rs (there r) e refl (folded_if rs)

  added : (cs : List ℕ) (rs : List R) (t : Bool) → fit cs ≡ t → fold (adding_if first second f) (unruled cs) rs ≡ meant first second f cs rs
  unfolding no_rules
  added cs rs true h =
      let named = filter (names_lines first second f (length cs)) rs in
      ap (λ x. fold (adding_if first second f) x rs) (cond-true (fit cs) (no_rules cs) bare h) ∙ folded_if (length cs) rs (no_rules cs) refl
      ∙ all_added first second f cs named ∙ sym (cond-true (fit cs) (records_meaning first second f cs named) bare h)
  added cs rs false h =
      ap (λ x. fold (adding_if first second f) x rs) (cond-false (fit cs) (no_rules cs) bare h) ∙ bare_stays rs
      ∙ sym (cond-false (fit cs) (records_meaning first second f cs (filter (names_lines first second f (length cs)) rs)) bare h)

  pub all_meant : (cs : List ℕ) (rs : List R) → fold (adding_if first second f) (unruled cs) rs ≡ meant first second f cs rs
  all_meant cs rs = added cs rs (fit cs) refl

  -- where all name two lines and the counts keep the limits, all records are meant
  pub meant_all : (cs : List ℕ) (rs : List R) → fit cs ≡ true → Named (length cs) rs → meant first second f cs rs ≡ records_meaning first second f cs rs
  meant_all cs rs ok named =
      cond-true (fit cs) (records_meaning first second f cs (filter (names_lines first second f (length cs)) rs)) bare ok
      ∙ ap (records_meaning first second f cs) (all_named (length cs) rs named)
