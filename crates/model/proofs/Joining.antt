-- The facts of two sources as one.
use Rattle.std.proofs.Common.{◌≡◌, ℕ, zero, suc, ◌<◌, Bool, true, false, cond, not, ◌&&◌, ◌||◌, eqb, ltb, [], ◌∷◌, get_or, sym, refl, ap, ◌∙◌, subst, ⊎_elim, arith, lit<, lit≤}
use mathlib.Core.Path.{fun_ext}
use Rattle.std.proofs.lemmas.Bool.{and_parts, or_cases, or_parts, lt-ltb, ltb-true, ne_eqb, cases_Bool, cond-false}
use Rattle.model.specs.Meaning.{Meaning, Lawful}
use Rattle.model.specs.Making.{bare, no_rules, two_options}
use Rattle.model.specs.Joints.{both, clipped, joint}
use Rattle.std.proofs.Math.Bool.{and-true, and_comm}
use Rattle.model.proofs.Bools.{guarded}
use Rattle.model.proofs.Facts.{line_real}
use Rattle.model.proofs.Laws.{no_rules_lawful}
use Rattle.model.proofs.Pairs.{pair_of}
use Rattle.model.proofs.Parts.{same_meaning}

-- the bare source has one line of one option, and no rules
pub bare_is : no_rules (1 ∷ []) ≡ bare
unfolding no_rules
bare_is =
    ap (λ (c : ℕ → ℕ). record { lines = 1; count = c; joined = λ i j. false; together = two_options (1 ∷ []) }) (fun_ext counts)
    ∙ same_meaning 1 (λ i. cond (eqb i 0) 1 0) _ _ _ _ (λ i j. refl) (λ i a j b. ⊎_elim
    (λ t. let p = pair_of (1 ∷ []) i a j b t in absurd (p.differ (omega (arith, p.i_lt, p.j_lt)))) (λ f. f) (cases_Bool (two_options (1 ∷ []) i a j b)))
  where
    counts : (i : ℕ) → ◌≡◌ {A = ℕ} (get_or (1 ∷ []) i 0) (cond (eqb i 0) 1 0)
    counts zero = refl
    counts (suc i) = sym (cond-false (eqb (suc i) 0) 1 0 (ne_eqb (suc i) 0 (λ e. omega (arith, e))))

bare_lawful : Lawful bare
bare_lawful = subst Lawful bare_is (no_rules_lawful (1 ∷ []) (lit< tt) (lit≤ tt) refl)

pub clipped_lawful : (m n : Meaning) → Lawful m → Lawful n → Lawful (clipped m n)
clipped_lawful m n p q = record {
  limits = record {
    some_line = p.limits.some_line;
    few_lines = p.limits.few_lines;
    some_option = p.limits.some_option;
    few_options = p.limits.few_options;
  };
  mirrored = record {
    joined = λ i j.
        ap (λ x. x || (n.joined i j && (ltb i m.lines && ltb j m.lines))) (p.mirrored.joined i j)
        ∙ ap (λ x. m.joined j i || x)
        (ap (λ x. x && (ltb i m.lines && ltb j m.lines)) (q.mirrored.joined i j)
        ∙ ap (λ x. n.joined j i && x) (and_comm (ltb i m.lines) (ltb j m.lines)));
    together = λ i a j b.
        ap (λ x. x && (not (n.joined i j) || n.together i a j b)) (p.mirrored.together i a j b)
        ∙ ap (λ x. m.together j b i a && (not x || n.together i a j b)) (q.mirrored.joined i j)
        ∙ ap (λ x. m.together j b i a && (not (n.joined j i) || x)) (q.mirrored.together i a j b);
  };
  free = record {
    all = λ i a j b hi hj ne e.
        let x = or_parts (m.joined i j) (n.joined i j && (ltb i m.lines && ltb j m.lines)) e in
        let off : n.joined i j ≡ false =
        sym (and-true (n.joined i j)) ∙ (rw (lt-ltb i m.lines hi.0, lt-ltb j m.lines hj.0) at x.1) in
        rw (p.free.all i a j b hi hj ne x.0, off);
  };
  proper = record {
    count = p.proper.count;
    joined = λ i j e. ⊎_elim
        (p.proper.joined i j)
        (λ z.
        let x = and_parts (n.joined i j) (ltb i m.lines && ltb j m.lines) z in
        let y = and_parts (ltb i m.lines) (ltb j m.lines) x.1 in
        (ltb-true i m.lines y.0, ltb-true j m.lines y.1, (q.proper.joined i j x.0).2))
        (or_cases (m.joined i j) (n.joined i j && (ltb i m.lines && ltb j m.lines)) e);
    together = λ i a j b e. p.proper.together i a j b (and_parts (m.together i a j b) (not (n.joined i j) || n.together i a j b) e).0;
  };
}

pub joint_lawful : (alike : Bool) (m n : Meaning) → Lawful m → Lawful n → Lawful (joint alike m n)
joint_lawful true m n p q = clipped_lawful m n p q
joint_lawful false m n p q = bare_lawful

-- where the counts are equal, what is clipped is nothing
pub clipped_both : (m n : Meaning) → Lawful m → Lawful n → ((i : ℕ) → m.count i ≡ n.count i) → clipped m n ≡ both m n
clipped_both m n p q same = same_meaning m.lines m.count _ _ _ _
    (λ i j. ap (λ x. m.joined i j || x) (guarded (n.joined i j) (ltb i m.lines && ltb j m.lines) true (λ e.
    let w = q.proper.joined i j e in
    rw (lt-ltb i m.lines (line i w.0), lt-ltb j m.lines (line j w.1))) ∙ and-true (n.joined i j)))
    (λ i a j b. guarded (m.together i a j b) (not (n.joined i j) || n.together i a j b) (n.together i a j b) (λ t.
    let w = p.proper.together i a j b t in
    ⊎_elim (λ e. ap (λ x. not x || n.together i a j b) e)
    (λ e. ap (λ x. not x || n.together i a j b) e ∙ sym (q.free.all i a j b (option i a w.0.1) (option j b w.1.1) w.2 e)) (cases_Bool (n.joined i j))))
  where
    line : (i : ℕ) → i < n.lines → i < m.lines
    line i h = line_real m p i 0 (subst (λ c. 0 < c) (sym (same i)) (q.limits.some_option i h))

    option : (i a : ℕ) → a < m.count i → (i < n.lines) × (a < n.count i)
    option i a h = let g : a < n.count i = subst (λ c. a < c) (same i) h in (line_real n q i a g, g)
