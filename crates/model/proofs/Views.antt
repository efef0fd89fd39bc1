-- The facts of a view, and of any source of its form.
use Rattle.std.proofs.Common.{◌≡◌, ℕ, ◌<◌, ◌≤◌, max, Bool, true, false, not, ◌&&◌, ◌||◌, eqb, ltb, List, length, get_or, sym, ap, ◌∙◌, subst, ⊎_elim, arith}
use mathlib.Core.Path.{fun_ext}
use native.Mathlib.Nat.{le-max_left, le-max_right, max-le}
use Rattle.std.proofs.lemmas.Bool.{and_parts, cases_lt, cond-true, cond-false, ne_eqb, eqb-false, lt-ltb, le-ltb, ltb-true, not-true}
use Rattle.std.proofs.lemmas.List.{get_or_past}
use Rattle.bits.specs.Bits.{on}
use Rattle.bits.proofs.Bits.{on_zero}
use Rattle.model.specs.Meaning.{Meaning, Limits, Lawful}
use Rattle.model.specs.Making.{two_of}
use Rattle.model.specs.Views.{ruled, view_count, shown_by, view_joined, view_meaning}
use Rattle.std.proofs.Math.Bool.{and-true}
use Rattle.model.proofs.Bools.{and_swap, eqb_sym, implied}
use Rattle.model.proofs.Facts.{line_of, count_few}
use Rattle.model.proofs.Pairs.{two_parts, two_true}

module _ (lines : ℕ) (count : ℕ → ℕ) (joined : ℕ → ℕ → Bool) (allowed : ℕ → ℕ → ℕ → ℕ → Bool) where
  pub ruled_lawful : Limits (ruled lines count joined allowed)
      → ((i : ℕ) → lines ≤ i → count i ≡ 0)
      → ((i j : ℕ) → joined i j ≡ true → (i < lines) × (j < lines) × (i ≡ j → ⊥))
      → ((i j : ℕ) → joined i j ≡ joined j i)
      → ((i a j b : ℕ) → allowed i a j b ≡ allowed j b i a)
      → Lawful (ruled lines count joined allowed)
  ruled_lawful limits none real joined_sym allowed_sym = record {
    limits = limits;
    mirrored = record {
      joined = joined_sym;
      together = λ i a j b.
          ap (λ x. not x && (ltb a (count i) && (ltb b (count j) && (not (joined i j) || allowed i a j b)))) (eqb_sym i j)
          ∙ ap (λ x. not (eqb j i) && x) (and_swap (ltb a (count i)) (ltb b (count j)) (not (joined i j) || allowed i a j b))
          ∙ ap (λ x. not (eqb j i) && (ltb b (count j) && (ltb a (count i) && (not x || allowed i a j b)))) (joined_sym i j)
          ∙ ap (λ x. not (eqb j i) && (ltb b (count j) && (ltb a (count i) && (not (joined j i) || x)))) (allowed_sym i a j b);
    };
    free = record { all = λ i a j b h g ne e. rw (ne_eqb i j ne, lt-ltb a (count i) h.1, lt-ltb b (count j) g.1, e) };
    proper = record {
      count = none;
      joined = real;
      together = λ i a j b e.
          let p = and_parts (not (eqb i j)) (ltb a (count i) && (ltb b (count j) && (not (joined i j) || allowed i a j b))) e in
          let q = and_parts (ltb a (count i)) (ltb b (count j) && (not (joined i j) || allowed i a j b)) p.1 in
          let r = and_parts (ltb b (count j)) (not (joined i j) || allowed i a j b) q.1 in
          let a_lt = ltb-true a (count i) q.0 in
          let b_lt = ltb-true b (count j) r.0 in
          let line = line_of (ruled lines count joined allowed) none in
          ((line i a a_lt, a_lt), (line j b b_lt, b_lt), eqb-false i j (not-true (eqb i j) p.0));
    };
  }

module _ (m : Meaning) (law : Lawful m) (v : List ℕ) where
  -- the count of a line that is shown
  pub shown_count : (k : ℕ) → k < length v → view_count m v k ≡ max 1 (m.count (get_or v k 0))
  shown_count k h = cond-true (ltb k (length v)) (max 1 (m.count (get_or v k 0))) 0 (lt-ltb k (length v) h)

  module _ (f : ℕ → ℕ → Bool) (real : (k j : ℕ) → f k j ≡ true → two_of (length v) k j ≡ true) where
    pub shown_lawful : ((k j : ℕ) → f k j ≡ f j k) → 0 < length v → length v ≤ 128 → Lawful (shown_by m v f)
    shown_lawful same some few =
        ruled_lawful (length v) (view_count m v) f (λ k a j b. m.together (get_or v k 0) a (get_or v j 0) b)
        (record {
          some_line = some;
          few_lines = few;
          some_option = λ k h. subst (λ n. 0 < n) (sym (shown_count k h)) (le-max_left 1 (m.count (get_or v k 0)));
          few_options = λ k h. subst (λ n. n ≤ 64) (sym (shown_count k h)) (max-le (omega arith) (count_few m law (get_or v k 0)));
        })
        (λ k h. cond-false (ltb k (length v)) (max 1 (m.count (get_or v k 0))) 0 (le-ltb k (length v) h))
        (λ k j e. two_parts (length v) k j (real k j e)) same
        (λ k a j b. law.mirrored.together (get_or v k 0) a (get_or v j 0) b)

    -- options of joined lines go together as in the source
    pub shown_together : (k a j b : ℕ) → f k j ≡ true → (shown_by m v f).together k a j b ≡ m.together (get_or v k 0) a (get_or v j 0) b
    shown_together k a j b e =
        let p = two_parts (length v) k j (real k j e) in
        let t = m.together (get_or v k 0) a (get_or v j 0) b in
        let lt : (n c : ℕ) → n < length v → c < m.count (get_or v n 0) → ltb c (view_count m v n) ≡ true =
        λ n c l h. lt-ltb c (view_count m v n) (subst (λ x. c < x) (sym (shown_count n l)) (omega (arith, le-max_right 1 (m.count (get_or v n 0))))) in
        rw (ne_eqb k j p.2, e)
        (implied (ltb a (view_count m v k)) (ltb b (view_count m v j) && t) (λ e. lt k a p.0 (law.proper.together _ a _ b (and_parts (ltb b (view_count m v j)) t e).1).0.1)
        ∙ implied (ltb b (view_count m v j)) t (λ e. lt j b p.1 (law.proper.together _ a _ b e).1.1))

  -- options of lines that are not joined go together if they exist
  pub shown_free : (f : ℕ → ℕ → Bool) (k a j b : ℕ) → f k j ≡ false → (k ≡ j → ⊥) → a < view_count m v k → (shown_by m v f).together k a j b ≡ ltb b (view_count m v j)
  shown_free f k a j b e ne l = rw (ne_eqb k j ne, lt-ltb a (view_count m v k) l, e) (and-true (ltb b (view_count m v j)))

  -- what two joined lines of the view are
  pub view_parts : (k j : ℕ) → view_joined m v k j ≡ true → (k < length v) × (j < length v) × (m.joined (get_or v k 0) (get_or v j 0) ≡ true)
  view_parts k j e =
      let p = and_parts (ltb k (length v)) (ltb j (length v) && m.joined (get_or v k 0) (get_or v j 0)) e in
      let q = and_parts (ltb j (length v)) (m.joined (get_or v k 0) (get_or v j 0)) p.1 in
      (ltb-true k (length v) p.0, ltb-true j (length v) q.0, q.1)

  pub view_two : (k j : ℕ) → view_joined m v k j ≡ true → two_of (length v) k j ≡ true
  view_two k j e =
      let p = view_parts k j e in
      two_true (length v) k j p.0 p.1 (λ kj. (law.proper.joined (get_or v k 0) (get_or v j 0) p.2).2 (ap (λ n. get_or v n 0) kj))

  pub view_same : (k j : ℕ) → view_joined m v k j ≡ view_joined m v j k
  view_same k j =
      and_swap (ltb k (length v)) (ltb j (length v)) (m.joined (get_or v k 0) (get_or v j 0))
      ∙ ap (λ x. ltb j (length v) && (ltb k (length v) && x)) (law.mirrored.joined (get_or v k 0) (get_or v j 0))

  -- options of joined lines go together as in the source
  pub view_row : (k a j i l : ℕ) → view_joined m v k j ≡ true → i ≡ get_or v k 0 → l ≡ get_or v j 0 → m.together i a l ≡ (view_meaning m v).together k a j
  view_row k a j i l e p q = rw (p, q) (sym (fun_ext (λ b. shown_together (view_joined m v) view_two k a j b e)))

  -- the facts of the view
  pub view_lawful : 0 < length v → length v ≤ 128 → Lawful (view_meaning m v)
  view_lawful = shown_lawful (view_joined m v) view_two view_same

  -- words that tell of each line the lines that it is joined with
  module _ (ws : List ℕ) (many : length ws ≡ length v)
      (is : (k j : ℕ) → k < length v → on (get_or ws k 0) j ≡ (ltb j (length v) && m.joined (get_or v k 0) (get_or v j 0))) where
    pub words_joined : (k j : ℕ) → on (get_or ws k 0) j ≡ view_joined m v k j
    words_joined k j = ⊎_elim
        (λ lt. is k j lt ∙ sym (ap (λ x. x && (ltb j (length v) && m.joined (get_or v k 0) (get_or v j 0))) (lt-ltb k (length v) lt)))
        (λ ge. ap (λ w. on w j) (get_or_past ws k 0 (omega arith)) ∙ on_zero j ∙ sym (ap (λ x. x && (ltb j (length v) && m.joined (get_or v k 0) (get_or v j 0))) (le-ltb k (length v) ge)))
        (cases_lt k (length v))
