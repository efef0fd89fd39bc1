-- What a write to the words does to the meaning.
use Rattle.std.proofs.Common.{◌≡◌, ℕ, ◌+◌, ◌*◌, ◌/◌, ◌%◌, ◌<◌, Bool, true, false, not, ◌&&◌, ◌||◌, eqb, List, length, get_or, replicate, sym, refl, ap, ◌∙◌, ⊎_elim, mul_comm, arith, length-set}
use Rattle.std.proofs.lemmas.Nat.{div-mul-add, mod-mul-add, mul-add-lt}
use Rattle.std.proofs.lemmas.List.{get_or-set_same, get_or-set_other, get_or-replicate, get_or_past, length-replicate}
use Rattle.std.proofs.lemmas.Bool.{and_parts, and_from, or_cases, both_ways, eqb-true, eq-eqb, ne_eqb, cases_eq, cases_lt, cases_Bool}
use Rattle.bits.specs.Bits.{on, cleared, marked}
use Rattle.bits.proofs.Bits.{on_cleared, on_marked, on_zero}
use Rattle.model.specs.Making.{two_lines, two_options, no_rules, with_join, with_ban, same_lines, same_options}
use Rattle.model.specs.Words.{place, clear_at, mark_at, Sized, Clean, Unruled, words_meaning}
use Rattle.std.proofs.Math.Bool.{and-false, and-true, and_assoc, or-false, or_assoc}
use Rattle.model.proofs.Bools.{guarded}
use Rattle.model.proofs.Laws.{at_lines}
use Rattle.model.proofs.Pairs.{Pair, pair_of, lines_true}
use Rattle.model.proofs.Parts.{same_together, same_meaning}

pub record Split (i a j k c l : ℕ) : Type 0 where
  pub line : k ≡ i
  pub option : c ≡ a
  pub other : l ≡ j

-- one place for each option and line
pub place_split : (n width i a j k c l : ℕ) → a < width → c < width → j < n → l < n → place n width k c l ≡ place n width i a j → Split i a j k c l
place_split n width i a j k c l a_lt c_lt j_lt l_lt e =
    let row : k * width + c ≡ i * width + a = sym (div-mul-add (k * width + c) n l l_lt) ∙ ap (λ x. x / n) e ∙ div-mul-add (i * width + a) n j j_lt in
    record {
      line = sym (div-mul-add k width c c_lt) ∙ ap (λ x. x / width) row ∙ div-mul-add i width a a_lt;
      option = sym (mod-mul-add k width c c_lt) ∙ ap (λ x. x % width) row ∙ mod-mul-add i width a a_lt;
      other = sym (mod-mul-add (k * width + c) n l l_lt) ∙ ap (λ x. x % n) e ∙ mod-mul-add (i * width + a) n j j_lt;
    }

pub place_eqb : (n width i a j k c l : ℕ) → a < width → c < width → j < n → l < n
    → eqb (place n width k c l) (place n width i a j) ≡ (eqb k i && (eqb c a && eqb l j))
place_eqb n width i a j k c l a_lt c_lt j_lt l_lt = ⊎_elim same other (cases_eq (place n width k c l) (place n width i a j))
  where
    same : place n width k c l ≡ place n width i a j → eqb (place n width k c l) (place n width i a j) ≡ (eqb k i && (eqb c a && eqb l j))
    same e =
        let s = place_split n width i a j k c l a_lt c_lt j_lt l_lt e in
        eq-eqb _ _ e ∙ sym (and_from (eqb k i) (eqb c a && eqb l j) (eq-eqb k i s.line) (and_from (eqb c a) (eqb l j) (eq-eqb c a s.option) (eq-eqb l j s.other)))

    other : (place n width k c l ≡ place n width i a j → ⊥) → eqb (place n width k c l) (place n width i a j) ≡ (eqb k i && (eqb c a && eqb l j))
    other ne = ne_eqb _ _ ne ∙ sym (⊎_elim (λ t.
        let p = and_parts (eqb k i) (eqb c a && eqb l j) t in
        let q = and_parts (eqb c a) (eqb l j) p.1 in
        absurd (ne (ap (λ x. place n width x c l) (eqb-true k i p.0) ∙ ap (λ x. place n width i x l) (eqb-true c a q.0) ∙ ap (λ x. place n width i a x) (eqb-true l j q.1))))
        (λ f. f) (cases_Bool (eqb k i && (eqb c a && eqb l j))))

-- a place lies within the words
pub place_lt : (n width i a j : ℕ) → i < n → a < width → j < n → place n width i a j < n * width * n
place_lt n width i a j h g k =
    let r : i * width + a < n * width = omega (arith, mul-add-lt i width a n h g, mul_comm n width) in
    omega (arith, mul-add-lt (i * width + a) n j (n * width) r k, mul_comm n (n * width))

on_clear_at : (ws : List ℕ) (p b q t : ℕ) → p < length ws → on (get_or (clear_at ws p b) q 0) t ≡ (on (get_or ws q 0) t && not (eqb q p && eqb t b))
on_clear_at ws p b q t h = ⊎_elim same other (cases_eq q p)
  where
    same : q ≡ p → on (get_or (clear_at ws p b) q 0) t ≡ (on (get_or ws q 0) t && not (eqb q p && eqb t b))
    same e =
        ap (λ x. on (get_or (clear_at ws p b) x 0) t) e ∙ ap (λ w. on w t) (get_or-set_same ws p (cleared (get_or ws p 0) b) 0 h) ∙ on_cleared (get_or ws p 0) b t
        ∙ ap (λ x. on (get_or ws x 0) t && not (eqb t b)) (sym e) ∙ ap (λ x. on (get_or ws q 0) t && not (x && eqb t b)) (sym (eq-eqb q p e))

    other : (q ≡ p → ⊥) → on (get_or (clear_at ws p b) q 0) t ≡ (on (get_or ws q 0) t && not (eqb q p && eqb t b))
    other ne =
        ap (λ w. on w t) (get_or-set_other ws p q (cleared (get_or ws p 0) b) 0 ne) ∙ sym (and-true (on (get_or ws q 0) t))
        ∙ ap (λ x. on (get_or ws q 0) t && not (x && eqb t b)) (sym (ne_eqb q p ne))

arrange : (p q c d : Bool) → ((p && (c && q)) && d) ≡ ((p && q) && (c && d))
arrange false q c d = refl
arrange true true true d = refl
arrange true true false d = refl
arrange true false true d = refl
arrange true false false d = refl

arrange_back : (p q c d : Bool) → ((p && (c && q)) && d) ≡ ((p && q) && (d && c))
arrange_back false q c d = refl
arrange_back true true true true = refl
arrange_back true true true false = refl
arrange_back true true false true = refl
arrange_back true true false false = refl
arrange_back true false true d = refl
arrange_back true false false d = refl

outer : (o u v : Bool) → ((o && not u) && not v) ≡ (o && not (u || v))
outer false u v = refl
outer true true v = refl
outer true false v = refl

pub words_ban : (cs : List ℕ) (width : ℕ) (joins words : List ℕ) (i a j b : ℕ) → Sized cs width joins words → Pair cs i a j b
    → words_meaning cs width joins (clear_at (clear_at words (place (length cs) width i a j) b) (place (length cs) width j b i) a)
    ≡ with_ban i a j b (words_meaning cs width joins words)
unfolding words_meaning with_ban
words_ban cs width joins words i a j b s p = same_together (words_meaning cs width joins words) _ _ (λ k c l d.
    guarded (two_options cs k c l d) _ _ (bits k c l d)
    ∙ sym (and_assoc (two_options cs k c l d) (on (get_or words (place (length cs) width k c l) 0) d) (not (same_options i a j b k c l d))))
  where
    bits : (k c l d : ℕ) → two_options cs k c l d ≡ true
        → on (get_or (clear_at (clear_at words (place (length cs) width i a j) b) (place (length cs) width j b i) a) (place (length cs) width k c l) 0) d
        ≡ (on (get_or words (place (length cs) width k c l) 0) d && not (same_options i a j b k c l d))
    bits k c l d g =
        let n : ℕ = length cs in
        let q = pair_of cs k c l d g in
        let a_lt : a < width = omega (arith, s.counts_le i, p.a_lt) in
        let b_lt : b < width = omega (arith, s.counts_le j, p.b_lt) in
        let c_lt : c < width = omega (arith, s.counts_le k, q.a_lt) in
        let there : ℕ = place n width i a j in
        let back : ℕ = place n width j b i in
        let here : ℕ = place n width k c l in
        let there_lt : there < length words = omega (arith, s.words_len, place_lt n width i a j p.i_lt a_lt p.j_lt) in
        let back_lt : back < length (clear_at words there b) = omega (arith, s.words_len, place_lt n width j b i p.j_lt b_lt p.i_lt, length-set words there (cleared (get_or words there 0) b)) in
        on_clear_at (clear_at words there b) back a here d back_lt
        ∙ ap (λ x. x && not (eqb here back && eqb d a)) (on_clear_at words there b here d there_lt)
        ∙ outer (on (get_or words here 0) d) (eqb here there && eqb d b) (eqb here back && eqb d a)
        ∙ ap (λ x. on (get_or words here 0) d && not (x || (eqb here back && eqb d a)))
        (ap (λ x. x && eqb d b) (place_eqb n width i a j k c l a_lt c_lt p.j_lt q.j_lt) ∙ arrange (eqb k i) (eqb l j) (eqb c a) (eqb d b))
        ∙ ap (λ x. on (get_or words here 0) d && not (((eqb k i && eqb l j) && (eqb c a && eqb d b)) || x))
        (ap (λ x. x && eqb d a) (place_eqb n width j b i k c l b_lt c_lt p.i_lt q.j_lt) ∙ arrange_back (eqb k j) (eqb l i) (eqb c b) (eqb d a))

pub sized_clear : (cs : List ℕ) (width : ℕ) (joins words : List ℕ) (p b : ℕ) → Sized cs width joins words → Sized cs width joins (clear_at words p b)
sized_clear cs width joins words p b s = record {
  joins_len = s.joins_len;
  words_len = length-set words p (cleared (get_or words p 0) b) ∙ s.words_len;
  counts_le = s.counts_le;
  width_le = s.width_le;
}

on_mark_at : (ws : List ℕ) (p b q t : ℕ) → p < length ws → on (get_or (mark_at ws p b) q 0) t ≡ (on (get_or ws q 0) t || (eqb q p && eqb t b))
on_mark_at ws p b q t h = ⊎_elim same other (cases_eq q p)
  where
    same : q ≡ p → on (get_or (mark_at ws p b) q 0) t ≡ (on (get_or ws q 0) t || (eqb q p && eqb t b))
    same e =
        ap (λ x. on (get_or (mark_at ws p b) x 0) t) e ∙ ap (λ w. on w t) (get_or-set_same ws p (marked (get_or ws p 0) b) 0 h) ∙ on_marked (get_or ws p 0) b t
        ∙ ap (λ x. on (get_or ws x 0) t || eqb t b) (sym e) ∙ ap (λ x. on (get_or ws q 0) t || (x && eqb t b)) (sym (eq-eqb q p e))

    other : (q ≡ p → ⊥) → on (get_or (mark_at ws p b) q 0) t ≡ (on (get_or ws q 0) t || (eqb q p && eqb t b))
    other ne =
        ap (λ w. on w t) (get_or-set_other ws p q (marked (get_or ws p 0) b) 0 ne) ∙ sym (or-false (on (get_or ws q 0) t))
        ∙ ap (λ x. on (get_or ws q 0) t || (x && eqb t b)) (sym (ne_eqb q p ne))

-- a pair that is named exists, so the test of existence can go outside
widen : (g o s : Bool) → (s ≡ true → g ≡ true) → (g && (o || s)) ≡ ((g && o) || s)
widen true o s h = refl
widen false o true h = h refl
widen false o false h = refl

pub sized_mark : (cs : List ℕ) (width : ℕ) (joins words : List ℕ) (p b : ℕ) → Sized cs width joins words → Sized cs width (mark_at joins p b) words
sized_mark cs width joins words p b s = record {
  joins_len = length-set joins p (marked (get_or joins p 0) b) ∙ s.joins_len;
  words_len = s.words_len;
  counts_le = s.counts_le;
  width_le = s.width_le;
}

named_lines : (cs : List ℕ) (i j k l : ℕ) → i < length cs → j < length cs → (i ≡ j → ⊥) → same_lines i j k l ≡ true → two_lines cs k l ≡ true
named_lines cs i j k l h g ne = at_lines (λ x y. two_lines cs x y ≡ true) i j k l (lines_true cs i j h g ne) (lines_true cs j i g h (λ q. ne (sym q)))

pub words_join : (cs : List ℕ) (width : ℕ) (joins words : List ℕ) (i j : ℕ) → Sized cs width joins words → i < length cs → j < length cs → (i ≡ j → ⊥)
    → words_meaning cs width (mark_at (mark_at joins i j) j i) words ≡ with_join i j (words_meaning cs width joins words)
unfolding words_meaning with_join
words_join cs width joins words i j s h g ne = same_meaning (length cs) (λ k. get_or cs k 0) _ _ _ _ (λ k l.
    let i_lt : i < length joins = omega (arith, s.joins_len) in
    let j_lt : j < length (mark_at joins i j) = omega (arith, s.joins_len, length-set joins i (marked (get_or joins i 0) j)) in
    ap (λ x. two_lines cs k l && x)
    (on_mark_at (mark_at joins i j) j i k l j_lt ∙ ap (λ x. x || (eqb k j && eqb l i)) (on_mark_at joins i j k l i_lt)
    ∙ or_assoc (on (get_or joins k 0) l) (eqb k i && eqb l j) (eqb k j && eqb l i))
    ∙ widen (two_lines cs k l) (on (get_or joins k 0) l) (same_lines i j k l) (named_lines cs i j k l h g ne)) (λ k c l d. refl)

index_zeros : (n i : ℕ) → ◌≡◌ {A = ℕ} (get_or (replicate n 0) i 0) 0
index_zeros n i = ⊎_elim (λ h. get_or-replicate n i 0 0 h) (λ h. get_or_past (replicate n 0) i 0 (omega (arith, length-replicate {A = ℕ} n 0))) (cases_lt i n)

module _ (cs : List ℕ) (width : ℕ) (joins words : List ℕ) (s : Sized cs width joins words) (ej : joins ≡ replicate (length cs) 0) (ew : Unruled cs width words) where
  -- the word of an option and a line
  here : (i a j b : ℕ) → i < length cs → a < width → j < length cs → on (get_or words (place (length cs) width i a j) 0) b ≡ two_options cs i a j b
  here i a j b h g k =
      let n : ℕ = length cs in
      let p : ℕ = place n width i a j in
      let row : p / n ≡ i * width + a = div-mul-add (i * width + a) n j k in
      let line : p / n / width ≡ i = ap (λ x. x / width) row ∙ div-mul-add i width a g in
      let option : p / n % width ≡ a = ap (λ x. x % width) row ∙ mod-mul-add i width a g in
      ew p b (place_lt n width i a j h g k) ∙ ap (λ x. two_options cs x (p / n % width) (p % n) b) line ∙ ap (λ x. two_options cs i x (p % n) b) option
      ∙ ap (λ x. two_options cs i a x b) (mod-mul-add (i * width + a) n j k)

  unjoined : (i j : ℕ) → on (get_or joins i 0) j ≡ false
  unjoined i j = ap (λ w. on w j) (ap (λ ws. get_or ws i 0) ej ∙ index_zeros (length cs) i) ∙ on_zero j

  pub words_none : words_meaning cs width joins words ≡ no_rules cs
  unfolding words_meaning no_rules
  words_none = same_meaning (length cs) (λ k. get_or cs k 0) _ _ _ _
      (λ k l. ap (λ x. two_lines cs k l && x) (unjoined k l) ∙ and-false (two_lines cs k l))
      (λ k c l d. guarded (two_options cs k c l d) _ true (λ g.
      let q = pair_of cs k c l d g in
      let c_lt : c < width = omega (arith, s.counts_le k, q.a_lt) in
      here k c l d q.i_lt c_lt q.j_lt ∙ g) ∙ and-true (two_options cs k c l d))

  pub clean_none : Clean cs width joins words
  clean_none = record {
    lines = λ i j e. absurd (both_ways (on (get_or joins i 0) j) (unjoined i j) e);
    options = λ i a j b h g k e. sym (here i a j b h g k) ∙ e;
  }

-- no bit is set by clearing one, and a set one names two lines
pub clean_clear : (cs : List ℕ) (width : ℕ) (joins words : List ℕ) (p b : ℕ) → p < length words → Clean cs width joins words → Clean cs width joins (clear_at words p b)
clean_clear cs width joins words p b lt k = record {
  lines = k.lines;
  options = λ i a j c h g l e. k.options i a j c h g l
      (and_parts (on (get_or words (place (length cs) width i a j) 0) c) (not (eqb (place (length cs) width i a j) p && eqb c b))
      (sym (on_clear_at words p b (place (length cs) width i a j) c lt) ∙ e)).0;
}

pub clean_mark : (cs : List ℕ) (width : ℕ) (joins words : List ℕ) (i j : ℕ) → i < length joins → two_lines cs i j ≡ true → Clean cs width joins words → Clean cs width (mark_at joins i j) words
clean_mark cs width joins words i j lt two k = record {
  lines = λ x y e. ⊎_elim (k.lines x y)
      (λ t.
      let p = and_parts (eqb x i) (eqb y j) t in
      ap (λ z. two_lines cs z y) (eqb-true x i p.0) ∙ ap (λ z. two_lines cs i z) (eqb-true y j p.1) ∙ two)
      (or_cases (on (get_or joins x 0) y) (eqb x i && eqb y j) (sym (on_mark_at joins i j x y lt) ∙ e));
  options = k.options;
}
