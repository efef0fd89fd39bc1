-- Two lines, and two options of them, that exist by a list of option counts.
use Rattle.std.proofs.Common.{◌≡◌, ℕ, zero, suc, ◌<◌, ◌≤◌, true, not, ◌&&◌, eqb, ltb, leb, List, [], ◌∷◌, length, get_or, ap, ◌∙◌, arith}
use Rattle.std.proofs.lemmas.Bool.{and_parts, ltb-true, leb-true, lt-ltb, eqb-false, ne_eqb, not-true}
use Rattle.model.specs.Making.{two_of, two_lines, two_options, counts_ok}
use Rattle.std.proofs.Math.Bool.{and_comm}
use Rattle.model.proofs.Bools.{and_swap, eqb_sym}

pub count_at : (cs : List ℕ) → counts_ok cs ≡ true → (i : ℕ) → i < length cs → (0 < get_or cs i 0) × (get_or cs i 0 ≤ 64)
count_at [] ok i h = absurd (omega (arith, h))
count_at (c ∷ cs) ok zero h =
    let p = and_parts (ltb 0 c && leb c 64) (counts_ok cs) ok in
    let q = and_parts (ltb 0 c) (leb c 64) p.0 in
    (ltb-true 0 c q.0, leb-true c 64 q.1)
count_at (c ∷ cs) ok (suc i) h = count_at cs (and_parts (ltb 0 c && leb c 64) (counts_ok cs) ok).1 i (omega (arith, h))

pub two_lines_sym : (cs : List ℕ) (i j : ℕ) → two_lines cs i j ≡ two_lines cs j i
two_lines_sym cs i j =
    and_swap (ltb i (length cs)) (ltb j (length cs)) (not (eqb i j)) ∙ ap (λ e. ltb j (length cs) && (ltb i (length cs) && not e)) (eqb_sym i j)

pub two_options_sym : (cs : List ℕ) (i a j b : ℕ) → two_options cs i a j b ≡ two_options cs j b i a
two_options_sym cs i a j b =
    ap (λ x. x && (ltb a (get_or cs i 0) && ltb b (get_or cs j 0))) (two_lines_sym cs i j)
    ∙ ap (λ x. two_lines cs j i && x) (and_comm (ltb a (get_or cs i 0)) (ltb b (get_or cs j 0)))

pub record Two (cs : List ℕ) (i j : ℕ) : Type 0 where
  pub i_lt : i < length cs
  pub j_lt : j < length cs
  pub differ : i ≡ j → ⊥

pub record Pair (cs : List ℕ) (i a j b : ℕ) : Type 0 where
  pub i_lt : i < length cs
  pub j_lt : j < length cs
  pub differ : i ≡ j → ⊥
  pub a_lt : a < get_or cs i 0
  pub b_lt : b < get_or cs j 0

-- two lines of n
pub two_parts : (n i j : ℕ) → two_of n i j ≡ true → (i < n) × (j < n) × (i ≡ j → ⊥)
two_parts n i j e =
    let q = and_parts (ltb i n) (ltb j n && not (eqb i j)) e in
    let r = and_parts (ltb j n) (not (eqb i j)) q.1 in
    (ltb-true i n q.0, ltb-true j n r.0, eqb-false i j (not-true (eqb i j) r.1))

pub two_true : (n i j : ℕ) → i < n → j < n → (i ≡ j → ⊥) → two_of n i j ≡ true
two_true n i j h g ne = rw (lt-ltb i n h, lt-ltb j n g, ne_eqb i j ne)

pub lines_of : (cs : List ℕ) (i j : ℕ) → two_lines cs i j ≡ true → Two cs i j
lines_of cs i j e = let p = two_parts (length cs) i j e in record { i_lt = p.0; j_lt = p.1; differ = p.2 }

pub pair_of : (cs : List ℕ) (i a j b : ℕ) → two_options cs i a j b ≡ true → Pair cs i a j b
pair_of cs i a j b e =
    let p = and_parts (two_lines cs i j) (ltb a (get_or cs i 0) && ltb b (get_or cs j 0)) e in
    let l = lines_of cs i j p.0 in
    let s = and_parts (ltb a (get_or cs i 0)) (ltb b (get_or cs j 0)) p.1 in
    record {
      i_lt = l.i_lt;
      j_lt = l.j_lt;
      differ = l.differ;
      a_lt = ltb-true a (get_or cs i 0) s.0;
      b_lt = ltb-true b (get_or cs j 0) s.1;
    }

pub lines_true : (cs : List ℕ) (i j : ℕ) → i < length cs → j < length cs → (i ≡ j → ⊥) → two_lines cs i j ≡ true
lines_true cs i j h g ne = two_true (length cs) i j h g ne

pub pair_true : (cs : List ℕ) (i a j b : ℕ) → Pair cs i a j b → two_options cs i a j b ≡ true
pair_true cs i a j b p =
    rw (lt-ltb i (length cs) p.i_lt, lt-ltb j (length cs) p.j_lt, ne_eqb i j p.differ, lt-ltb a (get_or cs i 0) p.a_lt, lt-ltb b (get_or cs j 0) p.b_lt)
