-- Each step of making a source keeps its facts.
use Rattle.std.proofs.Common.{◌≡◌, ℕ, ◌<◌, ◌≤◌, true, false, not, ◌&&◌, ◌||◌, eqb, List, length, sym, refl, ap, ◌∙◌, ⊎_elim}
use Rattle.std.proofs.lemmas.List.{get_or_past}
use Rattle.std.proofs.lemmas.Bool.{and_parts, or_parts, or_cases, or_left, or_right, eqb-true, cases_Bool, both_ways}
use Rattle.model.specs.Meaning.{Meaning, Lawful}
use Rattle.model.specs.Making.{counts_ok, no_rules, with_join, with_ban, same_lines, same_options}
use Rattle.std.proofs.Math.Bool.{and_comm, or_comm}
use Rattle.model.proofs.Pairs.{count_at, pair_of, pair_true, two_options_sym}

pub no_rules_lawful : (cs : List ℕ) → 0 < length cs → length cs ≤ 128 → counts_ok cs ≡ true → Lawful (no_rules cs)
unfolding no_rules
no_rules_lawful cs some few ok = record {
  limits = record {
    some_line = some;
    few_lines = few;
    some_option = λ i h. (count_at cs ok i h).0;
    few_options = λ i h. (count_at cs ok i h).1;
  };
  mirrored = record { joined = λ i j. refl; together = two_options_sym cs };
  free = record {
    all = λ i a j b h g ne e. pair_true cs i a j b (record { i_lt = h.0; j_lt = g.0; differ = ne; a_lt = h.1; b_lt = g.1 });
  };
  proper = record {
    count = λ i past. get_or_past cs i 0 past;
    joined = λ i j e. absurd (both_ways false refl e);
    together = λ i a j b e. let p = pair_of cs i a j b e in ((p.i_lt, p.a_lt), (p.j_lt, p.b_lt), p.differ);
  };
}

same_lines_sym : (i j k l : ℕ) → same_lines i j k l ≡ same_lines i j l k
same_lines_sym i j k l =
    or_comm (eqb k i && eqb l j) (eqb k j && eqb l i) ∙ ap (λ x. x || (eqb k i && eqb l j)) (and_comm (eqb k j) (eqb l i))
    ∙ ap (λ x. (eqb l i && eqb k j) || x) (and_comm (eqb k i) (eqb l j))

same_options_sym : (i a j b k c l d : ℕ) → same_options i a j b k c l d ≡ same_options i a j b l d k c
same_options_sym i a j b k c l d =
    or_comm ((eqb k i && eqb l j) && (eqb c a && eqb d b)) ((eqb k j && eqb l i) && (eqb d a && eqb c b))
    ∙ ap (λ x. (x && (eqb d a && eqb c b)) || ((eqb k i && eqb l j) && (eqb c a && eqb d b))) (and_comm (eqb k j) (eqb l i))
    ∙ ap (λ x. ((eqb l i && eqb k j) && (eqb d a && eqb c b)) || (x && (eqb c a && eqb d b))) (and_comm (eqb k i) (eqb l j))

-- what holds of the lines i and j, in either order, holds of lines that are the same
pub at_lines : (P : ℕ → ℕ → Type 0) (i j k l : ℕ) → P i j → P j i → same_lines i j k l ≡ true → P k l
at_lines P i j k l p q e = ⊎_elim
    (λ t. let s = and_parts (eqb k i) (eqb l j) t in put k l i j (eqb-true k i s.0) (eqb-true l j s.1) p)
    (λ t. let s = and_parts (eqb k j) (eqb l i) t in put k l j i (eqb-true k j s.0) (eqb-true l i s.1) q)
    (or_cases (eqb k i && eqb l j) (eqb k j && eqb l i) e)
  where
    put : (k l x y : ℕ) → k ≡ x → l ≡ y → P x y → P k l
    put k l x y d e h = rw (d, e) h

pub join_lawful : (i j : ℕ) (m : Meaning) → Lawful m → i < m.lines → j < m.lines → (i ≡ j → ⊥) → Lawful (with_join i j m)
unfolding with_join
join_lawful i j m p h g ne = record {
  limits = record {
    some_line = p.limits.some_line;
    few_lines = p.limits.few_lines;
    some_option = p.limits.some_option;
    few_options = p.limits.few_options;
  };
  mirrored = record {
    joined = λ k l. ap (λ x. x || same_lines i j k l) (p.mirrored.joined k l) ∙ ap (λ x. m.joined l k || x) (same_lines_sym i j k l);
    together = p.mirrored.together;
  };
  free = record { all = λ k c l d x y n e. p.free.all k c l d x y n (or_parts (m.joined k l) (same_lines i j k l) e).0 };
  proper = record {
    count = p.proper.count;
    joined = λ k l e. ⊎_elim (p.proper.joined k l)
        (at_lines (λ x y. (x < m.lines) × (y < m.lines) × (x ≡ y → ⊥)) i j k l (h, g, ne) (g, h, λ q. ne (sym q)))
        (or_cases (m.joined k l) (same_lines i j k l) e);
    together = p.proper.together;
  };
}

-- options that are forbidden stand on joined lines
banned_joined : (m : Meaning) (i a j b k c l d : ℕ) → Lawful m → m.joined i j ≡ true → same_options i a j b k c l d ≡ true → m.joined k l ≡ true
banned_joined m i a j b k c l d p jn e =
    at_lines (λ x y. m.joined x y ≡ true) i j k l jn (p.mirrored.joined j i ∙ jn)
    (⊎_elim (λ t. or_left (eqb k i && eqb l j) (eqb k j && eqb l i) (and_parts (eqb k i && eqb l j) (eqb c a && eqb d b) t).0)
    (λ t. or_right (eqb k i && eqb l j) (eqb k j && eqb l i) (and_parts (eqb k j && eqb l i) (eqb d a && eqb c b) t).0)
    (or_cases ((eqb k i && eqb l j) && (eqb c a && eqb d b)) ((eqb k j && eqb l i) && (eqb d a && eqb c b)) e))

pub ban_lawful : (i a j b : ℕ) (m : Meaning) → Lawful m → m.joined i j ≡ true → Lawful (with_ban i a j b m)
unfolding with_ban
ban_lawful i a j b m p jn = record {
  limits = record {
    some_line = p.limits.some_line;
    few_lines = p.limits.few_lines;
    some_option = p.limits.some_option;
    few_options = p.limits.few_options;
  };
  mirrored = record {
    joined = p.mirrored.joined;
    together = λ k c l d.
        ap (λ x. x && not (same_options i a j b k c l d)) (p.mirrored.together k c l d)
        ∙ ap (λ x. m.together l d k c && not x) (same_options_sym i a j b k c l d);
  };
  free = record {
    all = λ k c l d h g n e.
        let allowed : same_options i a j b k c l d ≡ false =
        ⊎_elim (λ t. absurd (both_ways (m.joined k l) e (banned_joined m i a j b k c l d p jn t))) (λ f. f) (cases_Bool (same_options i a j b k c l d)) in
        rw (p.free.all k c l d h g n e, allowed);
  };
  proper = record {
    count = p.proper.count;
    joined = p.proper.joined;
    together = λ k c l d e. p.proper.together k c l d (and_parts (m.together k c l d) (not (same_options i a j b k c l d)) e).0;
  };
}
