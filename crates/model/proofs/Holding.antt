-- A line held to an option.
use Rattle.std.proofs.Common.{◌≡◌, ℕ, ◌<◌, ◌≤◌, true, not, ◌&&◌, eqb, List, get_or, sym, refl, ◌∙◌, subst, ⊎_elim, arith}
use Rattle.std.proofs.lemmas.Bool.{and_parts, both_ways, cases_eq, eq-eqb, ne_eqb, eqb-true, or_cases, not-true}
use Rattle.bits.specs.Bits.{on}
use Rattle.model.specs.Meaning.{Meaning}
use Rattle.model.specs.Sets.{In, Same}
use Rattle.model.specs.Passing.{stays, Held}

-- bit b of the word r of line k, which the word w became where line i was held to option a
module _ (r w i a k b : ℕ) (is : on r b ≡ (on w b && stays i a k b)) where
  pub stays_down : on r b ≡ true → (on w b ≡ true) × (k ≡ i → b ≡ a)
  stays_down e =
      let p = and_parts (on w b) (stays i a k b) (sym is ∙ e) in (
        p.0,
        λ ki. ⊎_elim (λ n. absurd (both_ways (eqb k i) (not-true (eqb k i) n) (eq-eqb k i ki))) (eqb-true b a) (or_cases (not (eqb k i)) (eqb b a) p.1),
      )

  pub stays_up : on w b ≡ true → (k ≡ i → b ≡ a) → on r b ≡ true
  stays_up e same = is ∙ (⊎_elim (λ ki. rw (e, eq-eqb k i ki, eq-eqb b a (same ki))) (λ ne. rw (e, ne_eqb k i ne)) (cases_eq k i))

-- sets that are held by their words
pub held_words : (m : Meaning) → m.lines ≤ 128 → (i a : ℕ) (s h : List ℕ)
    → ((k b : ℕ) → k < 128 → on (get_or h k 0) b ≡ (on (get_or s k 0) b && stays i a k b)) → Held m i a s h
held_words m few i a s h is = record {
  sub = record { all = λ k b p. (p.0, p.1, (stays_down (get_or h k 0) (get_or s k 0) i a k b (is k b (omega arith)) p.2).0) };
  only = λ b p. (stays_down (get_or h i 0) (get_or s i 0) i a i b (is i b (omega arith)) p.2).1 refl;
  all = λ k b same p. (p.0, p.1, stays_up (get_or h k 0) (get_or s k 0) i a k b (is k b (omega arith)) p.2 same);
}

-- there is one such set
pub held_same : (m : Meaning) (i a : ℕ) (s h u : List ℕ) → Held m i a s h → Held m i a s u → Same m h u
held_same m i a s h u p q = record { there = record { all = into h u p q }; back = record { all = into u h q p } }
  where
    into : (x y : List ℕ) → Held m i a s x → Held m i a s y → (k b : ℕ) → In m x k b → In m y k b
    into x y p q k b h = q.all k b (λ ki. p.only b (subst (λ n. In m x n b) ki h)) (p.sub.all k b h)
