-- Neighbourhood passing: its laws.
use Rattle.std.proofs.Common.{◌≡◌, ℕ, ◌<◌, true, false, eqb, List, refl, ap, ◌∙◌, subst, ⊎_elim}
use Rattle.std.proofs.lemmas.Bool.{cases_eq, or_cases, or_left, or_right, both_ways, eqb-true, eq-eqb}
use Rattle.model.specs.Meaning.{Meaning, Mirrored, Proper}
use Rattle.model.specs.Sets.{In, Sub, Plan, Holds, Less}
use Rattle.model.specs.Passing.{near, NearPasses}
use Rattle.model.proofs.Plans.{plan_set, only, holds_own, plan_sub}

module _ (m : Meaning) where
  pub near_self : (i : ℕ) → near m i i ≡ true
  near_self i = or_left (eqb i i) (m.joined i i) (eq-eqb i i refl)

  pub near_joined : (i j : ℕ) → m.joined i j ≡ true → near m i j ≡ true
  near_joined i j e = or_right (eqb j i) (m.joined i j) e

  pub near_monotone : (s t : List ℕ) (i a : ℕ) → Sub m s t → NearPasses m s i a → NearPasses m t i a
  near_monotone s t i a le h = record {
    here = le.all i a h.here;
    part = h.part;
    held = h.held;
    sub = λ k b n p. le.all k b (h.sub k b n p);
    some = h.some;
    pass = h.pass;
  }

  pub near_plan : Proper m → (s : List ℕ) (p : ℕ → ℕ) → Plan m p → Holds m s p → (i : ℕ) → i < m.lines → NearPasses m s i (p i)
  near_plan proper s p plan holds i li = record {
    here = holds i li;
    part = plan_set m p;
    held = only m p i;
    sub = λ k b n h. (plan_sub m p s holds).all k b h;
    some = λ k lk n. (p k, holds_own m p plan k lk);
    pass = λ k b j nk nj h e.
        let w = proper.joined k j e in
        (p j, holds_own m p plan j w.1, rw (only m p k b h) (plan.agree k j w.0 w.1 w.2));
  }

  pub near_touch : Mirrored m → (s t : List ℕ) (i j a : ℕ) → Less m i s t → NearPasses m s j a → In m t j a → m.joined i j ≡ false → NearPasses m t j a
  near_touch mirrored s t i j a less h here off = record {
    here = here;
    part = h.part;
    held = h.held;
    sub = λ k b n p. ⊎_elim (own k b n p) (λ ne. less.rest k b ne (h.sub k b n p)) (cases_eq k i);
    some = h.some;
    pass = h.pass;
  }
    where
      -- line i is looked at from line j, so it is line j
      own : (k b : ℕ) → near m j k ≡ true → In m h.part k b → k ≡ i → In m t k b
      own k b n p ki = ⊎_elim
          (λ e.
          let kj : k ≡ j = eqb-true k j e in
          let ba : b ≡ a = h.held b (subst (λ x. In m h.part x b) kj p) in
          rw (kj, ba) here)
          (λ z. absurd (both_ways (m.joined j k) (ap (λ x. m.joined j x) ki ∙ mirrored.joined j i ∙ off) z))
          (or_cases (eqb k j) (m.joined j k) n)
