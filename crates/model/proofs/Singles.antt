-- Singleton passing over a level P: its laws, from those of P, and what the largest good subset of the
-- held set tells.
use Rattle.std.proofs.Common.{◌≡◌, ℕ, ◌<◌, true, false, List, ◌∙◌, subst, inr, ⊎_elim}
use Rattle.std.proofs.lemmas.Bool.{both_ways, cases_eq}
use Rattle.model.specs.Meaning.{Meaning}
use Rattle.model.specs.Sets.{In, Sub, Plan, Holds, Less, EachLine, Empty, Full, Largest}
use Rattle.model.specs.Passing.{Held, SinglePasses, single_touching}
use Rattle.model.proofs.Pairs.{two_parts, two_true}
use Rattle.model.proofs.Plans.{plan_set, only, plan_full, plan_sub}

pub single_real : (m : Meaning) (i j : ℕ) → single_touching m i j ≡ true → (i < m.lines) × (j < m.lines)
single_real m i j e = let p = two_parts m.lines i j e in (p.0, p.1)

module _ (m : Meaning) (P : List ℕ → ℕ → ℕ → Type 0) where
  pub single_monotone : (s t : List ℕ) (i a : ℕ) → Sub m s t → SinglePasses m P s i a → SinglePasses m P t i a
  single_monotone s t i a le h = record {
    here = le.all i a h.here;
    part = h.part;
    full = h.full;
    sub = record { all = λ k b p. le.all k b (h.sub.all k b p) };
    held = h.held;
  }

  pub single_plan : ((s : List ℕ) (p : ℕ → ℕ) → Plan m p → Holds m s p → (i : ℕ) → i < m.lines → P s i (p i))
      → (s : List ℕ) (p : ℕ → ℕ) → Plan m p → Holds m s p → (i : ℕ) → i < m.lines → SinglePasses m P s i (p i)
  single_plan safe s p plan holds i li = record {
    here = holds i li;
    part = plan_set m p;
    full = plan_full m p P plan (λ t. safe t p plan);
    sub = plan_sub m p s holds;
    held = only m p i;
  }

  pub single_touch : (s t : List ℕ) (i j a : ℕ) → Less m i s t → SinglePasses m P s j a → In m t j a
      → single_touching m i j ≡ false → SinglePasses m P t j a
  single_touch s t i j a less h here off = record {
    here = here;
    part = h.part;
    full = h.full;
    sub = record { all = λ k b p. ⊎_elim (own k b p) (λ ne. less.rest k b ne (h.sub.all k b p)) (cases_eq k i) };
    held = h.held;
  }
    where
      -- line i has options in the part, so it is line j
      own : (k b : ℕ) → In m h.part k b → k ≡ i → In m t k b
      own k b p ki = ⊎_elim
          (λ (ij : i ≡ j).
          let kj : k ≡ j = ki ∙ ij in
          let ba : b ≡ a = h.held b (subst (λ n. In m h.part n b) kj p) in
          rw (kj, ba) here)
          (λ ne. absurd (both_ways (single_touching m i j) off (two_true m.lines i j (subst (λ n. n < m.lines) ki p.0) here.0 ne)))
          (cases_eq i j)

  -- By the largest good subset: r is that of h, which is s with line i held to option a. If
  -- the option passes, each line has an option in r, and if there is any option in r, it passes.
  module _ (s h r : List ℕ) (i a : ℕ) (held : Held m i a s h) (big : Largest m P h r) where
    pub single_fills : SinglePasses m P s i a → EachLine m r
    single_fills p k l =
        let inside : Sub m p.part h = record { all = λ j b q. held.all j b (λ ji. p.held b (subst (λ n. In m p.part n b) ji q)) (p.sub.all j b q) } in
        let w = p.full.some k l in
        (w.0, (big.holds p.part (inr p.full) inside).all k w.0 w.1)

    -- a run at P that left r full
    pub single_by : i < m.lines → Full m P r → SinglePasses m P s i a
    single_by li full =
        let w = full.some i li in
        let in_h = big.sub.all i w.0 w.1 in
        record {
          here = subst (λ n. In m s i n) (held.only w.0 in_h) (held.sub.all i w.0 in_h);
          part = r;
          full = full;
          sub = record { all = λ k b p. held.sub.all k b (big.sub.all k b p) };
          held = λ b p. held.only b (big.sub.all i b p);
        }

    pub single_any : i < m.lines → (k b : ℕ) → In m r k b → SinglePasses m P s i a
    single_any li k b p = ⊎_elim (λ (none : Empty m r). absurd (none k b p)) (single_by li) big.good
