-- Which levels are at least as strong as which, and that a stronger one leaves a subset.
use Rattle.std.proofs.Common.{◌≡◌, ℕ, true, List, subst, inl, inr, ⊎_elim}
use Rattle.model.specs.Meaning.{Meaning}
use Rattle.model.specs.Sets.{Sub, Empty, Full, Good, Largest}
use Rattle.model.specs.Passing.{ArcPasses, NearPasses, SinglePasses, AtLeast}
use Rattle.model.proofs.Nears.{near_self, near_joined}

pub at_least_refl : (P : List ℕ → ℕ → ℕ → Type 0) → AtLeast P P
at_least_refl P s i a h = h

pub at_least_trans : (P Q R : List ℕ → ℕ → ℕ → Type 0) → AtLeast P Q → AtLeast Q R → AtLeast P R
at_least_trans P Q R f g s i a h = g s i a (f s i a h)

module _ (m : Meaning) where
  pub near_at_least : AtLeast (NearPasses m) (ArcPasses m)
  near_at_least s i a h = record {
    here = h.here;
    all = λ j e.
        let w = h.some i h.here.0 (near_self m i) in
        let x = h.pass i w.0 j (near_self m i) (near_joined m i j e) w.1 e in
        (x.0, h.sub j x.0 (near_joined m i j e) x.1, subst (λ b. m.together i b j x.0 ≡ true) (h.held w.0 w.1) x.2);
  }

  pub single_at_least : (P : List ℕ → ℕ → ℕ → Type 0) → ((s t : List ℕ) (i a : ℕ) → Sub m s t → P s i a → P t i a) → AtLeast (SinglePasses m P) P
  single_at_least P mono s i a h =
      let w = h.full.some i h.here.0 in
      mono h.part s i a h.sub (subst (λ n. P h.part i n) (h.held w.0 w.1) (h.full.pass i w.0 w.1))

  -- singleton over arc, or over a level at least as strong
  pub single_over_arc : (P : List ℕ → ℕ → ℕ → Type 0) → AtLeast P (ArcPasses m) → AtLeast (SinglePasses m P) (NearPasses m)
  single_over_arc P strong s i a h = record {
    here = h.here;
    part = h.part;
    held = h.held;
    sub = λ k b n p. h.sub.all k b p;
    some = λ k l n. h.full.some k l;
    pass = λ k b j nk nj p e. (strong h.part k b (h.full.pass k b p)).all j e;
  }

  -- what is good at the stronger level is good at the weaker one, so the largest good subset is a subset
  module _ (P Q : List ℕ → ℕ → ℕ → Type 0) (strong : AtLeast P Q) where
    good_at : (s : List ℕ) → Good m P s → Good m Q s
    good_at s = ⊎_elim (λ (none : Empty m s). inl none) (λ (full : Full m P s). inr (record { some = full.some; pass = λ i a h. strong s i a (full.pass i a h) }))

    pub stronger_leaves : (s r t : List ℕ) → Largest m P s r → Largest m Q s t → Sub m r t
    stronger_leaves s r t big large = large.holds r (good_at r big.good) big.sub
