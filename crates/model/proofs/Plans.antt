-- A plan as an option set: one option on each line.
use Rattle.std.proofs.Common.{◌≡◌, ℕ, ◌^◌, ◌<◌, List, map, get_or, sym, refl, ap, ◌∙◌, arith}
use Rattle.std.specs.List.{range_with_len}
use Rattle.std.proofs.lemmas.List.FromFn.{get_or-map-range_with_len}
use Rattle.std.proofs.lemmas.Bool.{eqb-true, eq-eqb}
use Rattle.bits.specs.Bits.{on}
use Rattle.bits.proofs.Bits.{on_pow}
use Rattle.model.specs.Meaning.{Meaning}
use Rattle.model.specs.Sets.{In, Sub, Plan, Holds, Full}

-- the set of the options of a plan
unfoldable pub plan_set : Meaning → (ℕ → ℕ) → List ℕ
plan_set m p = map (λ i. 2 ^ p i) (range_with_len 0 m.lines)

module _ (m : Meaning) (p : ℕ → ℕ) where
  word : (i : ℕ) → i < m.lines → get_or (plan_set m p) i 0 ≡ 2 ^ p i
  unfolding plan_set
  word i h = get_or-map-range_with_len (λ i. 2 ^ p i) 0 m.lines i i 0 h (omega arith)

  pub holds_own : Plan m p → Holds m (plan_set m p) p
  holds_own plan i h = (h, plan.real i h, ap (λ w. on w (p i)) (word i h) ∙ on_pow (p i) (p i) ∙ eq-eqb (p i) (p i) refl)

  pub only : (i a : ℕ) → In m (plan_set m p) i a → a ≡ p i
  only i a h = eqb-true a (p i) (sym (on_pow (p i) a) ∙ sym (ap (λ w. on w a) (word i h.0)) ∙ h.2)

  -- a plan is a full set if its options pass in it, and a subset of every set that holds it
  pub plan_full : (P : List ℕ → ℕ → ℕ → Type 0) → Plan m p → ((s : List ℕ) → Holds m s p → (i : ℕ) → i < m.lines → P s i (p i)) → Full m P (plan_set m p)
  plan_full P plan safe = record {
    some = λ i h. (p i, holds_own plan i h);
    pass = λ i a h. rw (only i a h) (safe (plan_set m p) (holds_own plan) i h.0);
  }

  pub plan_sub : (s : List ℕ) → Holds m s p → Sub m (plan_set m p) s
  plan_sub s holds = record { all = λ i a h. rw (only i a h) (holds i h.0) }

  -- what holds the set of a plan holds the plan
  pub plan_held : (s : List ℕ) → Plan m p → Sub m (plan_set m p) s → Holds m s p
  plan_held s plan le i h = le.all i (p i) (holds_own plan i h)
