-- How a filter ends.
use Rattle.std.proofs.Common.{◌≡◌, ℕ, ◌<◌, ◌≤◌, List, Ok, Err, Result, IsErr, get_or, sym, ap, ◌∙◌, inl, inr, ⊎_elim, arith}
use Rattle.std.proofs.lemmas.Bool.{false≢true}
use Rattle.bits.specs.Bits.{on}
use Rattle.model.specs.Meaning.{Meaning, Lawful}
use Rattle.model.specs.Sets.{Same, Plan, Holds, NoneOn, Empty, Largest}
use Rattle.model.proofs.Plans.{plan_set, plan_full, plan_sub, plan_held}
use Rattle.filters.specs.Copies.{CopyOf, Leaves}
use Rattle.filters.specs.Keeping.{Keeps}
use Rattle.filters.specs.Filtering.{Filtered, Ran}
use Rattle.filters.specs.declared.outcome.Outcome.{Outcome}
use Rattle.filters.specs.declared.outcome.Outcome.TheVariants.{Settled, NoPlan}
use Rattle.filters.specs.declared.sweep.Emptied.{Emptied}
use Rattle.filters.proofs.Baring.{Bared, bared_empty, bared_rest}

-- every option of a plan passes in every set that holds the plan
abbrev pub Safe : Meaning → (List ℕ → ℕ → ℕ → Type 0) → Type 0
Safe m P = (s : List ℕ) (p : ℕ → ℕ) → Plan m p → Holds m s p → (i : ℕ) → i < m.lines → P s i (p i)

module _ (m : Meaning) (P : List ℕ → ℕ → ℕ → Type 0) (safe : Safe m P) where
  -- a plan is a good subset, so it is kept
  plan_kept : (s r : List ℕ) → Keeps m P s r → (p : ℕ → ℕ) → Plan m p → Holds m s p → Holds m r p
  plan_kept s r keeps p plan holds =
      plan_held m p r plan (keeps.holds (plan_set m p) (plan_full m p P plan (λ t. safe t p plan)) (plan_sub m p s holds))

  -- a line has no option left, and then all options were struck, which left r'
  pub no_plan : Lawful m → (s r r' : List ℕ) (e : Emptied) → Ran m P s r (Err e) → Bared m r r' → Filtered m P s r' NoPlan
  no_plan law s r r' e run bared = record {
    largest = record {
      good = inl (bared_empty m r r' bared);
      sub = record { all = λ j a h. absurd (bared_empty m r r' bared j a h) };
      holds = λ t good le. record {
        all = λ j a h. absurd (⊎_elim (λ (e : Empty m t). e j a h) (λ full. let w = full.some line real in none w.0 ((run.keeps.holds t full le).all line w.0 w.1)) good);
      };
    };
    ended = bared_empty m r r' bared;
    rest = λ j a missing. bared_rest m r r' law bared j a missing ∙ run.keeps.rest j a missing;
    plans = λ p plan holds. absurd (none (p line) (plan_kept s r run.keeps p plan holds line real));
  }
    where
      line : ℕ
      line = run.ended.0

      real : line < m.lines
      real = run.ended.1

      none : NoneOn m r line
      none = run.ended.2

  pub settles : (s r : List ℕ) (u : Unit {0}) → Ran m P s r (Ok u) → Filtered m P s r Settled
  settles s r u run = record {
    largest = record {
      good = inr run.ended;
      sub = run.keeps.sub;
      holds = λ t good le. record {
        all = λ j a h. ⊎_elim (λ (e : Empty m t). absurd (e j a h)) (λ f. (run.keeps.holds t f le).all j a h) good;
      };
    };
    ended = run.ended;
    rest = run.keeps.rest;
    plans = plan_kept s r run.keeps;
  }

-- a run ended since a line has no option left
pub emptied : (m : Meaning) (P : List ℕ → ℕ → ℕ → Type 0) (s r : List ℕ) (i : ℕ) (how : Result (Unit {0}) Emptied) → Keeps m P s r → i < m.lines → NoneOn m r i → IsErr how → Ran m P s r how
emptied m P s r i (Ok u) keeps real none err = absurd (false≢true err)
emptied m P s r i (Err e) keeps real none err = record { keeps = keeps; ended = (i, real, none) }

-- the largest good subset of a set u with the same options as s is that of s
pub largest_as : (m : Meaning) (P : List ℕ → ℕ → ℕ → Type 0) (s u r : List ℕ) → Same m u s → Largest m P u r → Largest m P s r
largest_as m P s u r same big = record {
  good = big.good;
  sub = record { all = λ i a h. same.there.all i a (big.sub.all i a h) };
  holds = λ t good le. big.holds t good (record { all = λ i a h. same.back.all i a (le.all i a h) });
}

-- sets with the same words have the same options
pub same_words : (m : Meaning) → m.lines ≤ 128 → (s t : List ℕ) → ((k : ℕ) → k < 128 → get_or s k 0 ≡ get_or t k 0) → Same m s t
same_words m few s t e = record {
  there = record { all = λ i a h. (h.0, h.1, ap (λ w. on w a) (sym (e i (omega arith))) ∙ h.2) };
  back = record { all = λ i a h. (h.0, h.1, ap (λ w. on w a) (e i (omega arith)) ∙ h.2) };
}

-- what filtering a copy u of s left is what the level leaves of s
pub leaves : (m : Meaning) (P : List ℕ → ℕ → ℕ → Type 0) → m.lines ≤ 128 → (s u r : List ℕ) (how : Outcome) → CopyOf s u → Filtered m P u r how → Leaves m P s r
leaves m P few s u r how copy run = record {
  largest = largest_as m P s u r (same_words m few u s copy.words) run.largest;
  rest = λ i a h missing. run.rest i a missing ∙ ap (λ w. on w a) (copy.words i h);
}
