-- What a filter leaves of a set s, called r.
use Rattle.std.specs.Prelude.{ℕ, ◌<◌, List, Ok, Err, Result}
use Rattle.model.specs.Meaning.{Meaning}
use Rattle.model.specs.Sets.{Plan, Holds, NoneOn, Empty, Full, Largest}
use Rattle.filters.specs.Keeping.{AsFound, Keeps}
use Rattle.filters.specs.declared.outcome.Outcome.{Outcome}
use Rattle.filters.specs.declared.outcome.Outcome.TheVariants.{Settled, NoPlan}
use Rattle.filters.specs.declared.sweep.Emptied.{Emptied}

-- settled: each line has an option left and all options left pass; no plan: no option is left
abbrev pub Ended : Meaning → (List ℕ → ℕ → ℕ → Type 0) → List ℕ → Outcome → Type 0
Ended m P r Settled = Full m P r
Ended m P r NoPlan = Empty m r

-- r is the largest good subset of s, has its other bits as found, and has lost no plan: where r is
-- empty, s held none
pub record Filtered (m : Meaning) (P : List ℕ → ℕ → ℕ → Type 0) (s r : List ℕ) (how : Outcome) : Type 0 where
  pub largest : Largest m P s r
  pub ended : Ended m P r how
  pub rest : AsFound m s r
  pub plans : (p : ℕ → ℕ) → Plan m p → Holds m s p → Holds m r p

-- how a run ended: each line has an option left and all options left pass, or a line has no option left
abbrev pub RunEnd : Meaning → (List ℕ → ℕ → ℕ → Type 0) → List ℕ → Result (Unit {0}) Emptied → Type 0
RunEnd m P r (Ok _) = Full m P r
RunEnd m P r (Err _) = (i : ℕ) × (i < m.lines) × NoneOn m r i

-- options of s were struck until the run ended
pub record Ran (m : Meaning) (P : List ℕ → ℕ → ℕ → Type 0) (s r : List ℕ) (how : Result (Unit {0}) Emptied) : Type 0 where
  pub keeps : Keeps m P s r
  pub ended : RunEnd m P r how
