-- What testing and striking leaves of a set s, called r.
use Rattle.std.specs.Prelude.{◌≡◌, ℕ, ◌<◌, Bool, true, false, List, Ok, Err, Result, IfOk, sum, slice_index, slice_set}
use Rattle.bits.specs.Bits.{cleared}
use Rattle.model.specs.Meaning.{Meaning}
use Rattle.model.specs.Sets.{In, Less, SomeOn, NoneOn, EachLine}
use Rattle.filters.specs.Keeping.{Keeps}
use Rattle.filters.specs.declared.sweep.Emptied.{Emptied}

-- s without option a of line i
abbrev pub strike : List ℕ → ℕ → ℕ → List ℕ
strike s i a = slice_set s i (cleared (slice_index s i) a)

-- option a of line i was tested, and struck if it stood and failed
pub record Tested (m : Meaning) (P : List ℕ → ℕ → ℕ → Type 0) (i a : ℕ) (s r : List ℕ) (struck : Bool) : Type 0 where
  pub keeps : Keeps m P s r
  pub less : Less m i s r
  pub stays : struck ≡ false → (r ≡ s) × (In m s i a → P s i a)
  pub falls : struck ≡ true → (sum r < sum s) × (In m r i a → ⊥)

-- how a sweep of line i ended: nothing was struck, something was, or no option was left
abbrev pub LineEnd : Meaning → (List ℕ → ℕ → ℕ → Type 0) → ℕ → List ℕ → List ℕ → Result Bool Emptied → Type 0
LineEnd m P i s r (Ok false) = (r ≡ s) × ((a : ℕ) → In m r i a → P r i a)
LineEnd m P i s r (Ok true) = (sum r < sum s) × SomeOn m r i
LineEnd m P i s r (Err _) = NoneOn m r i

-- the options of line i were tested; they all pass in what is left if the line does not touch
-- itself (`self`) and was not emptied
pub record LineSwept (m : Meaning) (P : List ℕ → ℕ → ℕ → Type 0) (self : Bool) (i : ℕ) (s r : List ℕ) (how : Result Bool Emptied) : Type 0 where
  pub keeps : Keeps m P s r
  pub less : Less m i s r
  pub ended : LineEnd m P i s r how
  pub own : self ≡ false → IfOk how (λ _. (a : ℕ) → In m r i a → P r i a)

-- how a sweep of all lines ended: nothing was struck, something was, or a line has no option left
abbrev pub RoundEnd : Meaning → (List ℕ → ℕ → ℕ → Type 0) → List ℕ → List ℕ → Result Bool Emptied → Type 0
RoundEnd m P s r (Ok false) = (r ≡ s) × ((i a : ℕ) → In m r i a → P r i a)
RoundEnd m P s r (Ok true) = (sum r < sum s) × EachLine m r
RoundEnd m P s r (Err _) = (i : ℕ) × (i < m.lines) × NoneOn m r i

-- the options of all lines were tested
pub record RoundSwept (m : Meaning) (P : List ℕ → ℕ → ℕ → Type 0) (s r : List ℕ) (how : Result Bool Emptied) : Type 0 where
  pub keeps : Keeps m P s r
  pub ended : RoundEnd m P s r how
