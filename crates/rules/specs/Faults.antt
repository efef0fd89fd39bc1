-- Faults of the parts of a source, and which of them is told.
use Rattle.std.specs.Prelude.{◌≡◌, ℕ, zero, suc, ◌<◌, Bool, true, false, ◌⊎◌, List, [], ◌∷◌, ◌++◌, codes, Ok, Err, Result}
use Rattle.std.specs.Fmt.{decimal}
use Rattle.model.specs.Meaning.{Meaning}
use Rattle.model.specs.Making.{bare}
use Rattle.rules.specs.declared.fault.SourceFault.{SourceFault}
use Rattle.rules.specs.declared.fault.SourceFault.TheVariants.{Lines, Span, Values, Records, Names, Kind, Range, Words, Counts, Memory}

-- the number of each fault
abbrev pub number : SourceFault → ℕ
number Lines = 1
number (Span i) = 2
number (Values i) = 3
number Records = 4
number (Names r) = 5
number (Kind r) = 6
number (Range r) = 7
number (Words r) = 8
number (Counts i) = 9
number Memory = 24

-- the first line or record concerned, and 0 where there is none
abbrev pub concerned : SourceFault → ℕ
concerned Lines = 0
concerned (Span i) = i
concerned (Values i) = i
concerned Records = 0
concerned (Names r) = r
concerned (Kind r) = r
concerned (Range r) = r
concerned (Words r) = r
concerned (Counts i) = i
concerned Memory = 0

-- what is printed of a fault: its number, a blank and the line or record concerned
abbrev pub refusal : SourceFault → List ℕ
refusal f = decimal (number f) ++ codes " " ++ decimal (concerned f)

-- whether there is an element at place p that has the flaw
abbrev pub flawed_at : {X : Type 0} → (X → Bool) → List X → ℕ → Bool
flawed_at flawed [] p = false
flawed_at flawed (x ∷ xs) zero = flawed x
flawed_at flawed (x ∷ xs) (suc p) = flawed_at flawed xs p

-- the fault f is told before g: its number is smaller, or it is the same and its line or record is
abbrev pub Before : SourceFault → SourceFault → Type 0
Before f g = (number f < number g) ⊎ ((number f ≡ number g) × (concerned f < concerned g))

-- there is no fault
abbrev pub Sound : (SourceFault → Bool) → Type 0
Sound there = (f : SourceFault) → there f ≡ false

-- there is some fault
abbrev pub Faulty : (SourceFault → Bool) → Type 0
Faulty there = (f : SourceFault) × (there f ≡ true)

-- of the faults that there are, r tells the first; it is `Ok` where there is none
abbrev pub FirstFault : (SourceFault → Bool) → Result (Unit {0}) SourceFault → Type 0
FirstFault there (Ok u) = Sound there
FirstFault there (Err f) = (there f ≡ true) × ((g : SourceFault) → Before g f → there g ≡ false)

-- a source that parts make means m, or is the bare source where there is a fault in them
pub record Makes (there : SourceFault → Bool) (m made : Meaning) : Type 0 where
  pub sound : Sound there → made ≡ m
  pub faulty : Faulty there → made ≡ bare
