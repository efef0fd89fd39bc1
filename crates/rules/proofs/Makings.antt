-- What a checked source means.
use Rattle.std.proofs.Common.{◌≡◌, Bool}
use Rattle.std.proofs.lemmas.Bool.{both_ways}
use Rattle.model.specs.Meaning.{Meaning}
use Rattle.model.specs.Making.{bare}
use Rattle.rules.specs.declared.fault.SourceFault.{SourceFault}
use Rattle.rules.specs.Faults.{Sound, Faulty, Makes}

module _ (there : SourceFault → Bool) (m made : Meaning) where
  -- there is no fault, and the source means m
  pub makes_sound : Sound there → made ≡ m → Makes there m made
  makes_sound none e = record { sound = λ _. e; faulty = λ w. absurd (both_ways (there w.0) (none w.0) w.1) }

  -- there is a fault, and the source is bare
  pub makes_bare : Faulty there → made ≡ bare → Makes there m made
  makes_bare w e = record { sound = λ none. absurd (both_ways (there w.0) (none w.0) w.1); faulty = λ _. e }
