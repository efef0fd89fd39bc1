-- What a trial tells, from the run at the level below.
use Rattle.std.proofs.Common.{◌≡◌, ℕ, ◌<◌, ◌&&◌, List, get_or, Some, None, ◌∙◌}
use Rattle.bits.specs.Bits.{on}
use Rattle.model.specs.Meaning.{Meaning, Lawful}
use Rattle.model.specs.Sets.{Empty, Full, Largest}
use Rattle.model.specs.Passing.{Held, SinglePasses, stays}
use Rattle.model.proofs.Facts.{line_real}
use Rattle.model.proofs.Holding.{held_same, held_words}
use Rattle.model.proofs.Singles.{single_fills, single_by, single_any}
use Rattle.filters.specs.Keeping.{AsFound}
use Rattle.filters.proofs.Ends.{largest_as}
use Rattle.singleton.specs.Trials.{Tried}

module _ (m : Meaning) (P : List ℕ → ℕ → ℕ → Type 0) (s : List ℕ) (i a : ℕ) where
  -- the option does not pass
  pub tried_none : (SinglePasses m P s i a → ⊥) → Tried m P s i a None
  tried_none fails = (fails, λ h r li held big k b p. fails (single_any m P s h r i a held big li k b p))

  -- the run left r of h, which has the words of s, line i held to option a
  module _ (law : Lawful m) (real : a < m.count i) (h r : List ℕ) (is : (k b : ℕ) → k < 128 → on (get_or h k 0) b ≡ (on (get_or s k 0) b && stays i a k b)) (big : Largest m P h r) where
    line : i < m.lines
    line = line_real m law i a real

    held : Held m i a s h
    held = held_words m law.limits.few_lines i a s h is

    pub tried_full : Full m P r → AsFound m h r → Tried m P s i a (Some r)
    tried_full full rest = (single_by m P s h r i a held big line full, (λ u same. largest_as m P u h r (held_same m i a s h u held same) big), full.some, λ k b l missing. rest k b missing ∙ is k b l)

    pub tried_empty : Empty m r → Tried m P s i a None
    tried_empty none = tried_none (λ p. let w = single_fills m P s h r i a held big p i line in none i w.0 w.1)
