-- Striking all options: bits that stand for none stay.
use Rattle.std.proofs.Common.{◌≡◌, ℕ, ◌≤◌, ◌&&◌, leb, List, get_or, ap, ◌∙◌, ⊎_elim}
use Rattle.std.proofs.Math.Bool.{and-true}
use Rattle.std.proofs.lemmas.Bool.{and_right, both_ways, cases_lt, le-leb, lt-leb}
use Rattle.bits.specs.Bits.{on}
use Rattle.model.specs.Meaning.{Meaning, Lawful}
use Rattle.model.specs.Sets.{Empty}
use Rattle.model.proofs.Facts.{line_real}
use Rattle.filters.specs.Keeping.{AsFound}

-- r is s without its options
abbrev pub Bared : Meaning → List ℕ → List ℕ → Type 0
Bared m s r = (i b : ℕ) → on (get_or r i 0) b ≡ (on (get_or s i 0) b && leb (m.count i) b)

module _ (m : Meaning) (s r : List ℕ) where
  pub bared_empty : Bared m s r → Empty m r
  bared_empty bared i a h =
      both_ways (on (get_or r i 0) a) (bared i a ∙ and_right (on (get_or s i 0) a) (leb (m.count i) a) (lt-leb (m.count i) a h.1)) h.2

  pub bared_rest : Lawful m → Bared m s r → AsFound m s r
  bared_rest law bared i a missing =
      let past : m.count i ≤ a = ⊎_elim (λ h. absurd (missing (line_real m law i a h, h))) (λ le. le) (cases_lt a (m.count i)) in
      bared i a ∙ ap (λ t. on (get_or s i 0) a && t) (le-leb (m.count i) a past) ∙ and-true (on (get_or s i 0) a)
