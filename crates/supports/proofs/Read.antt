-- The words answer from the meaning: no bit is set of what does not exist.
use Rattle.std.proofs.Common.{◌≡◌, ℕ, ◌<◌, length, get_or, vec_items, sym, ◌∙◌, ⊎_elim, arith}
use Rattle.std.proofs.lemmas.Bool.{and_left, cases_Bool}
use Rattle.bits.specs.Bits.{on}
use Rattle.bits.proofs.Bits.{on_zero}
use Rattle.model.specs.Making.{two_lines, two_options}
use Rattle.model.specs.Words.{place, words_meaning}
use Rattle.model.proofs.Bools.{implied}
use Rattle.model.proofs.Pairs.{pair_of}
use Rattle.supports.specs.declared.supports.Supports.{Supports}
use Rattle.supports.specs.Held.{counts, joins, held, supports_meaning}

module _ (s : Supports) where
  pub support_bits : (i a j b : ℕ) → i < length (counts s) → j < length (counts s) → a < s.width
      → on (get_or (vec_items s.words) (place (length (counts s)) s.width i a j) 0) b ≡ (supports_meaning s).together i a j b
  unfolding words_meaning
  support_bits i a j b h g k = sym (implied (two_options (counts s) i a j b) _ ((held s).clean.options i a j b h k g))

  pub support_none : (i a j b : ℕ) → (i < length (counts s) → j < length (counts s) → a < s.width → ⊥) → on 0 b ≡ (supports_meaning s).together i a j b
  unfolding words_meaning
  support_none i a j b missing = on_zero b ∙ sym (and_left (two_options (counts s) i a j b) _ (⊎_elim (λ t.
      let p = pair_of (counts s) i a j b t in absurd (missing p.i_lt p.j_lt (omega (arith, p.a_lt, (held s).sized.counts_le i)))) (λ f. f)
      (cases_Bool (two_options (counts s) i a j b))))

  pub joins_bits : (i j : ℕ) → on (get_or (joins s) i 0) j ≡ (supports_meaning s).joined i j
  unfolding words_meaning
  joins_bits i j = sym (implied (two_lines (counts s) i j) _ ((held s).clean.lines i j))
