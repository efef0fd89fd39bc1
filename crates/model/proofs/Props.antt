-- The facts of compiled words have one proof at most, so they come out of a truncation.
use Rattle.std.proofs.Common.{ℕ, List}
use mathlib.Core.Logic.{∥∥₁_elim}
use denote.Struct.Props.{props}
use Rattle.model.specs.Meaning.{Meaning, Lawful}
use Rattle.model.specs.Words.{Sized, Clean, Compiled, words_meaning}

lawful_of : (m : Meaning) → ∥ Lawful m ∥₁ → Lawful m
lawful_of m t = record {
  limits = record {
    some_line = ∥∥₁_elim t (hlevel props) (λ p. p.limits.some_line);
    few_lines = ∥∥₁_elim t (hlevel props) (λ p. p.limits.few_lines);
    some_option = ∥∥₁_elim t (hlevel props) (λ p. p.limits.some_option);
    few_options = ∥∥₁_elim t (hlevel props) (λ p. p.limits.few_options);
  };
  mirrored = record {
    joined = ∥∥₁_elim t (hlevel props) (λ p. p.mirrored.joined);
    together = λ i a j b. ∥∥₁_elim t (hlevel props) (λ p. p.mirrored.together i a j b);
  };
  free = record { all = λ i a j b h g n e. ∥∥₁_elim t (hlevel props) (λ p. p.free.all i a j b h g n e) };
  proper = record {
    count = λ i h. ∥∥₁_elim t (hlevel props) (λ p. p.proper.count i h);
    joined = λ i j e. ∥∥₁_elim t (hlevel props) (λ p. p.proper.joined i j e);
    together = λ i a j b e. ∥∥₁_elim t (hlevel props) (λ p. p.proper.together i a j b e);
  };
}

sized_of : (cs : List ℕ) (width : ℕ) (joins words : List ℕ) → ∥ Sized cs width joins words ∥₁ → Sized cs width joins words
sized_of cs width joins words t = record {
  joins_len = ∥∥₁_elim t (hlevel props) (λ p. p.joins_len);
  words_len = ∥∥₁_elim t (hlevel props) (λ p. p.words_len);
  counts_le = ∥∥₁_elim t (hlevel props) (λ p. p.counts_le);
  width_le = ∥∥₁_elim t (hlevel props) (λ p. p.width_le);
}

clean_of : (cs : List ℕ) (width : ℕ) (joins words : List ℕ) → ∥ Clean cs width joins words ∥₁ → Clean cs width joins words
clean_of cs width joins words t = record {
  lines = λ i j e. ∥∥₁_elim t (hlevel props) (λ p. p.lines i j e);
  options = λ i a j b h g k e. ∥∥₁_elim t (hlevel props) (λ p. p.options i a j b h g k e);
}

pub compiled_of : (cs : List ℕ) (width : ℕ) (joins words : List ℕ) → ∥ Compiled cs width joins words ∥₁ → Compiled cs width joins words
compiled_of cs width joins words t = record {
  sized = sized_of cs width joins words (∥∥₁_elim t (hlevel props) (λ p. ∣ p.sized ∣₁));
  clean = clean_of cs width joins words (∥∥₁_elim t (hlevel props) (λ p. ∣ p.clean ∣₁));
  lawful = lawful_of (words_meaning cs width joins words) (∥∥₁_elim t (hlevel props) (λ p. ∣ p.lawful ∣₁));
}
