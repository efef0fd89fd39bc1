-- What the facts of a source say of the numbers that its questions answer.
use Rattle.std.proofs.Common.{◌≡◌, ℕ, ◌<◌, ◌≤◌, true, ⊎_elim, arith}
use Rattle.std.proofs.lemmas.Bool.{cases_lt}
use Rattle.model.specs.Meaning.{Meaning, Lawful}

-- where a missing line has no options, a line that has options exists
pub line_of : (m : Meaning) → ((i : ℕ) → m.lines ≤ i → m.count i ≡ 0) → (i a : ℕ) → a < m.count i → i < m.lines
line_of m none i a h = ⊎_elim (λ l. l) (λ past. absurd (omega (arith, none i past))) (cases_lt i m.lines)

module _ (m : Meaning) (law : Lawful m) where
  -- an option that goes with another has a number below 64
  pub support_few : (i a j b : ℕ) → m.together i a j b ≡ true → b < 64
  support_few i a j b e =
      let w = (law.proper.together i a j b e).1 in
      omega (arith, w.1, law.limits.few_options j w.0)

  -- a joined line has a number below 128
  pub joined_few : (i j : ℕ) → m.joined i j ≡ true → j < 128
  joined_few i j e = omega (arith, (law.proper.joined i j e).1, law.limits.few_lines)

  -- no line has more than 64 options, a missing one too
  pub count_few : (i : ℕ) → m.count i ≤ 64
  count_few i = ⊎_elim (λ l. law.limits.few_options i l) (λ past. omega (arith, law.proper.count i past)) (cases_lt i m.lines)

  pub line_real : (i a : ℕ) → a < m.count i → i < m.lines
  line_real = line_of m law.proper.count
