-- A view: some lines of a source, as a source.
use Rattle.std.specs.Prelude.{◌≡◌, ℕ, ◌<◌, max, Bool, true, cond, not, ◌&&◌, ◌||◌, List, length, ◌==◌, nat_lt, slice_index}
use Rattle.model.specs.Meaning.{Meaning}

-- A meaning by its counts, its joined lines and what its rules allow: options of two lines go together
-- if both exist, and the lines are not joined or the rules allow the pair.
abbrev pub ruled : ℕ → (ℕ → ℕ) → (ℕ → ℕ → Bool) → (ℕ → ℕ → ℕ → ℕ → Bool) → Meaning
ruled lines count joined allowed = record {
  lines = lines;
  count = count;
  joined = joined;
  together = λ i a j b. not (i == j) && (nat_lt a (count i) && (nat_lt b (count j) && (not (joined i j) || allowed i a j b)));
}

-- The lines of m that v lists, line k being the one at place k of v, where the test f says which of them
-- are joined. A listed line that m lacks has one option.
abbrev pub view_count : Meaning → List ℕ → ℕ → ℕ
view_count m v k = cond (nat_lt k (length v)) (max 1 (m.count (slice_index v k))) 0

abbrev pub shown_by : Meaning → List ℕ → (ℕ → ℕ → Bool) → Meaning
shown_by m v f = ruled (length v) (view_count m v) f (λ k a j b. m.together (slice_index v k) a (slice_index v j) b)

-- the view: listed lines are joined as in m, and one that m lacks is joined with none
abbrev pub view_joined : Meaning → List ℕ → ℕ → ℕ → Bool
view_joined m v k j = nat_lt k (length v) && (nat_lt j (length v) && m.joined (slice_index v k) (slice_index v j))

abbrev pub view_meaning : Meaning → List ℕ → Meaning
view_meaning m v = shown_by m v (view_joined m v)

-- v lists the numbers that pass the test, in rising order
pub record Lists (test : ℕ → Bool) (v : List ℕ) : Type 0 where
  pub real : (p : ℕ) → p < length v → test (slice_index v p) ≡ true
  pub all : (k : ℕ) → test k ≡ true → (p : ℕ) × (p < length v) × (slice_index v p ≡ k)
  pub rising : (p q : ℕ) → p < q → q < length v → slice_index v p < slice_index v q
