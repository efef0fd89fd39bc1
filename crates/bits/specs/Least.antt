-- The least number at or above another that passes a test.
use Rattle.std.specs.Prelude.{◌≡◌, ℕ, ◌<◌, ◌≤◌, Bool, true, false, Some, None, Option}

-- r is the least number, at or above from, that passes, or none where none does
abbrev pub Least : (ℕ → Bool) → ℕ → Option ℕ → Type 0
Least passes from None = (n : ℕ) → from ≤ n → passes n ≡ false
Least passes from (Some k) = (from ≤ k) × (passes k ≡ true) × ((n : ℕ) → from ≤ n → n < k → passes n ≡ false)
