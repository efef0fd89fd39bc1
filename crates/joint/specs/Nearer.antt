-- Numbers that may be missing.
use Rattle.std.specs.Prelude.{ℕ, min, cond, Some, None, Option, nat_lt}

-- the smaller of two
abbrev pub nearer : Option ℕ → Option ℕ → Option ℕ
nearer None y = y
nearer (Some j) None = Some j
nearer (Some j) (Some k) = Some (min j k)

-- the number, if it is there and below the limit
abbrev pub below : Option ℕ → ℕ → Option ℕ
below None limit = None
below (Some j) limit = cond (nat_lt j limit) (Some j) None
