-- What a rule says of two values, over integers that never wrap.
use Rattle.std.specs.Prelude.{ℕ, Bool, cond, ◌&&◌, ◌||◌, ℤ, pos, negsuc, ◌+ℤ◌, ◌-ℤ◌, ◌*ℤ◌, Some, None, Option, Result, List, ◌++◌, ◌==◌, codes, decimal, int_le, int_lt, ok_or, unsigned_abs}
use Rattle.kinds.specs.declared.kind.Kind.{Kind}
use Rattle.kinds.specs.declared.kind.NoSuchKind.{NoSuchKind}
use Rattle.kinds.specs.declared.kind.Kind.TheVariants.{Apart, Exact, After, Either, Step}

-- the kind of each number
abbrev pub kind_of : ℕ → Option Kind
kind_of n =
    cond (n == 1) (Some Apart)
    (cond (n == 2) (Some Exact)
    (cond (n == 3) (Some After)
    (cond (n == 4) (Some Either)
    (cond (n == 5) (Some Step) None))))

-- the number of each kind
abbrev pub number_of : Kind → ℕ
number_of Apart = 1
number_of Exact = 2
number_of After = 3
number_of Either = 4
number_of Step = 5

-- the kind of a number, or the number where it has none
abbrev pub kind_or_number : ℕ → Result Kind NoSuchKind
kind_or_number n = ok_or (kind_of n) (record { 0 = n })

-- what is printed of a number that no kind has
abbrev pub no_kind_text : ℕ → List ℕ
no_kind_text n = codes "no kind of rule has the number " ++ decimal n

abbrev pub same : ℤ → ℤ → Bool
same x y = int_le x y && int_le y x

-- |x - y| > k
abbrev pub apart : ℤ → ℤ → ℤ → Bool
apart k x y = int_lt k (pos (unsigned_abs (x -ℤ y)))

-- |x - y| = k
abbrev pub exact : ℤ → ℤ → ℤ → Bool
exact k x y = same (pos (unsigned_abs (x -ℤ y))) k

-- x + k ≤ y
abbrev pub after : ℤ → ℤ → ℤ → Bool
after k x y = int_le (x +ℤ k) y

-- (x - y) ÷ m, rounded down towards minus infinity, is k: x - y lies from k steps of m on, and below one
-- step more
abbrev pub step : ℤ → ℤ → ℤ → ℤ → Bool
step k m x y = int_le (pos 1) m && (int_le (k *ℤ m) (x -ℤ y) && int_lt (x -ℤ y) ((k *ℤ m) +ℤ m))

-- a rule of the kind allows x on its first line with y on its second
abbrev pub allowed_by : Kind → ℤ → ℤ → ℤ → ℤ → Bool
allowed_by Apart k m x y = apart k x y
allowed_by Exact k m x y = exact k x y
allowed_by After k m x y = after k x y
allowed_by Either k m x y = after k x y || after m y x
allowed_by Step k m x y = step k m x y

-- low ≤ z ≤ high
abbrev pub low_to_high : ℤ → ℤ → ℤ → Bool
low_to_high low high z = int_le low z && int_le z high

-- -2,000,000 ≤ z ≤ 2,000,000
abbrev pub wide : ℤ → Bool
wide z = low_to_high (negsuc 1999999) (pos 2000000) z

-- k and m lie in the ranges of the kind
abbrev pub in_range : Kind → ℤ → ℤ → Bool
in_range Apart k m = low_to_high (pos 0) (pos 2000000) k
in_range Exact k m = low_to_high (pos 0) (pos 2000000) k
in_range After k m = wide k
in_range Either k m = wide k && wide m
in_range Step k m = wide k && low_to_high (pos 1) (pos 1000) m
