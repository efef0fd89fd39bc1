-- A quotient is rounded down: it is k where the number lies from k times the divisor on, and below that
-- plus the divisor.
use Rattle.std.proofs.Common.{◌≡◌, ℕ, suc, ◌+◌, ◌-◌, ◌*◌, ◌/◌, ◌<◌, ◌≤◌, true, false, ◌&&◌, ltb, leb, ℤ, pos, negsuc, ◌+ℤ◌, ◌*ℤ◌, refl, suc-mul, arith}
use lib.Signed.{le_z, lt_z}
use Rattle.std.proofs.lemmas.Nat.{div-add-mod', mod_below, mul-le}
use Rattle.std.proofs.lemmas.Bool.{both_ways, leb-true}
use Rattle.std.proofs.lemmas.Bool.Decides.{nat_tests}
use Rattle.std.specs.Int.{int_div_euclid}
use Rattle.kinds.specs.Kinds.{same}

module _ (m : ℕ) (some : 0 < m) where
  -- the parts of two numbers lie one after the other
  after : (c q : ℕ) → c < q → c * m + m ≤ q * m
  after c q h = omega (arith, mul-le (suc c) m q m h (omega arith), suc-mul c m)

  up_up : (a c : ℕ) → (leb (a / m) c && leb c (a / m)) ≡ (leb (c * m) a && ltb a (c * m + m))
  up_up a c = grind (arith, nat_tests, div-add-mod' a m, mod_below a m some, after c (a / m), after (a / m) c)

  -- below zero, where n + 1 is the product of c + 1 and m
  down_up : (a c n : ℕ) → c * m + m ≡ suc n → false ≡ (le_z (negsuc n) (pos a) && lt_z (pos a) (negsuc n +ℤ pos m))
  down_up a c n e = grind (arith, nat_tests)

  down_down : (a c n : ℕ) → c * m + m ≡ suc n → (leb c (a / m) && leb (a / m) c) ≡ (le_z (negsuc n) (negsuc a) && lt_z (negsuc a) (negsuc n +ℤ pos m))
  down_down a c n e = grind (arith, nat_tests, e, div-add-mod' a m, mod_below a m some, after c (a / m), after (a / m) c)

  product : (c : ℕ) → suc c * m ≡ suc (c * m + m - 1)
  product c = omega (arith, suc-mul c m)

  pub step_at : (d k : ℤ) → same (int_div_euclid d (pos m)) k ≡ (le_z (k *ℤ pos m) d && lt_z d ((k *ℤ pos m) +ℤ pos m))
  step_at (pos a) (pos c) = up_up a c
  step_at (pos a) (negsuc c) = rw (product c) (down_up a c (c * m + m - 1) (omega arith))
  step_at (negsuc a) (pos c) = refl
  step_at (negsuc a) (negsuc c) = rw (product c) (down_down a c (c * m + m - 1) (omega arith))

-- the same at a divisor of which it is known that it is 1 or more
pub step_of : (m d k : ℤ) → le_z (pos 1) m ≡ true → same (int_div_euclid d m) k ≡ (le_z (pos 1) m && (le_z (k *ℤ m) d && lt_z d ((k *ℤ m) +ℤ m)))
step_of (pos m) d k some = rw some (step_at m (leb-true 1 m some) d k)
step_of (negsuc m) d k some = absurd (both_ways false refl some)
