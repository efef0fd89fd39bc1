-- The first element with a flaw.
use Rattle.std.proofs.Common.{◌≡◌, ℕ, zero, suc, ◌<◌, ◌≤◌, Bool, false, List, [], ◌∷◌, length, get_or, ltb, Some, None, Option, sym, refl, ◌∙◌, subst, ⊎_elim, zero-le, arith}
use Rattle.std.specs.List.{position, position_or_len}
use Rattle.std.proofs.lemmas.Bool.{cases_lt, cond-true, cond-false, lt-ltb, le-ltb}
use Rattle.std.proofs.lemmas.List.Sums.{fails_before_first, passes_at_first}
use Rattle.bits.specs.Least.{Least}
use Rattle.rules.specs.Faults.{flawed_at}

module _ {X : Type 0} (flawed : X → Bool) where
  pub flawed_is : (xs : List X) (p : ℕ) (d : X) → p < length xs → flawed_at flawed xs p ≡ flawed (get_or xs p d)
  flawed_is [] p d h = absurd (omega (arith, h))
  flawed_is (x ∷ xs) zero d h = refl
  flawed_is (x ∷ xs) (suc p) d h = flawed_is xs p d (omega (arith, h))

  pub flawed_past : (xs : List X) (p : ℕ) → length xs ≤ p → flawed_at flawed xs p ≡ false
  flawed_past [] p h = refl
  flawed_past (x ∷ xs) zero h = absurd (omega (arith, h))
  flawed_past (x ∷ xs) (suc p) h = flawed_past xs p (omega (arith, h))

  least_in : (xs : List X) (d : X) → Least (flawed_at flawed xs) 0 (position flawed xs)
  least_in xs d =
      let k = position_or_len flawed xs in
      ⊎_elim
      (λ (h : k < length xs). subst (Least (flawed_at flawed xs) 0) (sym (cond-true (ltb k (length xs)) (Some k) None (lt-ltb k (length xs) h)))
      (zero-le, flawed_is xs k d h ∙ passes_at_first flawed xs d h, λ n _ b. flawed_is xs n d (omega (arith, h, b)) ∙ fails_before_first flawed xs n d b))
      (λ (h : length xs ≤ k). subst (Least (flawed_at flawed xs) 0) (sym (cond-false (ltb k (length xs)) (Some k) None (le-ltb k (length xs) h)))
      (λ n _. ⊎_elim (λ b. flawed_is xs n d b ∙ fails_before_first flawed xs n d (omega (arith, h, b))) (λ past. flawed_past xs n past) (cases_lt n (length xs))))
      (cases_lt k (length xs))

  least_flawed : (xs : List X) → Least (flawed_at flawed xs) 0 (position flawed xs)
  least_flawed [] = λ n _. refl
  least_flawed (x ∷ xs) = least_in (x ∷ xs) x

  -- the place that the search answers
  pub first_flaw : (xs : List X) (r : Option ℕ) → r ≡ position flawed xs → Least (flawed_at flawed xs) 0 r
  first_flaw xs r e = subst (Least (flawed_at flawed xs) 0) (sym e) (least_flawed xs)
