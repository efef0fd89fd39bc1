-- A word of the numbers that pass a test, made number by number.
use Rattle.std.proofs.Common.{◌≡◌, ℕ, ◌+◌, Bool, true, false, ◌&&◌, ◌||◌, eqb, ltb, sym, refl, ap, ◌∙◌, subst, ⊎_elim, arith}
use Rattle.std.proofs.lemmas.Bool.{cases_eq, eq-eqb, lt-ltb, ne_eqb}
use Rattle.std.proofs.lemmas.Bool.Decides.{nat_tests}
use Rattle.bits.specs.Bits.{on, marked}
use Rattle.bits.proofs.Bits.{on_marked}
use Rattle.std.proofs.Math.Bool.{or-false, or-true}

-- of the numbers below n those are found that pass
abbrev pub Found : (ℕ → Bool) → ℕ → ℕ → Type 0
Found f w n = (k : ℕ) → on w k ≡ (f k && ltb k n)

module _ (f : ℕ → Bool) (w n : ℕ) (found : Found f w n) where
  -- a number other than n is below n + 1 exactly if it is below n
  other : (k : ℕ) → (k ≡ n → ⊥) → (f k && ltb k n) ≡ (f k && ltb k (n + 1))
  other k ne = let e : ltb k n ≡ ltb k (n + 1) = grind (arith, nat_tests, ne) in ap (λ t. f k && t) e

  -- n passes
  pub found_more : f n ≡ true → Found f (marked w n) (n + 1)
  found_more on_n k = on_marked w n k ∙ ⊎_elim
      (λ (e : k ≡ n). subst (λ x. (on w x || eqb x n) ≡ (f x && ltb x (n + 1))) (sym e) (here (on w n)))
      (λ ne. ap (λ t. on w k || t) (ne_eqb k n ne) ∙ or-false (on w k) ∙ found k ∙ other k ne) (cases_eq k n)
    where
      here : (b : Bool) → (b || eqb n n) ≡ (f n && ltb n (n + 1))
      here b = ap (λ t. b || t) (eq-eqb n n refl) ∙ or-true b ∙ sym (ap (λ t. t && ltb n (n + 1)) on_n ∙ lt-ltb n (n + 1) (omega arith))

  -- n does not pass
  pub found_same : f n ≡ false → Found f w (n + 1)
  found_same off_n k = found k ∙ ⊎_elim
      (λ (e : k ≡ n). subst (λ x. (f x && ltb x n) ≡ (f x && ltb x (n + 1))) (sym e) (ap (λ t. t && ltb n n) off_n ∙ sym (ap (λ t. t && ltb n (n + 1)) off_n)))
      (λ ne. other k ne) (cases_eq k n)
