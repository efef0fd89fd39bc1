-- The largest of several numbers.
use Rattle.std.proofs.Common.{◌≡◌, ℕ, ◌≤◌, true, List, [], ◌∷◌, length, get_or, fold, max, refl, ◌∙◌, ⊎_elim, arith}
use Rattle.std.specs.List.{reduce}
use Rattle.std.specs.Option.{unwrap_or}
use Rattle.std.proofs.lemmas.Bool.{cases_lt}
use Rattle.std.proofs.lemmas.List.{get_or_past}
use Rattle.std.proofs.lemmas.List.Recursion.{max_bounds, max_least}
use Rattle.model.specs.Making.{counts_ok}
use Rattle.model.proofs.Pairs.{count_at}

abbrev pub largest : List ℕ → ℕ
largest [] = 0
largest (x ∷ xs) = max x (largest xs)

folded : (x : ℕ) (xs : List ℕ) → fold max x xs ≡ max x (largest xs)
folded x [] = omega arith
folded x (y ∷ ys) = folded (max x y) ys ∙ omega arith

pub most_is : (xs : List ℕ) → unwrap_or (reduce max xs) 0 ≡ largest xs
most_is [] = refl
most_is (x ∷ xs) = folded x xs

pub covers : (xs : List ℕ) (i : ℕ) → get_or xs i 0 ≤ largest xs
covers xs i = ⊎_elim (λ h. max_bounds largest (λ x. x) refl (λ _ _. refl) xs i 0 h) (λ past. omega (arith, get_or_past xs i 0 past)) (cases_lt i (length xs))

pub small : (cs : List ℕ) → counts_ok cs ≡ true → largest cs ≤ 64
small cs ok = max_least largest (λ x. x) refl (λ _ _. refl) cs 0 64 (λ i h. (count_at cs ok i h).1)
