-- Tests that may change places, or be left out.
use Rattle.std.proofs.Common.{◌≡◌, ℕ, Bool, true, false, ◌&&◌, eqb, sym, refl, ◌∙◌, ⊎_elim}
use Rattle.std.proofs.Math.Bool.{and-false}
use Rattle.std.proofs.lemmas.Bool.{eq-eqb, ne_eqb, cases_eq}

pub and_swap : (x y z : Bool) → (x && (y && z)) ≡ (y && (x && z))
and_swap true y z = refl
and_swap false y z = sym (and-false y)

pub eqb_sym : (i j : ℕ) → eqb i j ≡ eqb j i
eqb_sym i j = ⊎_elim (λ e. eq-eqb i j e ∙ sym (eq-eqb j i (sym e))) (λ ne. ne_eqb i j ne ∙ sym (ne_eqb j i (λ e. ne (sym e)))) (cases_eq i j)

-- what follows a test matters only where it passes
pub guarded : (t x y : Bool) → (t ≡ true → x ≡ y) → (t && x) ≡ (t && y)
guarded false x y h = refl
guarded true x y h = h refl

-- a test that is implied can be left out
pub implied : (t x : Bool) → (x ≡ true → t ≡ true) → (t && x) ≡ x
implied true x h = refl
implied false true h = h refl
implied false false h = refl
