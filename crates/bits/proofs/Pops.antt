-- The bits of a word taken out one after the other.
use Rattle.std.proofs.Common.{◌≡◌, ℕ, Bool, true, false, not, ◌&&◌, eqb, sym, refl, ap, ◌∙◌, subst, ⊎_elim}
use Rattle.std.proofs.lemmas.Bool.{and_parts, cases_eq, ne_eqb}
use Rattle.bits.specs.Bits.{on, cleared}
use Rattle.bits.proofs.Bits.{on_cleared}

-- of the numbers that pass the test f, only those whose bits are left in w may lack P
abbrev pub Rest : (ℕ → Bool) → (ℕ → Type 0) → ℕ → Type 0
Rest f P w = ((k : ℕ) → on w k ≡ true → f k ≡ true) × ((k : ℕ) → f k ≡ true → on w k ≡ false → P k)

-- b is taken out
pub rest_pop : (f : ℕ → Bool) (P : ℕ → Type 0) (w v b : ℕ) → v ≡ cleared w b → P b → Rest f P w → Rest f P v
rest_pop f P w v b e has rest = (left, gone)
  where
    bits : (k : ℕ) → on v k ≡ (on w k && not (eqb k b))
    bits k = ap (λ x. on x k) e ∙ on_cleared w b k

    left : (k : ℕ) → on v k ≡ true → f k ≡ true
    left k h = rest.0 k (and_parts (on w k) (not (eqb k b)) (sym (bits k) ∙ h)).0

    gone : (k : ℕ) → f k ≡ true → on v k ≡ false → P k
    gone k h off = ⊎_elim (λ (kb : k ≡ b). subst P (sym kb) has)
        (λ ne. rest.1 k h (keep (on w k) ∙ ap (λ t. on w k && not t) (sym (ne_eqb k b ne)) ∙ sym (bits k) ∙ off)) (cases_eq k b)
      where
        keep : (x : Bool) → x ≡ (x && true)
        keep true = refl
        keep false = refl
