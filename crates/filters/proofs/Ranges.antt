-- Calls of a closure at the numbers below a bound.
use Rattle.std.proofs.Common.{◌≡◌, ℕ, zero, suc, ◌+◌, ◌<◌, ◌≤◌, Bool, true, false, List, length, MatchBool, sym, subst, ⊎_elim, zero-add, arith}
use Rattle.std.specs.Prelude.{slice_index_or}
use Rattle.std.specs.Array.{IsFromFnResultFrom}
use Rattle.std.proofs.lemmas.Bool.{cases_eq}
use denote.Param.Members.{Mut}
use Rattle.std.specs.declared.ops.Range.{Range}
use Rattle.std.specs.Fn.{Called}
use Rattle.std.specs.Iterator.{ChecksAny}
use Rattle.std.specs.List.{AllWithin, HoldsAt, range_with_len}
use Rattle.std.proofs.iter.Yields.{nat_range_steps}
use Rattle.std.proofs.lemmas.Iterator.{cases_from_any, YieldsList-from_range}
use Rattle.std.proofs.lemmas.List.FromFn.{get_or-range_with_len, length-range_with_len}

numbers : (n : ℕ) (r : Bool) (Yes No : ℕ → Type 0)
    → MatchBool r ((k : ℕ) × (k < length (range_with_len 0 n)) × HoldsAt Yes (range_with_len 0 n) k) (AllWithin No (range_with_len 0 n) 0 (length (range_with_len 0 n)))
    → MatchBool r ((k : ℕ) × (k < n) × Yes k) ((k : ℕ) → k < n → No k)
numbers n true Yes No h =
    let l : h.0 < n = omega (arith, h.1, length-range_with_len 0 n) in
    (h.0, l, subst Yes (simp zero-add at (get_or-range_with_len 0 n h.0 0 l)) (h.2 0))
numbers n false Yes No h = λ k l.
    subst No (simp zero-add at (get_or-range_with_len 0 n k 0 l)) (h k 0 (omega arith) (omega (arith, length-range_with_len 0 n)))

-- `any` over the numbers below n
pub any_below : {F : Type 0} {g : Mut F (ℕ × Unit {0}) Bool} {s : Range ℕ} (n : ℕ) (u : Range ℕ) (f : F) (r : Bool) (Yes No : ℕ → Type 0)
    → ChecksAny nat_range_steps g s f r u → s ≡ record { start = 0; end = n }
    → ((x : ℕ) (q : F) → Called g f (x, tt) true q → Yes x) → ((x : ℕ) (q : F) → Called g f (x, tt) false q → (q ≡ f) × No x)
    → MatchBool r ((k : ℕ) × (k < n) × Yes k) ((k : ℕ) → k < n → No k)
any_below n u f r Yes No ran e hit miss =
    numbers n r Yes No (cases_from_any u f r Yes No ran (YieldsList-from_range 0 n n e (omega arith)) hit miss)

-- what `from_fn` made: each call, at k, leaves the closure as it was and gives what P says of k
pub made_each : {F B : Type 0} {g : Mut F (ℕ × Unit {0}) B} (P : ℕ → B → Type 0) (f : F) (ys : List B) (d : B) (n : ℕ)
    → ((k : ℕ) (y : B) (q : F) → Called g f (k, tt) y q → (q ≡ f) × P k y)
    → (i : ℕ) → IsFromFnResultFrom g f ys i n → (k : ℕ) → i ≤ k → k < i + n → P k (slice_index_or ys k d)
made_each P f ys d zero call i made k from to = absurd (omega arith)
made_each {g = g} P f ys d (suc n) call i made k from to = ⊎_elim
    (λ (e : k ≡ i). subst (λ j. P j (slice_index_or ys j d)) (sym e) (subst (P i) (sym (made.2.1 d)) (call i made.1 made.0 made.3).1))
    (λ ne. made_each P f ys d n call (i + 1) (subst (λ q. IsFromFnResultFrom g q ys (i + 1) n) (call i made.1 made.0 made.3).0 made.4) k (omega arith) (omega arith))
    (cases_eq k i)
