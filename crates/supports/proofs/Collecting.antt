-- What `collect` makes of a `map` over the numbers below a bound, told by places.
use Rattle.std.proofs.Common.{◌≡◌, ℕ, ◌<◌, List, length, map, get_or, Vec, vec_items, Result, IfOk, sym, ap, ◌∙◌, arith}
use denote.Param.Members.{Mut}
use Rattle.std.specs.declared.ops.Range.{Range}
use Rattle.std.specs.declared.iter.Map.{Map}
use Rattle.std.specs.Fn.{Called}
use Rattle.std.specs.Iterator.Adapters.{map_source, map_callee}
use Rattle.std.specs.List.{range_with_len}
use Rattle.std.proofs.iter.Yields.{nat_range_steps}
use Rattle.std.proofs.lemmas.Iterator.{IsCollectResult, maps, YieldsList-from_range, YieldsList-from_map_by}
use Rattle.std.proofs.lemmas.Iterator.Consumers.{map_from_collect}
use Rattle.std.proofs.lemmas.List.{length-map, get_or-map}
use Rattle.std.proofs.lemmas.List.FromFn.{length-map-range_with_len, get_or-map-range_with_len}
use Rattle.std.proofs.lemmas.Result.{IfOk-weaker}

-- what w tells at b of the item at p, where w takes the items to those of h below n
told_at : {A B C : Type 0} (w : A → B → C) (h : ℕ → B → C) (n : ℕ) (xs : List A) (d : A)
    → map w xs ≡ map h (range_with_len 0 n) → (p : ℕ) (b : B) → p < n → w (get_or xs p d) b ≡ h p b
told_at w h n xs d e p b l =
    let long : length xs ≡ n = sym (length-map xs w) ∙ ap length e ∙ length-map-range_with_len h 0 n in
    let o = w d in
    let at : w (get_or xs p d) ≡ h p = sym (get_or-map w xs p d o (omega (arith, long))) ∙ ap (λ ys. get_or ys p o) e ∙ get_or-map-range_with_len h 0 n p p o l (omega arith) in
    ap (λ f. f b) at

-- each call, at x, leaves the closure as it was, and of what it gives w tells what h x is
pub collected_at : {F A B C Z E : Type 0} {g : Mut F (ℕ × Unit {0}) A} {s : Map (Range ℕ) F} {f : F} (r : Result (Vec A Z) E)
    (w : A → B → C) (h : ℕ → B → C) (n : ℕ) (d : A)
    → IsCollectResult (maps nat_range_steps g) s r → map_source s ≡ record { start = 0; end = n } → map_callee s ≡ f
    → ((x : ℕ) (y : A) (q : F) → Called g f (x, tt) y q → (q ≡ f) × (w y ≡ h x))
    → IfOk r (λ v. (p : ℕ) (b : B) → p < n → w (get_or (vec_items v) p d) b ≡ h p b)
collected_at {g = g} r w h n d ran source callee call =
    IfOk-weaker r _ _ (λ v. told_at w h n (vec_items v) d)
    (map_from_collect r ran (YieldsList-from_map_by g w h (YieldsList-from_range 0 n n source (omega arith)) callee call))
