-- What the largest good subset at arc, in a view of the looked-at lines alone, tells of neighbourhood
-- passing.
use Rattle.std.proofs.Common.{◌≡◌, ℕ, ◌<◌, Bool, true, false, ◌&&◌, eqb, List, map, length, get_or, Decides, MatchBool, sym, refl, ap, ◌∙◌, subst, subst₂, inr, ⊎_elim, arith}
use native.Mathlib.Nat.{max-eq_right}
use Rattle.std.specs.List.{range_with_len}
use Rattle.std.proofs.lemmas.List.FromFn.{get_or-map-range_with_len}
use Rattle.std.proofs.lemmas.Bool.{eqb-true, lt-ltb, or_cases, true≢false}
use Rattle.bits.specs.Bits.{on}
use Rattle.model.specs.Meaning.{Meaning, Lawful}
use Rattle.model.specs.Sets.{In, Sub, Empty, Full, Largest}
use Rattle.model.specs.Passing.{Supported, ArcPasses, near, NearPasses, stays}
use Rattle.model.specs.Views.{view_count, view_joined, view_meaning, Lists}
use Rattle.model.proofs.Holding.{stays_down, stays_up}
use Rattle.model.proofs.Nears.{near_self}
use Rattle.model.proofs.Views.{shown_count, shown_together, view_parts, view_two}

-- a number by a test: what f says where it passes
given : (t : Bool) → (t ≡ true → ℕ) → ℕ
given true f = f refl
given false f = 0

given_is : (Q : ℕ → Type 0) (t : Bool) (f : t ≡ true → ℕ) → ((e : t ≡ true) → Q (f e)) → t ≡ true → Q (given t f)
unfolding given
given_is Q true f h e = h refl
given_is Q false f h e = absurd (true≢false (sym e))

-- v lists line i and its joined lines, and h has their words in s, line i held to option a
module _ (m : Meaning) (law : Lawful m) (s v h : List ℕ) (i a : ℕ) (here : In m s i a) (listed : Lists (near m i) v)
    (is : (p b : ℕ) → p < length v → on (get_or h p 0) b ≡ (on (get_or s (get_or v p 0) 0) b && stays i a (get_or v p 0) b)) where
  abbrev seen : Meaning
  seen = view_meaning m v

  together : (p b q c : ℕ) → view_joined m v p q ≡ true → seen.together p b q c ≡ m.together (get_or v p 0) b (get_or v q 0) c
  together = shown_together m law v (view_joined m v) (view_two m law v)

  -- a listed line exists
  line : (p : ℕ) → p < length v → get_or v p 0 < m.lines
  line p l = ⊎_elim
      (λ e. subst (λ n. n < m.lines) (sym (eqb-true (get_or v p 0) i e)) here.0)
      (λ e. (law.proper.joined i (get_or v p 0) e).1)
      (or_cases (eqb (get_or v p 0) i) (m.joined i (get_or v p 0)) (listed.real p l))

  count_at : (p : ℕ) → p < length v → view_count m v p ≡ m.count (get_or v p 0)
  count_at p l = shown_count m law v p l ∙ max-eq_right (law.limits.some_option (get_or v p 0) (line p l))

  -- an option in the view and the same option of the line that is shown
  to_view : (t u : List ℕ) (p k b : ℕ) → p < length v → get_or v p 0 ≡ k → get_or u p 0 ≡ get_or t k 0 → In m t k b → In seen u p b
  to_view t u p k b l e w q = (l, subst (λ n. b < n) (sym (count_at p l ∙ ap m.count e)) q.1, ap (λ n. on n b) w ∙ q.2)

  from_view : (t u : List ℕ) (p k b : ℕ) → get_or v p 0 ≡ k → get_or u p 0 ≡ get_or t k 0 → In seen u p b → In m t k b
  from_view t u p k b e w q =
      (subst (λ n. n < m.lines) e (line p q.0), subst (λ n. b < n) (count_at p q.0 ∙ ap m.count e) q.1, ap (λ n. on n b) (sym w) ∙ q.2)

  held_down : (p k b : ℕ) → get_or v p 0 ≡ k → In seen h p b → In m s k b × (k ≡ i → b ≡ a)
  held_down p k b e q = subst (λ n. In m s n b × (n ≡ i → b ≡ a)) e (
    (line p q.0, subst (λ n. b < n) (count_at p q.0) q.1, bits.0),
    bits.1,
  )
    where
      bits : (on (get_or s (get_or v p 0) 0) b ≡ true) × (get_or v p 0 ≡ i → b ≡ a)
      bits = stays_down (get_or h p 0) (get_or s (get_or v p 0) 0) i a (get_or v p 0) b (is p b q.0) q.2

  -- from a good subset in the view
  module _ (r : List ℕ) (full : Full seen (ArcPasses seen) r) (sub : Sub seen r h) where
    -- the place of a looked-at line
    place : ℕ → ℕ
    place k = given (near m i k) (λ e. (listed.all k e).0)

    placed : (k : ℕ) → near m i k ≡ true → (place k < length v) × (get_or v (place k) 0 ≡ k)
    unfolding place
    placed k = given_is (λ p. (p < length v) × (get_or v p 0 ≡ k)) (near m i k) (λ e. (listed.all k e).0) (λ e. let w = listed.all k e in (w.1, w.2))

    part : List ℕ
    part = map (λ k. get_or r (place k) 0) (range_with_len 0 m.lines)

    word : (k : ℕ) → k < m.lines → get_or r (place k) 0 ≡ get_or part k 0
    unfolding part
    word k l = sym (get_or-map-range_with_len (λ k. get_or r (place k) 0) 0 m.lines k k 0 l (omega arith))

    into : (k b : ℕ) → near m i k ≡ true → In m part k b → In seen r (place k) b
    into k b n q = let z = placed k n in to_view part r (place k) k b z.0 z.1 (word k q.0) q

    out : (k b : ℕ) → k < m.lines → near m i k ≡ true → In seen r (place k) b → In m part k b
    out k b l n q = from_view part r (place k) k b (placed k n).1 (word k l) q

    down : (k b : ℕ) → near m i k ≡ true → In m part k b → In m s k b × (k ≡ i → b ≡ a)
    down k b n q = held_down (place k) k b (placed k n).1 (sub.all (place k) b (into k b n q))

    supported : (k b j : ℕ) → near m i k ≡ true → near m i j ≡ true → In m part k b → m.joined k j ≡ true → Supported m part k b j
    supported k b j nk nj q e =
        let x = placed k nk in
        let y = placed j nj in
        let same : m.joined (get_or v (place k) 0) (get_or v (place j) 0) ≡ true = rw (x.1, y.1) e in
        let joins : view_joined m v (place k) (place j) ≡ true = rw (lt-ltb (place k) (length v) x.0, lt-ltb (place j) (length v) y.0) same in
        let w = (full.pass (place k) b (into k b nk q)).all (place j) joins in
        let goes : m.together (get_or v (place k) 0) b (get_or v (place j) 0) w.0 ≡ true = sym (together (place k) b (place j) w.0 joins) ∙ w.2 in
        (w.0, out j w.0 (law.proper.joined k j e).1 nj w.1, subst₂ (λ x y. m.together x b y w.0 ≡ true) x.1 y.1 goes)

    passes_by : NearPasses m s i a
    passes_by = record {
      here = here;
      part = part;
      held = λ b q. (down i b (near_self m i) q).1 refl;
      sub = λ k b n q. (down k b n q).0;
      some = λ k l n. let w = full.some (place k) (placed k n).0 in (w.0, out k w.0 l n w.1);
      pass = supported;
    }

  -- from neighbourhood passing
  module _ (p : NearPasses m s i a) where
    shown : List ℕ
    shown = map (λ q. get_or p.part (get_or v q 0) 0) (range_with_len 0 (length v))

    shown_word : (q : ℕ) → q < length v → get_or shown q 0 ≡ get_or p.part (get_or v q 0) 0
    unfolding shown
    shown_word q l = get_or-map-range_with_len (λ q. get_or p.part (get_or v q 0) 0) 0 (length v) q q 0 l (omega arith)

    in_shown : (q b : ℕ) → q < length v → In m p.part (get_or v q 0) b → In seen shown q b
    in_shown q b l x = to_view p.part shown q (get_or v q 0) b l refl (shown_word q l) x

    of_shown : (q b : ℕ) → In seen shown q b → In m p.part (get_or v q 0) b
    of_shown q b x = from_view p.part shown q (get_or v q 0) b refl (shown_word q x.0) x

    shown_full : Full seen (ArcPasses seen) shown
    shown_full = record {
      some = λ q l. let w = p.some (get_or v q 0) (line q l) (listed.real q l) in (w.0, in_shown q w.0 l w.1);
      pass = λ q b x. record {
        here = x;
        all = λ j e.
            let z = view_parts m law v q j e in
            let w = p.pass (get_or v q 0) b (get_or v j 0) (listed.real q z.0) (listed.real j z.1) (of_shown q b x) z.2 in
            (w.0, in_shown j w.0 z.1 w.1, together q b j w.0 e ∙ w.2);
      };
    }

    shown_sub : Sub seen shown h
    shown_sub = record {
      all = λ q b x.
          let k = get_or v q 0 in
          let y = of_shown q b x in
          (x.0, x.1, stays_up (get_or h q 0) (get_or s k 0) i a k b (is q b x.0) (p.sub k b (listed.real q x.0) y).2 (λ e. p.held b (subst (λ n. In m p.part n b) e y)));
    }

  -- what a run at arc tells, which left r
  pub near_run : (r : List ℕ) → Largest seen (ArcPasses seen) h r → (b : Bool) → MatchBool b (Full seen (ArcPasses seen) r) (Empty seen r) → Decides b (NearPasses m s i a)
  near_run r big true full = ((λ _. passes_by r full big.sub), λ _. refl)
  near_run r big false none = (
    (λ e. absurd (true≢false (sym e))),
    λ p.
        let w = listed.all i (near_self m i) in
        let x = (shown_full p).some w.0 w.1 in
        absurd (none w.0 x.0 ((big.holds (shown p) (inr (shown_full p)) (shown_sub p)).all w.0 x.0 x.1)),
  )
