-- The laws of arc passing.
use Rattle.std.proofs.Common.{◌≡◌, ℕ, ◌<◌, false, List, sym, ◌∙◌, subst}
use Rattle.std.proofs.lemmas.Bool.{both_ways}
use Rattle.model.specs.Meaning.{Meaning, Mirrored, Proper}
use Rattle.model.specs.Sets.{In, Sub, Plan, Holds, Less}
use Rattle.model.specs.Passing.{ArcPasses}

module _ (m : Meaning) where
  pub arc_monotone : (s t : List ℕ) (i a : ℕ) → Sub m s t → ArcPasses m s i a → ArcPasses m t i a
  arc_monotone s t i a le h = record {
    here = le.all i a h.here;
    all = λ j e. let w = h.all j e in (w.0, le.all j w.0 w.1, w.2);
  }

  pub arc_plan : Proper m → (s : List ℕ) (p : ℕ → ℕ) → Plan m p → Holds m s p → (i : ℕ) → i < m.lines → ArcPasses m s i (p i)
  arc_plan proper s p plan holds i li = record {
    here = holds i li;
    all = λ j e. let w = proper.joined i j e in (p j, holds j w.1, plan.agree i j li w.1 w.2);
  }

  pub arc_touch : Mirrored m → (s t : List ℕ) (i j a : ℕ) → Less m i s t → ArcPasses m s j a → In m t j a → m.joined i j ≡ false → ArcPasses m t j a
  arc_touch mirrored s t i j a less h here off = record {
    here = here;
    all = λ k e.
        let w = h.all k e in
        let no : m.joined j i ≡ false = mirrored.joined j i ∙ off in
        (w.0, less.rest k w.0 (λ ki. both_ways (m.joined j k) (subst (λ n. m.joined j n ≡ false) (sym ki) no) e) w.1, w.2);
  }
