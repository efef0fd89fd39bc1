use Rattle.std.proofs.Common.{◌&&◌, ltb, leb, refl, ◌∙◌, rules, tests}
use Rattle.std.specs.List.{list_all}
use Rattle.std.proofs.lemmas.Iterator.{YieldsList-from_slice}
use Rattle.std.proofs.lemmas.Iterator.Search.{all_from_yields_List}
use Rattle.std.proofs.lemmas.List.Recursion.{same_from_clauses}
use Rattle.model.specs.Making.{counts_ok}
use Rattle.supports.proofs.making.counts_fit.Goals as goal

pub returns : goal.returns
returns c =
    let cs = c.args.counts.now in
    all_from_yields_List (λ x. ltb 0 x && leb x 64) _ _ c.all.result c.all.ensures.ran (YieldsList-from_slice cs cc) (λ x b q k. search (rules, tests))
    ∙ same_from_clauses (list_all (λ x. ltb 0 x && leb x 64)) counts_ok (λ x b. (ltb 0 x && leb x 64) && b) refl (λ _ _. refl) (λ _ _. refl) cs
