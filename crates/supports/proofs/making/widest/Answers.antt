use Rattle.std.proofs.Common.{◌≡◌, sym, ap, ◌∙◌, subst, ◌≤◌, get_or}
use Rattle.std.specs.Option.{unwrap_or}
use Rattle.std.proofs.lemmas.Iterator.{YieldsList-from_slice}
use Rattle.std.proofs.lemmas.Iterator.Consumers.{YieldsList-from_copied, max_from_yields_List}
use Rattle.std.proofs.lemmas.Iterator.Adapters.{option_map_id}
use Rattle.supports.proofs.Largest.{largest, most_is, covers, small}
use Rattle.supports.proofs.making.widest.Goals as goal

pub returns : goal.returns
returns c =
    let cs = c.args.counts.now in
    let most : c.unwrap_or.result ≡ largest cs =
    c.unwrap_or.ensures ∙ ap (λ o. unwrap_or o 0) (sym (option_map_id _) ∙ max_from_yields_List _ _ c.max.ensures.ran (YieldsList-from_copied (YieldsList-from_slice cs cc))) ∙ most_is cs in
    record { covers = λ i. subst (λ n. get_or cs i 0 ≤ n) (sym most) (covers cs i); small = subst (λ n. n ≤ 64) (sym most) (small cs c.requires) }
