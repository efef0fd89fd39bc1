use Rattle.std.proofs.Common.{◌≡◌, IfOk, map, vec_items, ap, ◌∙◌, rules, tests}
use Rattle.std.proofs.lemmas.Iterator.{YieldsList-from_slice, YieldsList-from_map, items_from_collect}
use Rattle.std.proofs.lemmas.Result.{IfOk-weaker}
use Rattle.supports.specs.Lines.{counts_of, joins_of}
use Rattle.supports.proofs.Lines.{free, free_counts, free_joins}
use Rattle.supports.proofs.making.free_lines.Goals as goal

pub returns : goal.returns
returns c =
    let cs = c.args.counts.now in
    let all : IfOk c.collect.result (λ v. vec_items v ≡ map free cs) =
    items_from_collect _ c.collect.ensures.ran (YieldsList-from_map _ free (YieldsList-from_slice cs cc) c.map.ensures.closure (λ x r q k. search (rules, tests))) in
    record {
      counts = IfOk-weaker c.collect.result (λ v. vec_items v ≡ map free cs) _ (λ v e. ap counts_of e ∙ free_counts cs) all;
      joins = IfOk-weaker c.collect.result (λ v. vec_items v ≡ map free cs) _ (λ v e. ap joins_of e ∙ free_joins cs) all;
    }
