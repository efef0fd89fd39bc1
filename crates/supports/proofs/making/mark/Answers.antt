use Rattle.std.proofs.Common.{◌≡◌, ltb, get_or, set, ap, sym, ◌∙◌}
use Rattle.std.proofs.lemmas.Bool.{cond-true, lt-ltb}
use Rattle.std.proofs.lemmas.List.{get_or_read_under, map-set}
use Rattle.std.proofs.Math.Seq.{map-set_same}
use Rattle.bits.specs.Bits.{marked}
use Rattle.supports.specs.Lines.{joins_of, no_line}
use Rattle.supports.proofs.Lines.{joins_are}
use Rattle.supports.proofs.making.mark.Goals as goal

pub returns : goal.returns
returns c =
    let ls = c.args.lines.now.items in
    let at = c.args.at in
    let line = c.index_mut-line.result.now in
    let is : line ≡ get_or ls at no_line = get_or_read_under ls at _ line no_line c.index_mut-line.ensures.value c.requires.inside c.args.lines.now.ok.0 in
    let word : c.with-line.result ≡ marked (get_or (joins_of ls) at 0) c.args.b =
    c.with-line.ensures ∙ cond-true (ltb c.args.b 128) _ _ (lt-ltb c.args.b 128 c.requires.low)
    ∙ ap (λ x. marked x c.args.b) (ap (λ l. l.joins) is ∙ sym (joins_are ls at)) in
    record {
      joins = map-set (λ l. l.joins) ls at _ ∙ ap (λ x. set (joins_of ls) at x) word;
      counts = map-set_same (λ l. l.count) ls at _ no_line (ap (λ l. l.count) is);
    }
