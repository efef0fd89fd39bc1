use Rattle.std.proofs.Common.{◌≡◌, ℕ, ◌*◌, ◌≤◌, true, ◌&&◌, ltb, leb, List, length, get_or, replicate, vec_items, sym, ◌∙◌, subst}
use Rattle.std.proofs.lemmas.Bool.{and_parts, ltb-true, leb-true}
use Rattle.model.specs.Making.{counts_ok, no_rules}
use Rattle.model.specs.Words.{Unruled}
use Rattle.model.proofs.Steps.{Made, none_made}
use Rattle.supports.specs.Adding.{fit}
use Rattle.supports.specs.Lines.{counts_of, joins_of}
use Rattle.supports.proofs.supports.Supports.open.Goals as goal

opened : (cs given : List ℕ) (width : ℕ) (joins words : List ℕ) → fit given ≡ true → cs ≡ given → ((i : ℕ) → get_or given i 0 ≤ width) → width ≤ 64
    → joins ≡ replicate (length given) 0 → length words ≡ length given * width * length given → Unruled given width words → Made cs width joins words (no_rules given)
opened cs given width joins words ok e le small ej len ew =
    let p = and_parts (ltb 0 (length given)) (leb (length given) 128 && counts_ok given) ok in
    let q = and_parts (leb (length given) 128) (counts_ok given) p.1 in
    subst (λ xs. Made xs width joins words (no_rules given)) (sym e)
    (none_made given width joins words (ltb-true 0 (length given) p.0) (leb-true (length given) 128 q.0) q.1 le small ej len ew)

pub invariant_of-result : goal.invariant_of-result
invariant_of-result c = record {
  good = ∣ (opened (counts_of (vec_items c.in_ok-lines.lines)) c.args.counts.now c.widest-width.result (joins_of (vec_items c.in_ok-lines.lines)) (vec_items c.in_ok-words.words)
      c.requires c.in_ok-lines.ensures.counts c.widest-width.ensures.covers c.widest-width.ensures.small
      c.in_ok-lines.ensures.joins (sym c.in_ok-words.words.ok.0 ∙ c.in_ok-words.ensures.sized) c.in_ok-words.ensures.words).compiled ∣₁;
}

pub returns : goal.returns
returns c = (opened (counts_of (vec_items c.in_ok-lines.lines)) c.args.counts.now c.widest-width.result (joins_of (vec_items c.in_ok-lines.lines)) (vec_items c.in_ok-words.words)
    c.requires c.in_ok-lines.ensures.counts c.widest-width.ensures.covers c.widest-width.ensures.small
    c.in_ok-lines.ensures.joins (sym c.in_ok-words.words.ok.0 ∙ c.in_ok-words.ensures.sized) c.in_ok-words.ensures.words).means
