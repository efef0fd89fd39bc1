use Rattle.std.proofs.Common.{◌≡◌, ℕ, ◌<◌, List, length, vec_items, sym, subst, ap, ◌∙◌, arith}
use Rattle.std.proofs.lemmas.List.{length-map}
use Rattle.model.specs.Making.{with_join}
use Rattle.model.specs.Words.{words_meaning, mark_at}
use Rattle.model.proofs.Steps.{Made, join_made}
use Rattle.supports.specs.declared.supports.Supports.{Supports}
use Rattle.supports.specs.Held.{counts, joins, held, supports_meaning}
use Rattle.supports.proofs.Indices.{few_lines, many}
use Rattle.supports.proofs.supports.Supports.join.Goals as goal

pub mark-requires : goal.mark-requires
unfolding words_meaning
mark-requires c =
    let s = c.args.self.now in
    let i_lt : c.args.i < length (counts s) = c.requires.first in
    let j_lt : c.args.j < length (counts s) = c.requires.second in
    record { inside = omega (arith, many s); low = omega (arith, few_lines s) }

pub mark-requires-2 : goal.mark-requires-2
unfolding words_meaning
mark-requires-2 c =
    let s = c.args.self.now in
    let i_lt : c.args.i < length (counts s) = c.requires.first in
    let j_lt : c.args.j < length (counts s) = c.requires.second in
    let len = ap length c.mark.ensures.counts in
    record { inside = omega (arith, many s, s.lines.ok.0, len, c.mark.new.lines.ok.0, length-map c.args.self.now.lines.items (λ l. l.count), length-map c.mark.new.lines.items (λ l. l.count)); low = omega (arith, few_lines s) }

made : (s : Supports) (i j : ℕ) (cs once twice : List ℕ) → i < (supports_meaning s).lines → j < (supports_meaning s).lines → (i ≡ j → ⊥)
    → cs ≡ counts s → once ≡ mark_at (joins s) i j → twice ≡ mark_at once j i
    → Made cs s.width twice (vec_items s.words) (with_join i j (supports_meaning s))
unfolding words_meaning
made s i j cs once twice h g ne same d e =
    subst (λ xs. Made xs s.width twice (vec_items s.words) (with_join i j (supports_meaning s))) (sym same)
    (join_made (counts s) s.width (joins s) (vec_items s.words) twice i j (held s) h g ne (e ∙ ap (λ x. mark_at x j i) d))

pub invariant_of-self : goal.invariant_of-self
invariant_of-self c =
    record { good = ∣ (made c.args.self.now c.args.i c.args.j _ _ _ c.requires.first c.requires.second c.requires.differ (c.mark-2.ensures.counts ∙ c.mark.ensures.counts) c.mark.ensures.joins c.mark-2.ensures.joins).compiled ∣₁ }

pub returns : goal.returns
returns c =
    (made c.args.self.now c.args.i c.args.j _ _ _ c.requires.first c.requires.second c.requires.differ (c.mark-2.ensures.counts ∙ c.mark.ensures.counts) c.mark.ensures.joins c.mark-2.ensures.joins).means
