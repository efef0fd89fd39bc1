use Rattle.std.proofs.Common.{◌≡◌, ℕ, ◌<◌, get_or, vec_items, sym, ap, ◌∙◌, arith}
use Rattle.std.proofs.lemmas.List.{get_or_read}
use Rattle.model.specs.Making.{with_part}
use Rattle.model.specs.Words.{words_meaning}
use Rattle.model.proofs.Parts.{rows, part_frame, join_facts, rows_start, rows_step, rows_all}
use Rattle.supports.specs.declared.supports.Line.{Line}
use Rattle.supports.specs.declared.supports.Supports.{Supports}
use Rattle.supports.specs.Lines.{no_line}
use Rattle.supports.specs.Held.{counts, held, supports_meaning}
use Rattle.supports.proofs.Lines.{count_is}
use Rattle.supports.proofs.Indices.{many}
use Rattle.supports.proofs.supports.Supports.add_between.Goals as goal

-- the counts that were read are those of the lines
read : (s : Supports) (k : ℕ) (l : Line) → k < (supports_meaning s).lines → l ≡ get_or (vec_items s.lines) k l → l.count ≡ get_or (counts s) k 0
unfolding words_meaning
read s k l h e = ap (λ x. x.count) (get_or_read (vec_items s.lines) k l (omega (arith, h, many s, s.lines.ok.0)) e no_line) ∙ sym (count_is (vec_items s.lines) k)

pub index-requires : goal.index-requires
unfolding words_meaning
index-requires g c = omega (arith, c.requires.first, many c.args.self.now)

pub index-requires-2 : goal.index-requires-2
unfolding words_meaning
index-requires-2 g c = omega (arith, c.requires.second, many c.args.self.now)

pub loop-a-init : goal.loop-a-init
loop-a-init g c = rows_start c.args.i c.args.j (g.R.PairRule.permits c.args.rule.now) (supports_meaning c.join.new.self) _

pub add_row-requires : goal.add_row-requires
unfolding words_meaning
add_row-requires g c =
    let s = c.args.self.now in
    let i = c.args.i in
    let j = c.args.j in
    let start = supports_meaning c.join.new.self in
    let f = part_frame i j (g.R.PairRule.permits c.args.rule.now) (rows c.loop-a.a _) (supports_meaning c.loop-a.self) start c.loop-a.invariant in
    let k = join_facts i j start (supports_meaning s) c.join.ensures in
    let rows_are = read s i c.index.result.now c.requires.first c.index.ensures in
    let options_are = read s j c.index-2.result.now c.requires.second c.index-2.ensures in
    record {
      joined = f.joined i j ∙ k.2;
      option = omega (arith, f.count i, k.1 i, rows_are);
      options = options_are ∙ sym (f.count j ∙ k.1 j);
    }

pub loop-a-preserved : goal.loop-a-preserved
loop-a-preserved g c =
    rows_step c.args.i c.args.j (g.R.PairRule.permits c.args.rule.now) (supports_meaning c.join.new.self) c.loop-a.a _
    (supports_meaning c.loop-a.self) (supports_meaning c.add_row.new.self) c.loop-a.invariant c.add_row.ensures

pub returns : goal.returns
unfolding words_meaning
returns g c =
    let s = c.args.self.now in
    let m = supports_meaning s in
    let i = c.args.i in
    let j = c.args.j in
    let f = g.R.PairRule.permits c.args.rule.now in
    let start = supports_meaning c.join.new.self in
    let rows_are = read s i c.index.result.now c.requires.first c.index.ensures in
    let options_are = read s j c.index-2.result.now c.requires.second c.index-2.ensures in
    let all : c.loop-a.a ≡ get_or (counts s) i 0 = omega (arith, rows_are) in
    rows_all i j f m start (supports_meaning c.loop-a.self) (held s).lawful c.join.ensures
    (c.loop-a.invariant ∙ ap (λ x. with_part i j f (rows x c.index-2.result.now.count) start) all ∙ ap (λ x. with_part i j f (rows (get_or (counts s) i 0) x) start) options_are)
