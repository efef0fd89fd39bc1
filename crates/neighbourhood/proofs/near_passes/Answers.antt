use Rattle.std.proofs.Common.{◌<◌, List, ℕ, MatchBool, sym, ap, ◌∙◌, subst, arith}
use Rattle.bits.specs.Bits.{on}
use Rattle.model.specs.Meaning.{Meaning}
use Rattle.model.specs.Sets.{In, Empty, Full, Largest}
use Rattle.model.specs.Passing.{ArcPasses}
use Rattle.model.specs.Views.{view_meaning}
use Rattle.model.proofs.Facts.{line_real}
use Rattle.model.proofs.NearRuns.{near_run}
use Rattle.neighbourhood.proofs.near_passes.Goals as goal

-- the view shows the looked-at lines of the source
pub returns : goal.returns
returns g c =
    let x = c.args.source.now in
    let m = g.S.RuleSource.meaning x in
    let law = g.S.RuleSource.lawful x in
    let s = c.args.set.now in
    let i = c.args.line in
    let a = c.args.option in
    let v = c.looked-lines.result.items in
    let h = c.held_words-words.result.items in
    let r = c.settles.new.words in
    let b = c.settles.result in
    let view = c.in-Some.view in
    let made = c.in-Some.ensures in
    let Run : Meaning → List ℕ → Type 0 = λ m h. Largest m (ArcPasses m) h r × MatchBool b (Full m (ArcPasses m) r) (Empty m r) in
    let same = ap (λ s. view_meaning (g.S.RuleSource.meaning s.now) view.shown.lines.now) made.0 ∙ ap (view_meaning m) (made.1 ∙ c.as_slice.ensures.value) in
    let run : Run (view_meaning m v) h =
    subst (Run (view_meaning m v)) c.as_mut_slice.ensures.value (subst (λ m. Run m c.as_mut_slice.result.now) same (c.settles.ensures.largest, c.settles.ensures.ended)) in
    let real : a < m.count i = omega arith in
    let here : In m s i a = (line_real m law i a real, real, ap (λ w. on w a) (sym c.word.ensures) ∙ sym c.has.ensures ∙ c.if-not-has.false) in
    near_run m law s v h i a here c.looked-lines.ensures c.held_words-words.ensures r run.0 b run.1
