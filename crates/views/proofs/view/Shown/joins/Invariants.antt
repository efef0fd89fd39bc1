use Rattle.std.proofs.Common.{◌≡◌, ℕ, ◌<◌, ◌&&◌, ltb, length, get_or}
use Rattle.bits.specs.Bits.{on}
use Rattle.views.proofs.view.Shown.joins.Given as goal

-- the words before the line's place are made
abbrev pub invariant-loop-line : goal.invariant-loop-line
invariant-loop-line g l =
    let v = l.self.lines.now in
    (length l.joins.items ≡ l.line-index)
    × ((p : ℕ) → p < l.line-index → (j : ℕ) → on (get_or l.joins.items p 0) j ≡ (ltb j (length v) && (g.S.RuleSource.meaning l.source).joined (get_or v p 0) (get_or v j 0)))
