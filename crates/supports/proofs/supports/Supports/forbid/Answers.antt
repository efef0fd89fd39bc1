use Rattle.std.proofs.Common.{◌≡◌, ℕ, ◌<◌, true, List, length, get_or, vec_items, ap, ◌∙◌, arith, length-set}
use Rattle.model.specs.Making.{with_ban}
use Rattle.bits.specs.Bits.{cleared}
use Rattle.model.specs.Words.{place, clear_at}
use Rattle.model.proofs.Pairs.{Pair}
use Rattle.model.proofs.Steps.{Made, ban_made, pair_joined}
use Rattle.supports.specs.declared.supports.Supports.{Supports}
use Rattle.supports.specs.Held.{counts, joins, held, supports_meaning}
use Rattle.supports.proofs.supports.Supports.forbid.Goals as goal

-- the options exist, and have places
record Known (s : Supports) (i a j b : ℕ) : Type 0 where
  pair : Pair (counts s) i a j b
  wide : (a < s.width) × (b < s.width)

known : (s : Supports) (i a j b : ℕ) → (supports_meaning s).joined i j ≡ true → a < (supports_meaning s).count i → b < (supports_meaning s).count j → Known s i a j b
known s i a j b jn ha hb =
    let sized = (held s).sized in
    let p = pair_joined (counts s) s.width (joins s) (vec_items s.words) i a j b jn ha hb in
    let x : a < s.width = omega (arith, sized.counts_le i, p.a_lt) in
    let y : b < s.width = omega (arith, sized.counts_le j, p.b_lt) in
    record { pair = p; wide = (x, y) }

pub place_of-there-requires : goal.place_of-there-requires
place_of-there-requires c =
    let k = known c.args.self.now c.args.i c.args.a c.args.j c.args.b c.requires.joined c.requires.first c.requires.second in
    record { first = k.pair.i_lt; second = k.pair.j_lt; option = k.wide.0 }

pub place_of-back-requires : goal.place_of-back-requires
place_of-back-requires c =
    let k = known c.args.self.now c.args.i c.args.a c.args.j c.args.b c.requires.joined c.requires.first c.requires.second in
    record { first = k.pair.j_lt; second = k.pair.i_lt; option = k.wide.1 }

pub clear-requires-2 : goal.clear-requires-2
clear-requires-2 c =
    let ws = vec_items c.args.self.now.words in
    let at = c.place_of-there.result in
    let len = ap length c.clear.ensures ∙ length-set ws at (cleared (get_or ws at 0) c.args.b) in
    omega (arith, c.place_of-back.ensures.inside, len, c.args.self.now.words.ok.0, c.clear.new.words.ok.0)

made : (s : Supports) (i a j b there back : ℕ) (once twice : List ℕ) → (supports_meaning s).joined i j ≡ true → a < (supports_meaning s).count i → b < (supports_meaning s).count j
    → there ≡ place (length (counts s)) s.width i a j → back ≡ place (length (counts s)) s.width j b i
    → once ≡ clear_at (vec_items s.words) there b → twice ≡ clear_at once back a
    → Made (counts s) s.width (joins s) twice (with_ban i a j b (supports_meaning s))
made s i a j b there back once twice jn ha hb t u d e =
    let n = length (counts s) in
    ban_made (counts s) s.width (joins s) (vec_items s.words) twice i a j b (held s) jn (known s i a j b jn ha hb).pair
    (e ∙ ap (λ x. clear_at x back a) d ∙ ap (λ x. clear_at (clear_at (vec_items s.words) x b) back a) t
    ∙ ap (λ x. clear_at (clear_at (vec_items s.words) (place n s.width i a j) b) x a) u)

pub invariant_of-self : goal.invariant_of-self
invariant_of-self c = record {
  good = ∣ (made c.args.self.now c.args.i c.args.a c.args.j c.args.b c.place_of-there.result c.place_of-back.result _ _ c.requires.joined c.requires.first c.requires.second
      c.place_of-there.ensures.value c.place_of-back.ensures.value c.clear.ensures c.clear-2.ensures).compiled ∣₁;
}

pub returns : goal.returns
returns c =
    (made c.args.self.now c.args.i c.args.a c.args.j c.args.b c.place_of-there.result c.place_of-back.result _ _ c.requires.joined c.requires.first c.requires.second
    c.place_of-there.ensures.value c.place_of-back.ensures.value c.clear.ensures c.clear-2.ensures).means
