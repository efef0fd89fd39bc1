-- A step of making words: what they mean then, and that the facts are kept.
use Rattle.std.proofs.Common.{◌≡◌, ℕ, ◌*◌, ◌<◌, ◌≤◌, true, List, length, get_or, replicate, sym, ap, ◌∙◌, subst, arith, length-set}
use Rattle.std.proofs.lemmas.List.{length-replicate}
use Rattle.std.proofs.lemmas.Bool.{and_parts}
use Rattle.bits.specs.Bits.{on, cleared, marked}
use Rattle.model.specs.Meaning.{Meaning, Lawful}
use Rattle.model.specs.Making.{two_lines, counts_ok, no_rules, with_join, with_ban}
use Rattle.model.specs.Words.{place, clear_at, mark_at, Sized, Clean, Compiled, Unruled, words_meaning}
use Rattle.model.proofs.Laws.{no_rules_lawful, join_lawful, ban_lawful}
use Rattle.model.proofs.Pairs.{Pair, lines_of, lines_true}
use Rattle.model.proofs.Places.{place_lt, words_none, words_join, words_ban, sized_mark, sized_clear, clean_none, clean_mark, clean_clear}

-- the words mean m
pub record Made (cs : List ℕ) (width : ℕ) (joins words : List ℕ) (m : Meaning) : Type 0 where
  pub compiled : Compiled cs width joins words
  pub means : words_meaning cs width joins words ≡ m

made : (cs : List ℕ) (width : ℕ) (joins words : List ℕ) (m : Meaning) → Sized cs width joins words → Clean cs width joins words
    → words_meaning cs width joins words ≡ m → Lawful m → Made cs width joins words m
made cs width joins words m s k e l = record { compiled = record { sized = s; clean = k; lawful = subst Lawful (sym e) l }; means = e }

pub none_made : (cs : List ℕ) (width : ℕ) (joins words : List ℕ) → 0 < length cs → length cs ≤ 128 → counts_ok cs ≡ true → ((i : ℕ) → get_or cs i 0 ≤ width) → width ≤ 64
    → joins ≡ replicate (length cs) 0 → length words ≡ length cs * width * length cs → Unruled cs width words → Made cs width joins words (no_rules cs)
none_made cs width joins words some few ok le small ej len ew =
    let s : Sized cs width joins words = record {
      joins_len = ap length ej ∙ length-replicate (length cs) 0;
      words_len = len;
      counts_le = le;
      width_le = small;
    } in
    made cs width joins words (no_rules cs) s (clean_none cs width joins words s ej ew) (words_none cs width joins words s ej ew) (no_rules_lawful cs some few ok)

pub join_made : (cs : List ℕ) (width : ℕ) (joins words joins' : List ℕ) (i j : ℕ) → Compiled cs width joins words → i < length cs → j < length cs → (i ≡ j → ⊥)
    → joins' ≡ mark_at (mark_at joins i j) j i → Made cs width joins' words (with_join i j (words_meaning cs width joins words))
unfolding words_meaning
join_made cs width joins words joins' i j k h g ne e =
    let m = words_meaning cs width joins words in
    let i_lt : i < length joins = omega (arith, k.sized.joins_len) in
    let j_lt : j < length (mark_at joins i j) = omega (arith, k.sized.joins_len, length-set joins i (marked (get_or joins i 0) j)) in
    subst (λ js. Made cs width js words (with_join i j m)) (sym e)
    (made cs width (mark_at (mark_at joins i j) j i) words (with_join i j m)
    (sized_mark cs width (mark_at joins i j) words j i (sized_mark cs width joins words i j k.sized))
    (clean_mark cs width (mark_at joins i j) words j i j_lt (lines_true cs j i g h (λ q. ne (sym q)))
    (clean_mark cs width joins words i j i_lt (lines_true cs i j h g ne) k.clean))
    (words_join cs width joins words i j k.sized h g ne) (join_lawful i j m k.lawful h g ne))

-- the options of two joined lines
pub pair_joined : (cs : List ℕ) (width : ℕ) (joins words : List ℕ) (i a j b : ℕ) → (words_meaning cs width joins words).joined i j ≡ true
    → a < (words_meaning cs width joins words).count i → b < (words_meaning cs width joins words).count j → Pair cs i a j b
unfolding words_meaning
pair_joined cs width joins words i a j b jn ha hb =
    let l = lines_of cs i j (and_parts (two_lines cs i j) (on (get_or joins i 0) j) jn).0 in
    record { i_lt = l.i_lt; j_lt = l.j_lt; differ = l.differ; a_lt = ha; b_lt = hb }

pub ban_made : (cs : List ℕ) (width : ℕ) (joins words words' : List ℕ) (i a j b : ℕ) → Compiled cs width joins words → (words_meaning cs width joins words).joined i j ≡ true
    → Pair cs i a j b → words' ≡ clear_at (clear_at words (place (length cs) width i a j) b) (place (length cs) width j b i) a
    → Made cs width joins words' (with_ban i a j b (words_meaning cs width joins words))
ban_made cs width joins words words' i a j b k jn p e =
    let m = words_meaning cs width joins words in
    let n : ℕ = length cs in
    let there : ℕ = place n width i a j in
    let back : ℕ = place n width j b i in
    let a_lt : a < width = omega (arith, k.sized.counts_le i, p.a_lt) in
    let b_lt : b < width = omega (arith, k.sized.counts_le j, p.b_lt) in
    let there_lt : there < length words = omega (arith, k.sized.words_len, place_lt n width i a j p.i_lt a_lt p.j_lt) in
    let back_lt : back < length (clear_at words there b) =
    omega (arith, k.sized.words_len, place_lt n width j b i p.j_lt b_lt p.i_lt, length-set words there (cleared (get_or words there 0) b)) in
    subst (λ ws. Made cs width joins ws (with_ban i a j b m)) (sym e)
    (made cs width joins (clear_at (clear_at words there b) back a) (with_ban i a j b m)
    (sized_clear cs width joins (clear_at words there b) back a (sized_clear cs width joins words there b k.sized))
    (clean_clear cs width joins (clear_at words there b) back a back_lt (clean_clear cs width joins words there b there_lt k.clean))
    (words_ban cs width joins words i a j b k.sized p) (ban_lawful i a j b m k.lawful jn))
