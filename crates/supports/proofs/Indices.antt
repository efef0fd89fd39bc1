-- Places of words fit a machine number.
use Rattle.std.proofs.Common.{◌≡◌, ℕ, ◌+◌, ◌*◌, ◌<◌, ◌≤◌, length, vec_items, vec_len, sym, ap, ◌∙◌, arith}
use Rattle.std.proofs.lemmas.List.{length-map}
use Rattle.std.proofs.lemmas.Nat.{mul-le}
use Rattle.model.specs.Words.{place, words_meaning}
use Rattle.model.proofs.Places as places
use Rattle.supports.specs.declared.supports.Supports.{Supports}
use Rattle.supports.specs.Held.{counts, held}

-- the number of lines is that of their counts
pub many : (s : Supports) → vec_len s.lines ≡ length (counts s)
many s = s.lines.ok.0 ∙ sym (length-map (vec_items s.lines) (λ l. l.count))

pub few_lines : (s : Supports) → length (counts s) ≤ 128
unfolding words_meaning
few_lines s = (held s).lawful.limits.few_lines

-- n is the number of lines
pub record Within (s : Supports) (n i a j : ℕ) : Type 0 where
  pub before : (i * s.width + a) * n ≤ 1056768
  pub last : j ≤ 128
  pub inside : (i * s.width + a) * n + j < vec_len s.words

pub within : (s : Supports) (n i a j : ℕ) → n ≡ vec_len s.lines → i < length (counts s) → j < length (counts s) → a < s.width → Within s n i a j
within s n i a j en h g k =
    let sized = (held s).sized in
    let few = few_lines s in
    let e : n ≡ length (counts s) = en ∙ many s in
    let row : i * s.width ≤ 8192 = mul-le i s.width 128 64 (omega arith) sized.width_le in
    let p : (i * s.width + a) * n + j ≡ place (length (counts s)) s.width i a j = ap (λ x. (i * s.width + a) * x + j) e in
    record {
      before = mul-le (i * s.width + a) n 8256 128 (omega (arith, sized.width_le)) (omega arith);
      last = omega arith;
      inside = omega (arith, p, s.words.ok.0, sized.words_len, places.place_lt (length (counts s)) s.width i a j h k g);
    }
