-- Laws of bits, over words of any width.
use Rattle.std.specs.Bool.{then_some}
use Rattle.std.proofs.Common.{◌≡◌, ℕ, zero, suc, ◌+◌, ◌-◌, ◌*◌, ◌/◌, ◌%◌, ◌^◌, ◌<◌, ◌≤◌, min, Bool, true, false, not, ◌&&◌, ◌||◌, eqb, ltb, Some, None, sym, refl, ap, ◌∙◌, subst, ⊎_elim, mul_assoc, add-mul, one-mul, div-one, one-add, arith, pow_pos, pow_mono, pow-add}
use native.Mathlib.Nat.{mul-mod_left, mod-one, div-eq_of_lt}
use lib.Arith.{bin_ind}
use lib.Bits.{bit_and, bit_or, bit_xor, and_shr, or_shr, xor_shr, and_mod, or_mod, xor_mod, and_zero_l, and_zero_r, and_self, and_step, xor_zero_r, xor_add_and, and_mask, and_block}
use lib.Count.{count_trailing_zeros, trailing_of_zero, under}
use lib.Pow.{pow-lt, shl-shr, split}
use Rattle.std.proofs.lemmas.Nat.{mod_below, shr-shr, shr_high}
use Rattle.std.proofs.lemmas.Bool.{both_ways, cases_order, cases_eq, cases_lt, eq-eqb, ne_eqb, eqb-true, lt-ltb, le-ltb, false≢true, true≢false}
use Rattle.std.proofs.lemmas.Bool.Decides.{nat_tests}
use Rattle.bits.specs.Bits.{bit, on, cleared, marked}
use Rattle.bits.specs.Least.{Least}

bit_lt : (w b : ℕ) → bit w b < 2
bit_lt w b = mod_below (w / 2 ^ b) 2 (omega arith)

digit : (P : ℕ → Type 0) → P 0 → P 1 → (x : ℕ) → x < 2 → P x
digit P p q zero h = p
digit P p q (suc zero) h = q
digit P p q (suc (suc x)) h = absurd (omega (arith, h))

-- the bits of a power of two
bit_pow_same : (a : ℕ) → bit (2 ^ a) a ≡ 1
bit_pow_same a = ap (λ n. n % 2) (ap (λ n. n / 2 ^ a) (sym (one-mul (2 ^ a))) ∙ shl-shr 1 a)

bit_pow_other : (a b : ℕ) → (a ≡ b → ⊥) → bit (2 ^ a) b ≡ 0
bit_pow_other a b ne = ⊎_elim (λ e. absurd (ne e)) (⊎_elim low high) (cases_order a b)
  where
    low : a < b → bit (2 ^ a) b ≡ 0
    low h = ap (λ n. n % 2) (div-eq_of_lt (pow-lt h))

    high : b < a → bit (2 ^ a) b ≡ 0
    high h =
        let k : ℕ = a - b - 1 in
        let e : a ≡ (1 + k) + b = omega arith in
        ap (λ n. n % 2) (ap (λ n. 2 ^ n / 2 ^ b) e ∙ ap (λ n. n / 2 ^ b) (pow-add 2 (1 + k) b) ∙ shl-shr (2 ^ (1 + k)) b ∙ pow-add 2 1 k) ∙ (omega arith)

pub on_pow : (a b : ℕ) → on (2 ^ a) b ≡ eqb b a
on_pow a b = ⊎_elim
    (λ (e : b ≡ a). ap (λ n. eqb n 1) (ap (λ n. bit (2 ^ a) n) e ∙ bit_pow_same a) ∙ sym (eq-eqb b a e))
    (λ ne. ap (λ n. eqb n 1) (bit_pow_other a b (λ e. ne (sym e))) ∙ sym (ne_eqb b a ne)) (cases_eq b a)

-- the bits of a conjunction, a disjunction and a difference of words
both_on : (x y : ℕ) → x < 2 → y < 2 → eqb (bit_and x y) 1 ≡ (eqb x 1 && eqb y 1)
both_on x y h g = digit (λ x. eqb (bit_and x y) 1 ≡ (eqb x 1 && eqb y 1)) (digit (λ y. eqb (bit_and 0 y) 1 ≡ (eqb 0 1 && eqb y 1)) refl refl y g) (digit (λ y. eqb (bit_and 1 y) 1 ≡ (eqb 1 1 && eqb y 1)) refl refl y g) x h

either_on : (x y : ℕ) → x < 2 → y < 2 → eqb (bit_or x y) 1 ≡ (eqb x 1 || eqb y 1)
either_on x y h g = digit (λ x. eqb (bit_or x y) 1 ≡ (eqb x 1 || eqb y 1)) (digit (λ y. eqb (bit_or 0 y) 1 ≡ (eqb 0 1 || eqb y 1)) refl refl y g) (digit (λ y. eqb (bit_or 1 y) 1 ≡ (eqb 1 1 || eqb y 1)) refl refl y g) x h

-- x or y and not both
abbrev one_of : Bool → Bool → Bool
one_of true y = not y
one_of false y = y

one_on : (x y : ℕ) → x < 2 → y < 2 → eqb (bit_xor x y) 1 ≡ one_of (eqb x 1) (eqb y 1)
one_on x y h g = digit (λ x. eqb (bit_xor x y) 1 ≡ one_of (eqb x 1) (eqb y 1)) (digit (λ y. eqb (bit_xor 0 y) 1 ≡ one_of (eqb 0 1) (eqb y 1)) refl refl y g) (digit (λ y. eqb (bit_xor 1 y) 1 ≡ one_of (eqb 1 1) (eqb y 1)) refl refl y g) x h

pub on_and : (w v b : ℕ) → on (bit_and w v) b ≡ (on w b && on v b)
on_and w v b = ap (λ n. eqb n 1) (ap (λ n. n % 2) (and_shr w v b) ∙ and_mod (w / 2 ^ b) (v / 2 ^ b) 1) ∙ both_on (bit w b) (bit v b) (bit_lt w b) (bit_lt v b)

pub on_or : (w v b : ℕ) → on (bit_or w v) b ≡ (on w b || on v b)
on_or w v b = ap (λ n. eqb n 1) (ap (λ n. n % 2) (or_shr w v b) ∙ or_mod (w / 2 ^ b) (v / 2 ^ b) 1) ∙ either_on (bit w b) (bit v b) (bit_lt w b) (bit_lt v b)

on_xor : (w v b : ℕ) → on (bit_xor w v) b ≡ one_of (on w b) (on v b)
on_xor w v b = ap (λ n. eqb n 1) (ap (λ n. n % 2) (xor_shr w v b) ∙ xor_mod (w / 2 ^ b) (v / 2 ^ b) 1) ∙ one_on (bit w b) (bit v b) (bit_lt w b) (bit_lt v b)

taken_out : (x y : Bool) → one_of x (x && y) ≡ (x && not y)
taken_out true y = refl
taken_out false y = refl

-- a word less its bits in a mask
pub on_out : (w v b : ℕ) → on (bit_xor w (bit_and w v)) b ≡ (on w b && not (on v b))
on_out w v b = on_xor w (bit_and w v) b ∙ ap (one_of (on w b)) (on_and w v b) ∙ taken_out (on w b) (on v b)

-- a word with one bit cleared, and with one set
pub on_cleared : (w b q : ℕ) → on (cleared w b) q ≡ (on w q && not (eqb q b))
on_cleared w b q = on_out w (2 ^ b) q ∙ ap (λ t. on w q && not t) (on_pow b q)

pub on_marked : (w b q : ℕ) → on (marked w b) q ≡ (on w q || eqb q b)
on_marked w b q = on_or w (2 ^ b) q ∙ ap (λ t. on w q || t) (on_pow b q)

pub on_shifted : (w f q : ℕ) → on (w / 2 ^ f) q ≡ on w (f + q)
on_shifted w f q = ap (λ n. eqb (n % 2) 1) (shr-shr w f q)

pub on_zero : (b : ℕ) → on 0 b ≡ false
on_zero b = ap (λ n. eqb (n % 2) 1) (div-eq_of_lt (pow_pos b))

-- past the end of a word no bit is set
pub on_past : (w k b : ℕ) → w < 2 ^ k → k ≤ b → on w b ≡ false
on_past w k b h le = let p : 2 ^ k ≤ 2 ^ b = pow_mono le in let q : w < 2 ^ b = omega arith in ap (λ n. eqb (n % 2) 1) (div-eq_of_lt q)

-- a word of ones
on_ones_low : (k b : ℕ) → b < k → on (2 ^ k - 1) b ≡ true
on_ones_low k b h =
    let j : ℕ = k - b - 1 in
    let e : k ≡ (1 + j) + b = omega arith in
    let p : 2 ^ k ≡ 2 ^ (1 + j) * 2 ^ b = ap (λ n. 2 ^ n) e ∙ pow-add 2 (1 + j) b in
    let q : 2 ^ (1 + j) ≡ 2 * 2 ^ j = pow-add 2 1 j in
    let z = pow_pos b in
    let y = pow_pos j in
    let hi : ℕ = 2 ^ (1 + j) - 1 in
    let s : hi + 1 ≡ 2 ^ (1 + j) = omega arith in
    let t : (hi + 1) * 2 ^ b ≡ hi * 2 ^ b + 1 * 2 ^ b = add-mul hi 1 (2 ^ b) in
    let u : 2 ^ k - 1 ≡ hi * 2 ^ b + (2 ^ b - 1) = omega (arith, ap (λ n. n * 2 ^ b) s) in
    let odd : hi % 2 ≡ 1 = omega arith in
    ap (λ n. eqb n 1) (ap (λ n. n / 2 ^ b % 2) u ∙ ap (λ n. n % 2) (shr_high hi b (2 ^ b - 1) (omega arith)) ∙ odd)

pub on_ones : (k b : ℕ) → on (2 ^ k - 1) b ≡ ltb b k
on_ones k b = ⊎_elim (λ h. on_ones_low k b h ∙ sym (lt-ltb b k h))
    (λ h. let z = pow_pos k in let q : 2 ^ k - 1 < 2 ^ k = omega arith in on_past (2 ^ k - 1) k b q h ∙ sym (le-ltb b k h)) (cases_lt b k)

-- the same where the word has no more than k bits
pub on_mask : (n k b : ℕ) → on (2 ^ min n k - 1) b ≡ (ltb b n && ltb b k)
on_mask n k b = on_ones (min n k) b ∙ grind (arith, nat_tests)

pub on_no_mask : (k b : ℕ) → on (2 ^ min 0 k - 1) b ≡ false
on_no_mask k b = on_mask 0 k b ∙ grind (arith, nat_tests)

-- the lowest bits
bit_zero : (n : ℕ) → bit n 0 ≡ n % 2
bit_zero n = ap (λ x. x % 2) (div-one n)

on_suc : (n c : ℕ) → on n (suc c) ≡ on (n / 2) c
on_suc n c = sym (on_shifted n 1 c ∙ ap (λ x. on n x) (one-add c))

-- below the count of trailing zeros no bit is set, and there the first one is
low_even : (n t c : ℕ) → n % 2 ≡ 0 → ((d : ℕ) → d < t → on (n / 2) d ≡ false) → c < suc t → on n c ≡ false
low_even n t zero e rest g = ap (λ x. eqb x 1) (bit_zero n ∙ e)
low_even n t (suc c) e rest g = on_suc n c ∙ rest c (omega (arith, g))

trailing_low : (k n c : ℕ) → c < count_trailing_zeros k n → on n c ≡ false
unfolding count_trailing_zeros
trailing_low zero n c h = absurd (omega (arith, h))
trailing_low (suc k) n c h =
    let t : ℕ = count_trailing_zeros k (n / 2) in
    digit (λ x. (n % 2 ≡ x) → c < under x t → on n c ≡ false) (λ e g. low_even n t c e (λ d. trailing_low k (n / 2) d) g)
    (λ e g. absurd (omega (arith, g))) (n % 2) (mod_below n 2 (omega arith)) refl h

trailing_at : (k n : ℕ) → count_trailing_zeros k n < k → on n (count_trailing_zeros k n) ≡ true
unfolding count_trailing_zeros
trailing_at zero n h = absurd (omega (arith, h))
trailing_at (suc k) n h =
    let t : ℕ = count_trailing_zeros k (n / 2) in
    digit (λ x. (n % 2 ≡ x) → under x t < suc k → on n (under x t) ≡ true)
    (λ e g. on_suc n t ∙ trailing_at k (n / 2) (omega (arith, g))) (λ e g. ap (λ x. eqb x 1) (bit_zero n ∙ e)) (n % 2) (mod_below n 2 (omega arith)) refl h

-- the least set bit at or above from of a word of k bits
module _ (k w from b : ℕ) (fits : w < 2 ^ k) (at : b ≡ from + count_trailing_zeros k (w / 2 ^ from)) where
  before : (c : ℕ) → from ≤ c → c < b → on w c ≡ false
  before c le lt =
      let d : ℕ = c - from in
      let e : from + d ≡ c = omega arith in
      let g : d < count_trailing_zeros k (w / 2 ^ from) = omega arith in
      ap (λ x. on w x) (sym e) ∙ sym (on_shifted w from d) ∙ trailing_low k (w / 2 ^ from) d g

  pub least_found : b < k → Least (on w) from (Some b)
  least_found lt =
      let t : count_trailing_zeros k (w / 2 ^ from) < k = omega arith in
      ((omega arith), ap (λ x. on w x) at ∙ sym (on_shifted w from (count_trailing_zeros k (w / 2 ^ from))) ∙ trailing_at k (w / 2 ^ from) t, before)

  pub least_none : k ≤ b → Least (on w) from None
  least_none le c from_le = ⊎_elim (λ lt. before c from_le lt) (λ ge. on_past w k c fits (omega arith)) (cases_lt c b)

  -- the one if it lies in the word, and none if it lies past its end
  pub least_there : Least (on w) from (then_some (ltb b k) b)
  least_there = ⊎_elim (λ lt. subst (λ t. Least (on w) from (then_some t b)) (sym (lt-ltb b k lt)) (least_found lt))
      (λ ge. subst (λ t. Least (on w) from (then_some t b)) (sym (le-ltb b k ge)) (least_none ge)) (cases_lt b k)

-- past the end of a word of k bits none is set, so all k are passed
pub past_end : (k w f : ℕ) → w < 2 ^ k → k ≤ f → k ≡ count_trailing_zeros k (w / 2 ^ f)
past_end k w f fits le =
    let p : 2 ^ k ≤ 2 ^ f = pow_mono le in
    let q : w < 2 ^ f = omega arith in
    sym (ap (count_trailing_zeros k) (div-eq_of_lt q) ∙ trailing_of_zero k)

-- no bit that is not set comes before bit b where it is set, and there alone
none_before : (k n : ℕ) → 0 < k → eqb (count_trailing_zeros k n) 0 ≡ on n 0
unfolding count_trailing_zeros
none_before zero n h = absurd (omega (arith, h))
none_before (suc k) n h =
    let t : ℕ = count_trailing_zeros k (n / 2) in
    digit (λ x. (n % 2 ≡ x) → eqb (under x t) 0 ≡ on n 0) (λ e. ne_eqb (suc t) 0 (λ z. omega (arith, z)) ∙ sym (ap (λ x. eqb x 1) (bit_zero n ∙ e)))
    (λ e. sym (ap (λ x. eqb x 1) (bit_zero n ∙ e))) (n % 2) (mod_below n 2 (omega arith)) refl

pub starts_on : (k w b : ℕ) → 0 < k → eqb (count_trailing_zeros k (w / 2 ^ b)) 0 ≡ on w b
starts_on k w b h = none_before k (w / 2 ^ b) h ∙ on_shifted w b 0 ∙ ap (λ n. on w n) (omega arith)

-- a set bit that is cleared takes its value off
cleared_value : (w b : ℕ) → on w b ≡ true → cleared w b + 2 ^ b ≡ w
cleared_value w b h =
    let q : ℕ = w / 2 ^ b in
    let r : ℕ = w % 2 ^ b in
    let odd : q % 2 ≡ 1 = eqb-true (q % 2) 1 h in
    let low : r < 2 ^ b = mod_below w (2 ^ b) (pow_pos b) in
    let one : 2 ^ b ≡ 1 * 2 ^ b + 0 = omega arith in
    let e : bit_and w (2 ^ b) ≡ 2 ^ b =
    ap (λ n. bit_and n (2 ^ b)) (sym (split w b)) ∙ ap (λ n. bit_and (q * 2 ^ b + r) n) one ∙ and_block b q 1 r 0 low (pow_pos b)
    ∙ ap (λ n. n * 2 ^ b + bit_and r 0) (and_mask q 1 ∙ odd) ∙ ap (λ n. 1 * 2 ^ b + n) (and_zero_r r) ∙ (omega arith) in
    let s : bit_xor w (2 ^ b) + bit_and w (2 ^ b) * 2 ≡ w + 2 ^ b = xor_add_and w (2 ^ b) in
    let t : cleared w b ≡ bit_xor w (2 ^ b) = ap (bit_xor w) e in
    omega (arith, pow_pos b)

pub cleared_falls : (w b : ℕ) → on w b ≡ true → cleared w b < w
cleared_falls w b h = omega (arith, cleared_value w b h, pow_pos b)

-- the lowest set bit: nothing lies below it, so taking one off changes no higher bit
low_zero : (b w : ℕ) → ((c : ℕ) → c < b → on w c ≡ false) → w % 2 ^ b ≡ 0
low_zero zero w h = mod-one w
low_zero (suc b) w h =
    let q : ℕ = w / 2 ^ b in
    let rest : w % 2 ^ b ≡ 0 = low_zero b w (λ c l. h c (omega (arith, l))) in
    let even : q % 2 ≡ 0 = digit (λ x. eqb x 1 ≡ false → x ≡ 0) (λ _. refl) (λ e. absurd (both_ways (eqb 1 1) e refl)) (q % 2) (bit_lt w b) (h b (omega arith)) in
    let half : q ≡ q / 2 * 2 = omega arith in
    let p : 2 ^ suc b ≡ 2 * 2 ^ b = ap (λ n. 2 ^ n) (sym (one-add b)) ∙ pow-add 2 1 b in
    let e : w ≡ q / 2 * 2 ^ suc b =
    omega (arith, split w b) ∙ ap (λ n. n * 2 ^ b) half ∙ mul_assoc (q / 2) 2 (2 ^ b) ∙ ap (λ n. q / 2 * n) (sym p) in
    ap (λ n. n % 2 ^ suc b) e ∙ mul-mod_left (q / 2) (2 ^ suc b)

pub lowest_cleared : (w b : ℕ) → on w b ≡ true → ((c : ℕ) → c < b → on w c ≡ false) → bit_and w (w - 1) ≡ cleared w b
lowest_cleared w b h before =
    let q : ℕ = w / 2 ^ b in
    let z = pow_pos b in
    let odd : q % 2 ≡ 1 = eqb-true (q % 2) 1 h in
    let is : w ≡ q * 2 ^ b + 0 = omega (arith, split w b, low_zero b w before) in
    let step : q ≡ (q - 1) + 1 = omega arith in
    let up : q * 2 ^ b ≡ (q - 1) * 2 ^ b + 1 * 2 ^ b = ap (λ n. n * 2 ^ b) step ∙ add-mul (q - 1) 1 (2 ^ b) in
    let less : w - 1 ≡ (q - 1) * 2 ^ b + (2 ^ b - 1) = omega arith in
    let halves : (q - 1) / 2 ≡ q / 2 = omega arith in
    let even : (q - 1) % 2 ≡ 0 = omega arith in
    let high : bit_and q (q - 1) ≡ q - 1 =
    and_step q (q - 1) ∙ ap (λ n. bit_and (q / 2) n * 2 + min (q % 2) ((q - 1) % 2)) halves ∙ ap (λ n. n * 2 + min (q % 2) ((q - 1) % 2)) (and_self (q / 2))
    ∙ ap (λ n. q / 2 * 2 + min (q % 2) n) even ∙ ap (λ n. q / 2 * 2 + min n 0) odd ∙ (omega arith) in
    let both : bit_and w (w - 1) ≡ (q - 1) * 2 ^ b =
    ap (λ n. bit_and n (w - 1)) is ∙ ap (λ n. bit_and (q * 2 ^ b + 0) n) less ∙ and_block b q (q - 1) 0 (2 ^ b - 1) z (omega arith)
    ∙ ap (λ n. n * 2 ^ b + bit_and 0 (2 ^ b - 1)) high ∙ ap (λ n. (q - 1) * 2 ^ b + n) (and_zero_l (2 ^ b - 1)) ∙ (omega arith) in
    omega (arith, cleared_value w b h)

-- past the end of a word there is no bit to clear
pub cleared_past : (w k b : ℕ) → w < 2 ^ k → k ≤ b → cleared w b ≡ w
cleared_past w k b h le =
    let p : 2 ^ k ≤ 2 ^ b = pow_mono le in
    let q : w < 2 ^ b = omega arith in
    let one : 2 ^ b ≡ 1 * 2 ^ b + 0 = omega arith in
    let none : w ≡ 0 * 2 ^ b + w = omega arith in
    let e : bit_and w (2 ^ b) ≡ 0 =
    ap (λ n. bit_and n (2 ^ b)) none ∙ ap (λ n. bit_and (0 * 2 ^ b + w) n) one ∙ and_block b 0 1 w 0 q (pow_pos b)
    ∙ ap (λ n. 0 * 2 ^ b + n) (and_zero_r w) ∙ (omega arith) in
    ap (bit_xor w) e ∙ xor_zero_r w

-- words with the same bits are equal
same_digit : (x y : ℕ) → x < 2 → y < 2 → eqb x 1 ≡ eqb y 1 → x ≡ y
same_digit x y h g = digit (λ x. eqb x 1 ≡ eqb y 1 → x ≡ y)
    (digit (λ y. eqb 0 1 ≡ eqb y 1 → 0 ≡ y) (λ e. refl) (λ e. absurd (false≢true e)) y g)
    (digit (λ y. eqb 1 1 ≡ eqb y 1 → 1 ≡ y) (λ e. absurd (true≢false e)) (λ e. refl) y g) x h

same_halves : (w v : ℕ) → on w 0 ≡ on v 0 → w / 2 ≡ v / 2 → w ≡ v
same_halves w v low high = omega (arith, high, bit_zero w, bit_zero v, same_digit (bit w 0) (bit v 0) (bit_lt w 0) (bit_lt v 0) low)

no_bits : (w : ℕ) → ((b : ℕ) → on w b ≡ false) → w ≡ 0
no_bits = bin_ind (λ w. ((b : ℕ) → on w b ≡ false) → w ≡ 0) (λ off. refl)
    (λ w half off. same_halves w 0 (off 0) (half (λ b. sym (on_suc w b) ∙ off (suc b))))

pub same_bits : (w v : ℕ) → ((b : ℕ) → on w b ≡ on v b) → w ≡ v
same_bits = bin_ind (λ w. (v : ℕ) → ((b : ℕ) → on w b ≡ on v b) → w ≡ v)
    (λ v same. sym (no_bits v (λ b. sym (same b) ∙ on_zero b)))
    (λ w half v same. same_halves w v (same 0) (half (v / 2) (λ b. sym (on_suc w b) ∙ same (suc b) ∙ on_suc v b)))
