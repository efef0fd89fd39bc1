-- The bits of a word.
use Rattle.std.specs.Prelude.{ℕ, ◌/◌, ◌%◌, ◌^◌, Bool, ◌==◌, bit_and, bit_or, bit_xor}

-- bit b of the word w, 0 or 1
abbrev pub bit : ℕ → ℕ → ℕ
bit w b = w / 2 ^ b % 2

-- whether bit b of the word w is set
abbrev pub on : ℕ → ℕ → Bool
on w b = bit w b == 1

-- w without bit b
abbrev pub cleared : ℕ → ℕ → ℕ
cleared w b = bit_xor w (bit_and w (2 ^ b))

-- w with bit b
abbrev pub marked : ℕ → ℕ → ℕ
marked w b = bit_or w (2 ^ b)
