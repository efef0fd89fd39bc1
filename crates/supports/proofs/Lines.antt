-- Several lines, and their option counts and words of joined lines.
use Rattle.std.proofs.Common.{◌≡◌, ℕ, List, [], ◌∷◌, length, get_or, map, replicate, refl, ap}
use Rattle.std.proofs.Math.ListN.{get_or-map}
use Rattle.supports.specs.declared.supports.Line.{Line}
use Rattle.supports.specs.Lines.{counts_of, joins_of, no_line}

pub count_is : (ls : List Line) (i : ℕ) → get_or (counts_of ls) i 0 ≡ (get_or ls i no_line).count
count_is ls i = get_or-map (λ l. l.count) ls i no_line

pub joins_are : (ls : List Line) (i : ℕ) → get_or (joins_of ls) i 0 ≡ (get_or ls i no_line).joins
joins_are ls i = get_or-map (λ l. l.joins) ls i no_line

-- lines of these counts, joined with none
abbrev pub free : ℕ → Line
free c = record { count = c; joins = 0 }

pub free_counts : (cs : List ℕ) → counts_of (map free cs) ≡ cs
free_counts [] = refl
free_counts (c ∷ cs) = ap (λ xs. c ∷ xs) (free_counts cs)

pub free_joins : (cs : List ℕ) → joins_of (map free cs) ≡ replicate (length cs) 0
free_joins [] = refl
free_joins (c ∷ cs) = ap (λ xs. 0 ∷ xs) (free_joins cs)
