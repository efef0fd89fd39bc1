-- The option counts and the words of joined lines of several lines.
use Rattle.std.specs.Prelude.{ℕ, List, map}
use Rattle.supports.specs.declared.supports.Line.{Line}

abbrev pub counts_of : List Line → List ℕ
counts_of ls = map (λ l. l.count) ls

abbrev pub joins_of : List Line → List ℕ
joins_of ls = map (λ l. l.joins) ls

-- a line with no options, joined with none
abbrev pub no_line : Line
no_line = record { count = 0; joins = 0 }
