-- What compiled words mean.
use Rattle.std.specs.Prelude.{ℕ, List, vec_items}
use Rattle.model.specs.Meaning.{Meaning}
use Rattle.model.specs.Words.{Compiled, words_meaning}
use Rattle.model.proofs.Props.{compiled_of}
use Rattle.supports.specs.declared.supports.Supports.{Supports}
use Rattle.supports.specs.Lines.{counts_of, joins_of}

-- the option count of each line
abbrev pub counts : Supports → List ℕ
counts s = counts_of (vec_items s.lines)

-- for each line the word of those that are joined with it
abbrev pub joins : Supports → List ℕ
joins s = joins_of (vec_items s.lines)

abbrev pub supports_meaning : Supports → Meaning
supports_meaning s = words_meaning (counts s) s.width (joins s) (vec_items s.words)

-- the words have their places, are clean, and mean a source
pub held : (s : Supports) → Compiled (counts s) s.width (joins s) (vec_items s.words)
held s = compiled_of (counts s) s.width (joins s) (vec_items s.words) s.good
