-- What two sources mean as one.
use Rattle.std.specs.Prelude.{Bool, cond, not, ◌&&◌, ◌||◌, nat_lt}
use Rattle.model.specs.Meaning.{Meaning}
use Rattle.model.specs.Making.{bare}

-- lines are joined if either source joins them, and options go together if both say so
abbrev pub both : Meaning → Meaning → Meaning
both m n = record {
  lines = m.lines;
  count = m.count;
  joined = λ i j. m.joined i j || n.joined i j;
  together = λ i a j b. m.together i a j b && n.together i a j b;
}

-- the same where n is read only of lines of m that it joins, so that it has the facts of a source
-- whatever the counts of n are; where the counts are equal it is `both`
abbrev pub clipped : Meaning → Meaning → Meaning
clipped m n = record {
  lines = m.lines;
  count = m.count;
  joined = λ i j. m.joined i j || (n.joined i j && (nat_lt i m.lines && nat_lt j m.lines));
  together = λ i a j b. m.together i a j b && (not (n.joined i j) || n.together i a j b);
}

-- the two as one if they are found alike, and else the bare source
abbrev pub joint : Bool → Meaning → Meaning → Meaning
joint alike m n = cond alike (clipped m n) bare
