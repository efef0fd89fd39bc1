-- What option counts and records mean, where each record joins two lines and allows some pairs of
-- their options; and the steps in which such a meaning is made.
use Rattle.std.specs.Prelude.{ℕ, Bool, true, false, cond, not, ◌&&◌, ◌||◌, List, [], ◌∷◌, length, ◌==◌, nat_le, nat_lt, slice_index}
use Rattle.model.specs.Meaning.{Meaning}

-- of n lines, the lines i and j exist and differ
abbrev pub two_of : ℕ → ℕ → ℕ → Bool
two_of n i j = nat_lt i n && (nat_lt j n && not (i == j))

-- the same of the lines with these option counts
abbrev pub two_lines : List ℕ → ℕ → ℕ → Bool
two_lines cs i j = two_of (length cs) i j

-- and both options exist
abbrev pub two_options : List ℕ → ℕ → ℕ → ℕ → ℕ → Bool
two_options cs i a j b = two_lines cs i j && (nat_lt a (slice_index cs i) && nat_lt b (slice_index cs j))

-- each count is 1 to 64
abbrev pub counts_ok : List ℕ → Bool
counts_ok [] = true
counts_ok (c ∷ cs) = (nat_lt 0 c && nat_le c 64) && counts_ok cs

-- no rules: no lines are joined, and all options of two lines go together
unfoldable pub no_rules : List ℕ → Meaning
no_rules cs = record {
  lines = length cs;
  count = λ i. slice_index cs i;
  joined = λ i j. false;
  together = two_options cs;
}

-- the bare source: one line, one option, no rules
abbrev pub bare : Meaning
bare = record {
  lines = 1;
  count = λ i. cond (i == 0) 1 0;
  joined = λ i j. false;
  together = λ i a j b. false;
}

-- the lines k and l are i and j, in either order
abbrev pub same_lines : ℕ → ℕ → ℕ → ℕ → Bool
same_lines i j k l = (k == i && l == j) || (k == j && l == i)

-- a rule f between the options of line i and of line j allows c of k with d of l, whichever line is named first
abbrev pub allowed : ℕ → ℕ → (ℕ → ℕ → Bool) → ℕ → ℕ → ℕ → ℕ → Bool
allowed i j f k c l d = (not (k == i && l == j) || f c d) && (not (k == j && l == i) || f d c)

-- one rule more: it joins the lines i and j, and options go together that it allows too
unfoldable pub with_rule : ℕ → ℕ → (ℕ → ℕ → Bool) → Meaning → Meaning
with_rule i j f m = record {
  lines = m.lines;
  count = m.count;
  joined = λ k l. m.joined k l || same_lines i j k l;
  together = λ k c l d. m.together k c l d && allowed i j f k c l d;
}

module _ {R : Type 0} (first second : R → ℕ) (f : R → ℕ → ℕ → Bool) where
  -- some record names the two lines
  abbrev pub joins : List R → ℕ → ℕ → Bool
  joins [] i j = false
  joins (r ∷ rs) i j = same_lines (first r) (second r) i j || joins rs i j

  -- every record that names the two lines, in either order, allows the two options
  abbrev pub allows : List R → ℕ → ℕ → ℕ → ℕ → Bool
  allows [] i a j b = true
  allows (r ∷ rs) i a j b = allowed (first r) (second r) (f r) i a j b && allows rs i a j b

  -- lines are joined if some record names them, and options go together if they exist and every
  -- record of their lines allows them
  unfoldable pub records_meaning : List ℕ → List R → Meaning
  records_meaning cs rs = record {
    lines = length cs;
    count = λ i. slice_index cs i;
    joined = joins rs;
    together = λ i a j b. two_options cs i a j b && allows rs i a j b;
  }

  -- one record more
  abbrev pub adding : Meaning → R → Meaning
  adding m r = with_rule (first r) (second r) (f r) m

-- the lines i and j joined
unfoldable pub with_join : ℕ → ℕ → Meaning → Meaning
with_join i j m = record {
  lines = m.lines;
  count = m.count;
  joined = λ k l. m.joined k l || same_lines i j k l;
  together = m.together;
}

-- option c of line k and option d of line l are a of i and b of j, in either order
abbrev pub same_options : ℕ → ℕ → ℕ → ℕ → ℕ → ℕ → ℕ → ℕ → Bool
same_options i a j b k c l d =
    ((k == i && l == j) && (c == a && d == b)) || ((k == j && l == i) && (d == a && c == b))

-- option a of line i and option b of line j forbidden
unfoldable pub with_ban : ℕ → ℕ → ℕ → ℕ → Meaning → Meaning
with_ban i a j b m = record {
  lines = m.lines;
  count = m.count;
  joined = m.joined;
  together = λ k c l d. m.together k c l d && not (same_options i a j b k c l d);
}

-- the rule on those pairs of options alone that are done
unfoldable pub with_part : ℕ → ℕ → (ℕ → ℕ → Bool) → (ℕ → ℕ → Bool) → Meaning → Meaning
with_part i j f done m = record {
  lines = m.lines;
  count = m.count;
  joined = m.joined;
  together = λ k c l d. m.together k c l d && allowed i j (λ x y. not (done x y) || f x y) k c l d;
}
