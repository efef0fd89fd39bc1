-- A rule added pair by pair.
use Rattle.std.proofs.Common.{◌≡◌, ℕ, ◌+◌, Bool, true, false, not, ◌&&◌, ◌||◌, eqb, ltb, sym, refl, ap, ◌∙◌, arith}
use mathlib.Core.Path.{fun_ext}
use Rattle.std.proofs.lemmas.Bool.{and_parts, eqb-true, lt-ltb, eq-eqb}
use Rattle.std.proofs.lemmas.Bool.Decides.{nat_tests}
use Rattle.model.specs.Meaning.{Meaning, Lawful}
use Rattle.model.specs.Making.{with_join, with_ban, with_rule, with_part}
use Rattle.std.proofs.Math.Bool.{and-true, or-true}
use Rattle.model.proofs.Bools.{guarded}

-- meanings that agree on everything
pub same_meaning : (n : ℕ) (count : ℕ → ℕ) (x y : ℕ → ℕ → Bool) (f g : ℕ → ℕ → ℕ → ℕ → Bool) → ((k l : ℕ) → x k l ≡ y k l) → ((k c l d : ℕ) → f k c l d ≡ g k c l d)
    → ◌≡◌ {A = Meaning} (record { lines = n; count = count; joined = x; together = f }) (record { lines = n; count = count; joined = y; together = g })
same_meaning n count x y f g d e =
    ap (λ (t : ℕ → ℕ → Bool). record { lines = n; count = count; joined = t; together = f }) (fun_ext (λ k. fun_ext (λ l. d k l)))
    ∙ ap (λ (t : ℕ → ℕ → ℕ → ℕ → Bool). record { lines = n; count = count; joined = y; together = t })
    (fun_ext (λ k. fun_ext (λ c. fun_ext (λ l. fun_ext (λ d. e k c l d)))))

-- meanings that differ in what goes together alone
pub same_together : (m : Meaning) (f g : ℕ → ℕ → ℕ → ℕ → Bool) → ((k c l d : ℕ) → f k c l d ≡ g k c l d)
    → ◌≡◌ {A = Meaning} (record { lines = m.lines; count = m.count; joined = m.joined; together = f }) (record { lines = m.lines; count = m.count; joined = m.joined; together = g })
same_together m f g e = same_meaning m.lines m.count m.joined m.joined f g (λ k l. refl) e

-- one direction of a rule: D is done already, e is the pair to do next, F whether the rule allows it
half_skip : (pq D e F : Bool) → (e ≡ true → F ≡ true) → (not pq || (not (D || e) || F)) ≡ (not pq || (not D || F))
half_skip false D e F h = refl
half_skip true true e F h = refl
half_skip true false false F h = refl
half_skip true false true F h = h refl

half_ban : (pq D e F : Bool) → (e ≡ true → F ≡ false) → (not pq || (not (D || e) || F)) ≡ ((not pq || (not D || F)) && not (pq && e))
half_ban false D e F h = refl
half_ban true true true F h = h refl ∙ sym (ap (λ x. x && false) (h refl))
half_ban true true false true h = refl
half_ban true true false false h = refl
half_ban true false true F h = h refl
half_ban true false false F h = refl

both : (t x y u v : Bool) → ((t && (x && y)) && not (u || v)) ≡ (t && ((x && not u) && (y && not v)))
both false x y u v = refl
both true false y u v = refl
both true true false true v = refl
both true true false false v = refl
both true true true true v = refl
both true true true false v = refl

at_pair : (f : ℕ → ℕ → Bool) (a b c d : ℕ) (t : Bool) → f a b ≡ t → (eqb c a && eqb d b) ≡ true → f c d ≡ t
at_pair f a b c d t h e =
    let p = and_parts (eqb c a) (eqb d b) e in ap (λ x. f x d) (eqb-true c a p.0) ∙ ap (λ x. f a x) (eqb-true d b p.1) ∙ h

-- the pair (a, b) more
abbrev pub more : (ℕ → ℕ → Bool) → ℕ → ℕ → ℕ → ℕ → Bool
more done a b x y = done x y || (eqb x a && eqb y b)

pub part_skip : (i j : ℕ) (f done : ℕ → ℕ → Bool) (a b : ℕ) (m : Meaning) → f a b ≡ true → with_part i j f (more done a b) m ≡ with_part i j f done m
unfolding with_part
part_skip i j f done a b m h = same_together m _ _ (λ k c l d.
    ap (λ x. m.together k c l d && (x && (not (eqb k j && eqb l i) || (not (more done a b d c) || f d c))))
    (half_skip (eqb k i && eqb l j) (done c d) (eqb c a && eqb d b) (f c d) (at_pair f a b c d true h))
    ∙ ap (λ x. m.together k c l d && ((not (eqb k i && eqb l j) || (not (done c d) || f c d)) && x))
    (half_skip (eqb k j && eqb l i) (done d c) (eqb d a && eqb c b) (f d c) (at_pair f a b d c true h)))

pub part_ban : (i j : ℕ) (f done : ℕ → ℕ → Bool) (a b : ℕ) (m : Meaning) → f a b ≡ false → with_part i j f (more done a b) m ≡ with_ban i a j b (with_part i j f done m)
unfolding with_part with_ban
part_ban i j f done a b m h = same_together m _ _ (λ k c l d.
    ap (λ x. m.together k c l d && (x && (not (eqb k j && eqb l i) || (not (more done a b d c) || f d c))))
    (half_ban (eqb k i && eqb l j) (done c d) (eqb c a && eqb d b) (f c d) (at_pair f a b c d false h))
    ∙ ap (λ x. m.together k c l d && (((not (eqb k i && eqb l j) || (not (done c d) || f c d)) && not ((eqb k i && eqb l j) && (eqb c a && eqb d b))) && x))
    (half_ban (eqb k j && eqb l i) (done d c) (eqb d a && eqb c b) (f d c) (at_pair f a b d c false h))
    ∙ sym (both (m.together k c l d) (not (eqb k i && eqb l j) || (not (done c d) || f c d)) (not (eqb k j && eqb l i) || (not (done d c) || f d c))
    ((eqb k i && eqb l j) && (eqb c a && eqb d b)) ((eqb k j && eqb l i) && (eqb d a && eqb c b))))

-- what is done may be said in another way
pub part_done : (i j : ℕ) (f done done' : ℕ → ℕ → Bool) (m : Meaning) → ((x y : ℕ) → done x y ≡ done' x y) → with_part i j f done m ≡ with_part i j f done' m
part_done i j f done done' m e = ap (λ (t : ℕ → ℕ → Bool). with_part i j f t m) (fun_ext (λ x. fun_ext (λ y. e x y)))

half_none : (pq F : Bool) → (not pq || (not false || F)) ≡ true
half_none true F = refl
half_none false F = refl

pub part_none : (i j : ℕ) (f done : ℕ → ℕ → Bool) (m : Meaning) → ((x y : ℕ) → done x y ≡ false) → with_part i j f done m ≡ m
unfolding with_part
part_none i j f done m e = same_together m _ _ (λ k c l d.
    rw (e c d, e d c, half_none (eqb k i && eqb l j) (f c d), half_none (eqb k j && eqb l i) (f d c)) (and-true (m.together k c l d)))

half_join : (pq D e F : Bool) → ((not pq || (not D || F)) && (not pq || (not e || F))) ≡ (not pq || (not (D || e) || F))
half_join false D e F = refl
half_join true false e F = refl
half_join true true true true = refl
half_join true true false true = refl
half_join true true e false = refl

four : (t x y u v : Bool) → ((t && (x && y)) && (u && v)) ≡ (t && ((x && u) && (y && v)))
four false x y u v = refl
four true false y u v = refl
four true true false true v = refl
four true true false false v = refl
four true true true u v = refl

-- two parts one after the other
pub part_part : (i j : ℕ) (f done next : ℕ → ℕ → Bool) (m : Meaning) → with_part i j f next (with_part i j f done m) ≡ with_part i j f (λ x y. done x y || next x y) m
unfolding with_part
part_part i j f done next m = same_together m _ _ (λ k c l d.
    four (m.together k c l d) (not (eqb k i && eqb l j) || (not (done c d) || f c d)) (not (eqb k j && eqb l i) || (not (done d c) || f d c))
    (not (eqb k i && eqb l j) || (not (next c d) || f c d)) (not (eqb k j && eqb l i) || (not (next d c) || f d c))
    ∙ ap (λ x. m.together k c l d && (x && ((not (eqb k j && eqb l i) || (not (done d c) || f d c)) && (not (eqb k j && eqb l i) || (not (next d c) || f d c)))))
    (half_join (eqb k i && eqb l j) (done c d) (next c d) (f c d))
    ∙ ap (λ x. m.together k c l d && ((not (eqb k i && eqb l j) || (not (done c d || next c d) || f c d)) && x))
    (half_join (eqb k j && eqb l i) (done d c) (next d c) (f d c)))

half_all : (pq D F : Bool) → (pq ≡ true → D ≡ true) → (not pq || (not D || F)) ≡ (not pq || F)
half_all false D F h = refl
half_all true D F h = ap (λ x. not x || F) (h refl)

-- all pairs of options done: the whole rule
pub part_all : (i j : ℕ) (f : ℕ → ℕ → Bool) (m : Meaning) → Lawful m
    → with_part i j f (λ x y. ltb x (m.count i) && ltb y (m.count j)) (with_join i j m) ≡ with_rule i j f m
unfolding with_part with_join with_rule
part_all i j f m p = same_together (with_join i j m) _ _ (λ k c l d. guarded (m.together k c l d) _ _ (λ t.
    let r = p.proper.together k c l d t in
    let fore : (eqb k i && eqb l j) ≡ true → (ltb c (m.count i) && ltb d (m.count j)) ≡ true = λ e.
    let q = and_parts (eqb k i) (eqb l j) e in
    rw (ap (λ x. ltb c (m.count x)) (sym (eqb-true k i q.0)) ∙ lt-ltb c (m.count k) r.0.1, ap (λ x. ltb d (m.count x)) (sym (eqb-true l j q.1)) ∙ lt-ltb d (m.count l) r.1.1) in
    let back : (eqb k j && eqb l i) ≡ true → (ltb d (m.count i) && ltb c (m.count j)) ≡ true = λ e.
    let q = and_parts (eqb k j) (eqb l i) e in
    rw (ap (λ x. ltb d (m.count x)) (sym (eqb-true l i q.1)) ∙ lt-ltb d (m.count l) r.1.1, ap (λ x. ltb c (m.count x)) (sym (eqb-true k j q.0)) ∙ lt-ltb c (m.count k) r.0.1) in
    ap (λ x. x && (not (eqb k j && eqb l i) || (not (ltb d (m.count i) && ltb c (m.count j)) || f d c))) (half_all (eqb k i && eqb l j) (ltb c (m.count i) && ltb d (m.count j)) (f c d) fore)
    ∙ ap (λ x. (not (eqb k i && eqb l j) || f c d) && x) (half_all (eqb k j && eqb l i) (ltb d (m.count i) && ltb c (m.count j)) (f d c) back)))

-- what the steps leave as it is
pub record Frame (m n : Meaning) : Type 0 where
  pub lines : m.lines ≡ n.lines
  pub count : (k : ℕ) → m.count k ≡ n.count k
  pub joined : (k l : ℕ) → m.joined k l ≡ n.joined k l

pub part_frame : (i j : ℕ) (f done : ℕ → ℕ → Bool) (m n : Meaning) → m ≡ with_part i j f done n → Frame m n
unfolding with_part
part_frame i j f done m n e = record {
  lines = ap (λ x. x.lines) e;
  count = λ k. ap (λ x. x.count k) e;
  joined = λ k l. ap (λ x. x.joined k l) e;
}

-- the options below b of row a, and the rows below a
abbrev pub row : ℕ → ℕ → ℕ → ℕ → Bool
row a b x y = eqb x a && ltb y b

abbrev pub rows : ℕ → ℕ → ℕ → ℕ → Bool
rows a n x y = ltb x a && ltb y n

row_none : (a x y : ℕ) → row a 0 x y ≡ false
row_none a x y = grind (arith, nat_tests)

rows_none : (n x y : ℕ) → rows 0 n x y ≡ false
rows_none n x y = grind (arith, nat_tests)

row_more : (a b x y : ℕ) → more (row a b) a b x y ≡ row a (b + 1) x y
row_more a b x y = grind (arith, nat_tests)

rows_more : (a n x y : ℕ) → (rows a n x y || row a n x y) ≡ rows (a + 1) n x y
rows_more a n x y = grind (arith, nat_tests)

module _ (i j : ℕ) (f : ℕ → ℕ → Bool) (start : Meaning) where
  pub row_start : (a : ℕ) → start ≡ with_part i j f (row a 0) start
  row_start a = sym (part_none i j f (row a 0) start (row_none a))

  pub row_skip : (a b : ℕ) (m n : Meaning) → m ≡ with_part i j f (row a b) start → f a b ≡ true → n ≡ m → n ≡ with_part i j f (row a (b + 1)) start
  row_skip a b m n e h d = d ∙ e ∙ sym (part_skip i j f (row a b) a b start h) ∙ part_done i j f (more (row a b) a b) (row a (b + 1)) start (row_more a b)

  pub row_ban : (a b : ℕ) (m n : Meaning) → m ≡ with_part i j f (row a b) start → f a b ≡ false → n ≡ with_ban i a j b m → n ≡ with_part i j f (row a (b + 1)) start
  row_ban a b m n e h d =
      d ∙ ap (with_ban i a j b) e ∙ sym (part_ban i j f (row a b) a b start h) ∙ part_done i j f (more (row a b) a b) (row a (b + 1)) start (row_more a b)

  pub rows_start : (n : ℕ) → start ≡ with_part i j f (rows 0 n) start
  rows_start n = sym (part_none i j f (rows 0 n) start (rows_none n))

  pub rows_step : (a n : ℕ) (m m' : Meaning) → m ≡ with_part i j f (rows a n) start → m' ≡ with_part i j f (row a n) m → m' ≡ with_part i j f (rows (a + 1) n) start
  rows_step a n m m' e d =
      d ∙ ap (with_part i j f (row a n)) e ∙ part_part i j f (rows a n) (row a n) start
      ∙ part_done i j f (λ x y. rows a n x y || row a n x y) (rows (a + 1) n) start (rows_more a n)

-- joined first, then all rows
pub rows_all : (i j : ℕ) (f : ℕ → ℕ → Bool) (m start end : Meaning) → Lawful m → start ≡ with_join i j m → end ≡ with_part i j f (rows (m.count i) (m.count j)) start → end ≡ with_rule i j f m
rows_all i j f m start end p e d = d ∙ ap (with_part i j f (rows (m.count i) (m.count j))) e ∙ part_all i j f m p

pub join_facts : (i j : ℕ) (m n : Meaning) → m ≡ with_join i j n → (m.lines ≡ n.lines) × ((k : ℕ) → m.count k ≡ n.count k) × (m.joined i j ≡ true)
unfolding with_join
join_facts i j m n e =
    (ap (λ x. x.lines) e, (λ k. ap (λ x. x.count k) e), ap (λ x. x.joined i j) e ∙ rw (eq-eqb i i refl, eq-eqb j j refl) (or-true (n.joined i j)))
