-- Lines that wait in a queue, by their tickets: a line waits while it has one, and the waiting line with
-- the least one is the first.
use Rattle.std.specs.Prelude.{◌≡◌, ℕ, ◌+◌, ◌^◌, ◌<◌, ◌≤◌, Bool, true, List, Some, None, Option, slice_index_or}

-- the ticket of line i, if it has one
abbrev pub ticket : List (Option ℕ) → ℕ → Option ℕ
ticket ts i = slice_index_or ts i None

-- no line waits
abbrev pub NoneWaits : List (Option ℕ) → Type 0
NoneWaits ts = (i : ℕ) → ticket ts i ≡ None

-- line i waits
abbrev pub Waits : List (Option ℕ) → ℕ → Type 0
Waits ts i = (t : ℕ) × (ticket ts i ≡ Some t)

-- line i is the first that waits
abbrev pub First : List (Option ℕ) → ℕ → Type 0
First ts i = (t : ℕ) × (ticket ts i ≡ Some t) × ((j u : ℕ) → ticket ts j ≡ Some u → t ≤ u)

-- no line has a ticket after `last`
abbrev pub UpTo : List (Option ℕ) → ℕ → Type 0
UpTo ts last = (i t : ℕ) → ticket ts i ≡ Some t → t ≤ last

-- line i is one of the first n, is touched, and does not wait
abbrev pub ToWake : ℕ → (ℕ → Bool) → List (Option ℕ) → ℕ → Type 0
ToWake n touched ts i = (i < n) × (touched i ≡ true) × (ticket ts i ≡ None)

-- the tickets of the woken lines come after `last`, by line number, at most one for each of the n
pub record AtEnd (n : ℕ) (touched : ℕ → Bool) (ts us : List (Option ℕ)) (last next : ℕ) : Type 0 where
  pub from : last ≤ next
  pub few : next ≤ last + n
  pub after : (i t : ℕ) → ToWake n touched ts i → ticket us i ≡ Some t → last < t
  pub by_number : (i j t u : ℕ) → i < j → ToWake n touched ts i → ToWake n touched ts j → ticket us i ≡ Some t → ticket us j ≡ Some u → t < u

-- Waking the touched ones of the first n lines makes the tickets ts, up to `last`, to us, up to `next`:
-- lines that waited keep their tickets, those to wake wait now, at the end as long as there are tickets,
-- and no others do.
pub record Woken (n : ℕ) (touched : ℕ → Bool) (ts us : List (Option ℕ)) (last next : ℕ) : Type 0 where
  pub stay : (i t : ℕ) → ticket ts i ≡ Some t → ticket us i ≡ Some t
  pub wait : (i : ℕ) → ToWake n touched ts i → Waits us i
  pub others : (i : ℕ) → ticket ts i ≡ None → (ToWake n touched ts i → ⊥) → ticket us i ≡ None
  pub up_to : UpTo us next
  pub at_end : last + n < 2 ^ 64 → AtEnd n touched ts us last next
