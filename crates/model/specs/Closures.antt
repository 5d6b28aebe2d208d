-- Document 02, order 7: "The closures come as a list of records, each with an arc, a first tick and an end tick, 64 at most. From the first tick
-- up to but not including the end tick, the speed on that arc is 0; a vehicle already on it stands. These are real ticks and do not repeat at
-- midnight." Order 8: "Each closure gets a party: 0 for both, 1 for the brigade, 2 for the depot." Whom that stops is in Parties.
use Rattle.std.specs.Prelude.{ℕ, ◌+◌, ◌≤◌, ◌<◌, ◌≡◌, Bool, true, false, ◌&&◌, ◌||◌, cond, List, [], ◌∷◌, map, ◌↔◌, leb, ltb, eqb, length, get_or}
use Rattle.model.specs.Ticks.{last}
use Rattle.model.specs.Flow.{covered}
use Rattle.model.specs.declared.closure.Closure.{Closure}

-- Stands where a list has no further record. It closes nothing.
abbrev pub no_closure : Closure
no_closure = record { arc = 0; first = 0; end = 0; party = 0 }

-- A record closes a tick of an arc.
pub record Closes (c : Closure) (a t : ℕ) : Type 0 where
  pub its_arc : c.arc ≡ a
  pub from_first : c.first ≤ t
  pub before_end : t < c.end

-- Some record of the list has this arc, and its ticks contain this one. Records may overlap, adjoin, repeat each other and stand in any order.
abbrev pub Closed : List Closure → ℕ → ℕ → Type 0
Closed closures a t = (k : ℕ) × (k < length closures) × Closes (get_or closures k no_closure) a t

-- The same as a test.
abbrev pub closes? : Closure → ℕ → ℕ → Bool
closes? c a t = eqb c.arc a && leb c.first t && ltb t c.end

unfoldable pub closed? : List Closure → ℕ → ℕ → Bool
closed? [] a t = false
closed? (c ∷ closures) a t = closes? c a t || closed? closures a t

-- The speed of a tick on arc a, where it is v without closures: 0 where the arc is closed.
unfoldable pub with_closures : List Closure → ℕ → (ℕ → ℕ) → ℕ → ℕ
with_closures closures a v = λ t. cond (closed? closures a t) 0 (v t)

-- ---- The rules

-- "64 at most."
abbrev pub max_closures : ℕ
max_closures = 64

-- "37, a record with an unknown arc, a first tick not below its end, or an end above the last tick."
abbrev pub closure_keeps_lem : ℕ → Closure → Bool
closure_keeps_lem arcs c = ltb c.arc arcs && ltb c.first c.end && leb c.end last

-- "38, a record's party above 2."
abbrev pub max_party : ℕ
max_party = 2

abbrev pub party_keeps : Closure → Bool
party_keeps c = leb c.party max_party

-- The same of the whole list, in plain words.
pub record ClosuresKept (arcs : ℕ) (closures : List Closure) : Type 0 where
  pub at_most : length closures ≤ max_closures
  pub known_arc : (k : ℕ) → k < length closures → (get_or closures k no_closure).arc < arcs
  pub first_below_end : (k : ℕ) → k < length closures → (get_or closures k no_closure).first < (get_or closures k no_closure).end
  pub by_last : (k : ℕ) → k < length closures → (get_or closures k no_closure).end ≤ last
  pub known_party : (k : ℕ) → k < length closures → (get_or closures k no_closure).party ≤ max_party

-- ---- In a flat table

-- A closure's row: its arc, its first tick, its end tick and its party.
abbrev pub closure_of : List ℕ → Closure
closure_of row = record { arc = get_or row 0 0; first = get_or row 1 0; end = get_or row 2 0; party = get_or row 3 0 }

abbrev pub closures_of : List (List ℕ) → List Closure
closures_of rows = map closure_of rows

-- ---- What is proved of them

abbrev pub ClosedWhenTested : Type 0
ClosedWhenTested = (closures : List Closure) (a t : ℕ) → (closed? closures a t ≡ true) ↔ Closed closures a t

-- "A vehicle already on it stands": over ticks that are all closed it covers nothing.
abbrev pub StandsWhileClosed : Type 0
StandsWhileClosed = (closures : List Closure) (a : ℕ) (v : ℕ → ℕ) (s n : ℕ) → ((t : ℕ) → s ≤ t → t < s + n → Closed closures a t) →
    covered (with_closures closures a v) s n ≡ 0
