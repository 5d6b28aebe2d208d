-- The arcs of a tail, in rising order.
use Rattle.std.specs.Prelude.{ℕ, suc, ◌<◌, ◌≡◌, cond, List, [], ◌∷◌, eqb, length, get_or, drop}
use Rattle.model.specs.Limits.{max_junctions}
use Rattle.model.specs.Labels.{no_arc}

-- The first arc with this tail, where the list's first arc has the number a, or none.
unfoldable pub first_arc : List ℕ → ℕ → ℕ → ℕ
first_arc [] tail a = no_arc
first_arc (t ∷ tails) tail a = cond (eqb t tail) a (first_arc tails tail (suc a))

-- The same from arc a of the table on.
abbrev pub arc_from : List ℕ → ℕ → ℕ → ℕ
arc_from tails tail a = first_arc (drop a tails) tail a

-- From each tail to its first arc, and from each arc to the next with the same tail.
pub record Linked (tails first next : List ℕ) : Type 0 where
  pub first_is : (tail : ℕ) → tail < max_junctions → get_or first tail 0 ≡ arc_from tails tail 0
  pub next_is : (a : ℕ) → a < length tails → get_or next a 0 ≡ arc_from tails (get_or tails a 0) (suc a)
