-- Demand 2 for labels, and that the tables are the only ones, as statements: their proofs are `demand_2` and
-- `only_tables_of_network`. And when things get better, which is what demand 3 asks: labelling/specs/Demand3 has what it claims.
use Rattle.std.specs.Prelude.{ℕ, ◌≤◌, ◌<◌, ◌≡◌, List, ◌↔◌, get_or}
use Rattle.model.specs.Ticks.{day, never}
use Rattle.model.specs.Network.{Network, Accepted, arcs, intervals, roads_of, speeds_of, speed_on, net_of}
use Rattle.model.specs.Closures.{Closed}
use Rattle.model.specs.Walks.{Earliest}
use Rattle.model.specs.Labels.{labels_of, predecessors_of, Certified, Lowest}

-- "A junction's label is the least arrival over all walks from the source; the source's is the departure."
abbrev pub label : Network → ℕ → ℕ → ℕ → ℕ
label N source departure j = get_or (labels_of (net_of N) source departure) j never

-- On every accepted network each label is the earliest arrival over all walks: one attains it unless it is never, none arrives
-- sooner, also not by waiting, and where it is never no walk arrives by the last tick.
abbrev pub Demand2 : Type 0
Demand2 = (N : Network) → Accepted N → (source departure : ℕ) → source < N.junctions → departure < day →
    Earliest (net_of N) source departure (label N source departure)

-- On every accepted network the labels and the predecessors are the only tables that satisfy the conditions.
abbrev pub OnlyTablesOfNetwork : Type 0
OnlyTablesOfNetwork = (N : Network) → Accepted N → (source departure : ℕ) → source < N.junctions → departure < day →
    (labels predecessors : List ℕ) →
    (Certified (net_of N) source departure labels predecessors × Lowest (net_of N) source labels predecessors)
    ↔ ((labels ≡ labels_of (net_of N) source departure) × (predecessors ≡ predecessors_of (net_of N) source departure))

-- ---- When things get better

-- The second network has all that the first has, and every change is for the better: more junctions and arcs, no arc longer, none
-- slower in any interval, no hold greater, no further tick closed. The first network's junctions and arcs keep their numbers, and the second's
-- further ones follow them.
-- Document 02, order 2: "The rules on earliest arrival and on improvement speak of the repeating speeds." Both go by `speed_on`: see `NoTickSlower`.
-- Order 5: "The improvement rule now also asks that no hold is greater in the second network." Order 7: "For the improvement rule, every tick
-- closed in the second network on an arc of the first is closed on that arc in the first." It is asked of ticks: the lists may be quite different.
-- Order 8: "a tick is closed if it is closed to the asker": of a question, both networks are taken as the asker finds them (`network_for`).
pub record Improves (A B : Network) : Type 0 where
  pub same_fences : A.fences ≡ B.fences
  pub more_junctions : A.junctions ≤ B.junctions
  pub more_arcs : arcs A ≤ arcs B
  pub same_tail : (a : ℕ) → a < arcs A → get_or A.tails a 0 ≡ get_or B.tails a 0
  pub same_head : (a : ℕ) → a < arcs A → get_or A.heads a 0 ≡ get_or B.heads a 0
  pub no_longer : (a : ℕ) → a < arcs A → get_or B.lengths a 0 ≤ get_or A.lengths a 0
  pub no_greater_hold : (a : ℕ) → a < arcs A → get_or B.holds a 0 ≤ get_or A.holds a 0
  pub no_slower : (a k : ℕ) → a < arcs A → k < intervals A → get_or (speeds_of A a) k 0 ≤ get_or (speeds_of B a) k 0
  pub no_more_closed : (a t : ℕ) → a < arcs A → Closed B.closures a t → Closed A.closures a t

-- "A single claim about two whole networks with all its changes together" asks: both are accepted, the second improves on the first, and the
-- vehicle leaves no later in the second.
pub record GetsBetter (A B : Network) (early late : ℕ) : Type 0 where
  pub first_accepted : Accepted A
  pub second_accepted : Accepted B
  pub improves : Improves A B
  pub leaves_no_later : early ≤ late

-- Improved in every interval, and closed at no further tick, an arc is slower at no tick of any day.
abbrev pub NoTickSlower : Type 0
NoTickSlower = (A B : Network) → Improves A B → (a t : ℕ) → a < arcs A → speed_on (roads_of A) a t ≤ speed_on (roads_of B) a t
