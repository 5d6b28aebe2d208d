-- The route: "the arc numbers in driving order, found by following predecessors"; "from the source to itself: 0 arcs".
use Rattle.std.specs.Prelude.{ℕ, zero, suc, ◌≤◌, ◌<◌, ◌≡◌, cond, List, [], ◌∷◌, ◌++◌, map, reverse, ◌↔◌, eqb, length, get_or}
use Rattle.model.specs.Ticks.{last, day, never}
use Rattle.model.specs.Walks.{Net, Sound, Arrives}
use Rattle.model.specs.Labels.{no_arc, labels_of, predecessors_of}
use Rattle.model.specs.Closures.{Closed}
use Rattle.model.specs.Network.{Network, closed_by, Accepted, net_of}
use Rattle.model.specs.Demands.{label}
use Rattle.model.specs.declared.closure.Closure.{Closure}

-- The arcs found by following predecessors from a junction back to the source, the last arc first, and at most so many: none
-- at the source; else the junction's predecessor, and then on from its tail.
unfoldable pub arcs_back : (ℕ → ℕ) → ℕ → List ℕ → ℕ → ℕ → List ℕ
arcs_back tail source predecessors zero j = []
arcs_back tail source predecessors (suc most) j =
    let a = get_or predecessors j no_arc in
    let before = arcs_back tail source predecessors most (tail a) in
    cond (eqb j source) [] (a ∷ before)

-- The route to a junction: its arcs in driving order. The bound cuts no route of a reached junction short.
unfoldable pub route_of : Net → ℕ → ℕ → ℕ → List ℕ
route_of N source departure j = reverse (arcs_back N.tail source (predecessors_of N source departure) N.junctions j)

-- A vehicle that leaves the source at the departure and drives the arcs of a list in order, head to tail, each of them by the last tick,
-- stands at a junction at a tick.
pub data Driven (N : Net) (source departure : ℕ) : List ℕ → ℕ → ℕ → Type 0 where
  start : Driven N source departure [] source departure
  along : (a : ℕ) {arcs : List ℕ} {t : ℕ} → Driven N source departure arcs (N.tail a) t → a < N.arcs → N.drive a t ≤ last →
      Driven N source departure (arcs ++ (a ∷ [])) (N.head a) (N.drive a t)

-- The junctions that a list of arcs passes: the source, and the head of each arc.
unfoldable pub stops : Net → ℕ → List ℕ → List ℕ
stops N source arcs = source ∷ map N.head arcs

-- Any two places of the list hold different numbers.
abbrev pub AllDiffer : List ℕ → Type 0
AllDiffer xs = (i k : ℕ) → i < k → k < length xs → get_or xs i 0 ≡ get_or xs k 0 → ⊥

-- ---- What is proved of them

-- Who drives a list of arcs goes a walk, so that nobody who does arrives before the label.
abbrev pub DrivenIsWalk : Type 0
DrivenIsWalk = (N : Net) (source departure : ℕ) (arcs : List ℕ) (j t : ℕ) → Driven N source departure arcs j t → Arrives N source departure j t

-- ---- Other closures

-- Closed is the union of the records' ticks: two lists that close the same ticks of the same arcs give the same labels, predecessors and routes.
abbrev pub ClosuresAreUnion : Type 0
ClosuresAreUnion = (N : Network) (closures : List Closure) → ((a t : ℕ) → Closed N.closures a t ↔ Closed closures a t) → (source departure : ℕ) →
    (labels_of (net_of N) source departure ≡ labels_of (net_of (closed_by N closures)) source departure)
    × (predecessors_of (net_of N) source departure ≡ predecessors_of (net_of (closed_by N closures)) source departure)
    × ((j : ℕ) → route_of (net_of N) source departure j ≡ route_of (net_of (closed_by N closures)) source departure j)

-- ---- For every junction that is reached

-- The route is driven, and arrives at the junction at its label.
abbrev pub RouteAttains : Type 0
RouteAttains = (N : Net) → Sound N → (source departure : ℕ) → source < N.junctions → departure ≤ last →
    (j : ℕ) → j < N.junctions → (get_or (labels_of N source departure) j never ≡ never → ⊥) →
    Driven N source departure (route_of N source departure j) j (get_or (labels_of N source departure) j never)

-- The route has fewer arcs than there are junctions.
abbrev pub RouteIsShort : Type 0
RouteIsShort = (N : Net) → Sound N → (source departure : ℕ) → source < N.junctions → departure ≤ last →
    (j : ℕ) → j < N.junctions → (get_or (labels_of N source departure) j never ≡ never → ⊥) →
    length (route_of N source departure j) < N.junctions

-- No junction is passed twice.
abbrev pub RoutePassesOnce : Type 0
RoutePassesOnce = (N : Net) → Sound N → (source departure : ℕ) → source < N.junctions → departure ≤ last →
    (j : ℕ) → j < N.junctions → (get_or (labels_of N source departure) j never ≡ never → ⊥) →
    AllDiffer (stops N source (route_of N source departure j))

-- On every accepted network the route to a reached junction is driven, arrives there at its label, and has fewer arcs than
-- there are junctions.
abbrev pub Demand2OfRoute : Type 0
Demand2OfRoute = (N : Network) → Accepted N → (source departure : ℕ) → source < N.junctions → departure < day →
    (j : ℕ) → j < N.junctions → (label N source departure j ≡ never → ⊥) →
    Driven (net_of N) source departure (route_of (net_of N) source departure j) j (label N source departure j)
    × (length (route_of (net_of N) source departure j) < N.junctions)
