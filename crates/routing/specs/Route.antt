-- "Route (network, source, departure, destination, lent arc list). 1 to 10; 12, destination not below the junction count; 13,
-- destination unreached; 14, the list is shorter than the route. Otherwise the number of arcs, and at the list's start the arc
-- numbers in driving order, found by following predecessors; later entries are unchanged. From the source to itself: 0 arcs." By
-- document 02, order 5, 32 stands after 8, and by orders 7 and 8, 36 to 39 after it. The network has the whole list of closures; the route is
-- that of the network as the asker finds it.
use Rattle.std.specs.Prelude.{ℕ, ◌≤◌, ◌<◌, ◌≡◌, not, List, [], ◌∷◌, ◌++◌, ◌↔◌, ltb, eqb, length, take, Option, None, Some, Result, Ok, Err}
use Rattle.model.specs.Ticks.{never}
use Rattle.model.specs.Network.{Network, network_for, net_of}
use Rattle.model.specs.Parties.{KnownAsker}
use Rattle.model.specs.Demands.{label}
use Rattle.model.specs.Routes.{route_of, Driven}
use Rattle.refusals.specs.Refusals.{number_of}
use Rattle.model.specs.Rules.{Outcome, refused, replied, Rule, ◌if◌, first_broken, after, written}
use Rattle.checking.specs.Question.{question_rules, Taken}
use Rattle.refusals.specs.declared.refusal.Refusal.{Refusal}
use Rattle.routing.specs.declared.route.Routed.{Routed}

-- What Route comes to: the number of arcs, or a refusal.
abbrev pub route_outcome : Result Routed Refusal → Outcome ℕ
route_outcome (Ok route) = replied route.count
route_outcome (Err refusal) = refused (number_of refusal)

-- What the answer says of the arrival: a refusal says nothing.
abbrev pub arrival_of : Result Routed Refusal → Option ℕ
arrival_of (Ok route) = Some route.arrival
arrival_of (Err refusal) = None

-- The rule on the destination, after those of the question; and those on what is then found, in the network as the asker finds it.
abbrev pub destination_rules : Network → ℕ → List Rule
destination_rules N destination = (12 if not (ltb destination N.junctions)) ∷ []

abbrev pub found_rules : Network → ℕ → ℕ → ℕ → List ℕ → List Rule
found_rules N source departure destination arcs =
    (13 if eqb (label N source departure destination) never)
    ∷ (14 if ltb (length arcs) (length (route_of (net_of N) source departure destination)))
    ∷ []

unfoldable pub route_answer : Network → ℕ → ℕ → ℕ → ℕ → List ℕ → Outcome ℕ
route_answer N asker source departure destination arcs =
    first_broken (question_rules N asker source departure ++ (destination_rules N destination ++ found_rules (network_for N asker) source departure destination arcs))
    (length (route_of (net_of (network_for N asker)) source departure destination))

-- Where the call replies, the destination's label.
abbrev pub with_reply : Outcome ℕ → ℕ → Option ℕ
with_reply (refused number) arrival = None
with_reply (replied count) arrival = Some arrival

abbrev pub route_arrival : Network → ℕ → ℕ → ℕ → ℕ → List ℕ → Option ℕ
route_arrival N asker source departure destination arcs =
    with_reply (route_answer N asker source departure destination arcs) (label (network_for N asker) source departure destination)

abbrev pub arcs_after : Network → ℕ → ℕ → ℕ → ℕ → List ℕ → List ℕ
arcs_after N asker source departure destination arcs =
    after (route_answer N asker source departure destination arcs) (written (route_of (net_of (network_for N asker)) source departure destination) arcs) arcs

-- ---- What is proved of it

-- What Route asks: an asker that is known, a question that is taken, a destination that is reached, and a list long enough.
pub record Routable (N : Network) (asker source departure destination : ℕ) (arcs : List ℕ) : Type 0 where
  pub known_asker : KnownAsker asker
  pub taken : Taken N source departure
  pub destination_below : destination < N.junctions
  pub reached : label (network_for N asker) source departure destination ≡ never → ⊥
  pub long_enough : length arcs < length (route_of (net_of (network_for N asker)) source departure destination) → ⊥

-- Route replies exactly then, and replies the number of arcs.
abbrev pub RouteRepliesWhenRoutable : Type 0
RouteRepliesWhenRoutable = (N : Network) (asker source departure destination : ℕ) (arcs : List ℕ) (count : ℕ) →
    (route_answer N asker source departure destination arcs ≡ replied count)
    ↔ (Routable N asker source departure destination arcs × (count ≡ length (route_of (net_of (network_for N asker)) source departure destination)))

-- Demand 2 of the list that a call which replies leaves: its first entries, as many as the reply says, are driven from the
-- source to the destination and arrive there at its label; and they are fewer than the junctions.
abbrev pub Demand2OfRouteCall : Type 0
Demand2OfRouteCall = (N : Network) (asker source departure destination : ℕ) (arcs : List ℕ) (count : ℕ) →
    route_answer N asker source departure destination arcs ≡ replied count →
    Driven (net_of (network_for N asker)) source departure (take count (arcs_after N asker source departure destination arcs))
    destination (label (network_for N asker) source departure destination)
    × (count < N.junctions)

-- A list of 199 is never too short: with it Route replies for every destination that is reached.
abbrev pub RoomForEveryRoute : Type 0
RoomForEveryRoute = (N : Network) (asker source departure destination : ℕ) (arcs : List ℕ) →
    KnownAsker asker → Taken N source departure → destination < N.junctions →
    (label (network_for N asker) source departure destination ≡ never → ⊥) → 199 ≤ length arcs →
    route_answer N asker source departure destination arcs ≡ replied (length (route_of (net_of (network_for N asker)) source departure destination))

-- "From the source to itself: 0 arcs." The reply is 0 and the list is as it was, however short it is.
abbrev pub RouteToSource : Type 0
RouteToSource = (N : Network) (asker source departure : ℕ) (arcs : List ℕ) → KnownAsker asker → Taken N source departure →
    (route_answer N asker source departure source arcs ≡ replied 0) × (arcs_after N asker source departure source arcs ≡ arcs)
