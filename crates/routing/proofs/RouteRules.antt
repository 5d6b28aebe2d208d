-- Route's rules: where one is broken the call is refused; where none is, the plain conditions hold, and the demand holds of the list
-- that the call leaves.
use Prim.Native.Nat.{ℕ, ◌≤◌, ◌<◌}
use mathlib.Core.Path.{◌≡◌, sym, ap, ◌∙◌}
use mathlib.Core.List.{List, ◌++◌}
use native.Mathlib.Omega.{arith}
use lib.Dec.{ltb}
use lib.ListN.{length, drop}
use lib.Seq.{take-append_seam}
use borrow.Author.Tests.{not-false, ltb-true, ltb-false, eqb-false, lt-ltb, le-ltb, ne_eqb}
use Rattle.model.specs.Ticks.{never}
use Rattle.model.specs.Walks.{start}
use Rattle.model.specs.Network.{Network, network_for, net_of}
use Rattle.model.specs.Demands.{label}
use Rattle.model.specs.Routes.{route_of}
use Rattle.model.specs.Rules.{replied, Rule, first_broken, AllKept}
use Rattle.model.proofs.Demands.{demand_2}
use Rattle.model.proofs.Routes.{demand_2_of_route, route_source}
use Rattle.model.proofs.Rules.{kept_replies, replies_kept, kept_before, kept_append}
use Rattle.checking.specs.Question.{question_rules}
use Rattle.checking.proofs.QuestionRules.{kept_taken, taken_kept, taken_for}
use Rattle.routing.specs.Route.{destination_rules, found_rules, route_answer, Routable, RouteRepliesWhenRoutable, Demand2OfRouteCall, RoomForEveryRoute, RouteToSource}

module _ (N : Network) (asker source departure destination : ℕ) (arcs : List ℕ) where
  -- The network as the asker finds it.
  abbrev M : Network
  M = network_for N asker

  abbrev pub route : List ℕ
  route = route_of (net_of M) source departure destination

  abbrev question : List Rule
  question = question_rules N asker source departure

  -- The rules after those of the question: 12 to 14.
  abbrev pub own : List Rule
  own = destination_rules N destination ++ found_rules M source departure destination arcs

  -- Where the question is taken they decide.
  pub own_decides : AllKept question → route_answer N asker source departure destination arcs ≡ first_broken own (length route)
  unfolding route_answer
  own_decides taken = kept_before question own (length route) taken

  kept_routable : AllKept question → AllKept own → Routable N asker source departure destination arcs
  kept_routable taken kept = record {
    known_asker = (kept_taken N asker source departure taken).0;
    taken = (kept_taken N asker source departure taken).1;
    destination_below = ltb-true destination N.junctions (not-false (ltb destination N.junctions) kept.0);
    reached = eqb-false (label M source departure destination) never kept.1.0;
    long_enough = λ h. omega (arith, ltb-false (length arcs) (length route) kept.1.1.0);
  }

  answered : (count : ℕ) → route_answer N asker source departure destination arcs ≡ replied count → Routable N asker source departure destination arcs × (count ≡ length route)
  unfolding route_answer
  answered count e =
      let all = replies_kept (question ++ own) (length route) count e in
      let parts = kept_append question own all in
      let answer = kept_replies (question ++ own) (length route) all in
      (kept_routable parts.0 parts.1, cc)

  pub replies : AllKept question → destination < N.junctions → (label M source departure destination ≡ never → ⊥) → length route ≤ length arcs →
      route_answer N asker source departure destination arcs ≡ replied (length route)
  unfolding first_broken
  replies taken below reached room =
      own_decides taken
      ∙ rw (lt-ltb destination N.junctions below, ne_eqb (label M source departure destination) never reached, le-ltb (length arcs) (length route) room)

  routable_replies : Routable N asker source departure destination arcs → route_answer N asker source departure destination arcs ≡ replied (length route)
  routable_replies r =
      replies (taken_kept N asker source departure r.known_asker r.taken) r.destination_below r.reached (omega (arith, r.long_enough))

-- ---- The statements

pub route_replies_when_routable : RouteRepliesWhenRoutable
route_replies_when_routable N asker source departure destination arcs count = (
  answered N asker source departure destination arcs count,
  (λ h. routable_replies N asker source departure destination arcs h.0 ∙ ap replied (sym h.1)),
)

pub demand_2_of_route_call : Demand2OfRouteCall
demand_2_of_route_call N asker source departure destination arcs count e =
    let a = answered N asker source departure destination arcs count e in
    let r = a.0 in
    let way = route N asker source departure destination arcs in
    let t = taken_for asker r.taken in
    let d = demand_2_of_route (network_for N asker) t.accepted source departure t.source_below t.departure_below destination r.destination_below r.reached in
    (rw (e, a.1, take-append_seam way (drop (length way) arcs)) d.0, omega (arith, d.1, a.1))

pub room_for_every_route : RoomForEveryRoute
room_for_every_route N asker source departure destination arcs known taken destination_below reached room =
    let t = taken_for asker taken in
    let d = demand_2_of_route (network_for N asker) t.accepted source departure t.source_below t.departure_below destination destination_below reached in
    replies N asker source departure destination arcs (taken_kept N asker source departure known taken) destination_below reached
    (omega (arith, d.1, taken.accepted.junctions_fit))

-- The source is reached, at the departure, by the walk of no arcs, and its route is empty.
pub route_to_source : RouteToSource
route_to_source N asker source departure arcs known taken =
    let M = network_for N asker in
    let t = taken_for asker taken in
    let empty = route_source (net_of M) source departure in
    let by-start = (demand_2 M t.accepted source departure t.source_below t.departure_below).no_sooner source departure start in
    let answer = replies N asker source departure source arcs (taken_kept N asker source departure known taken) t.source_below
    (λ e. omega (arith, t.departure_below)) (rw empty (omega arith)) ∙ ap (λ way. replied (length way)) empty in
    (answer, rw (answer, empty))
