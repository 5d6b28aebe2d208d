-- Routes: following at most as many predecessors as there are junctions finds the whole trail of a reached junction, and so
-- what holds of the trail holds of the route.
use Prim.Native.Nat.{ℕ, ◌≤◌, ◌<◌}
use native.Mathlib.Omega.{arith}
use mathlib.Core.Path.{◌≡◌, refl}
use mathlib.Core.List.{List, [], reverse}
use lib.ListN.{length, get_or, length-reverse}
use Rattle.model.specs.Ticks.{last, never}
use Rattle.model.specs.Walks.{Net, Sound, Arrives}
use Rattle.model.specs.Labels.{labels_of, predecessors_of, Certified}
use Rattle.model.specs.Network.{net_of}
use Rattle.model.specs.Routes.{arcs_back, route_of, start, along, stops, DrivenIsWalk, RouteAttains, RouteIsShort, RoutePassesOnce, Demand2OfRoute}
use Rattle.model.proofs.Distinct.{distinct_differ}
use Rattle.model.proofs.OnlyTables.{labels_certified}
use Rattle.model.proofs.Trails.{Trail, arcs_back_source, trail_arcs_back, trail_driven, trail_distinct, trail_short, certified_trail}
use Rattle.model.proofs.Networks.{accepted_sound}

pub driven_is_walk : DrivenIsWalk
driven_is_walk N source departure _ _ _ start = Arrives.start
driven_is_walk N source departure _ _ _ (along a {arcs} {t} before is_arc arrives) = Arrives.along a is_arc (driven_is_walk N source departure arcs (N.tail a) t before) arrives

-- ---- The arcs of the route, the last first

-- All the arcs back from a junction: as many predecessors are followed as there are junctions.
abbrev pub all_back : Net → ℕ → ℕ → ℕ → List ℕ
all_back N source departure j = arcs_back N.tail source (predecessors_of N source departure) N.junctions j

pub route_reverses : (N : Net) (source departure j : ℕ) → route_of N source departure j ≡ reverse (all_back N source departure j)
unfolding route_of
route_reverses N source departure j = refl

pub route_source : (N : Net) (source departure : ℕ) → route_of N source departure source ≡ []
route_source N source departure =
    rw (route_reverses N source departure source, arcs_back_source N source (predecessors_of N source departure) N.junctions)

module _ (N : Net) (sound : Sound N) (source departure : ℕ) (inside : source < N.junctions) (departs : departure ≤ last)
    (j : ℕ) (is_junction : j < N.junctions) (reached : get_or (labels_of N source departure) j never ≡ never → ⊥) where
  certified : Certified N source departure (labels_of N source departure) (predecessors_of N source departure)
  certified = labels_certified N sound source departure inside departs

  -- The arcs back are the whole trail.
  pub whole : Trail N source (labels_of N source departure) (predecessors_of N source departure) j (all_back N source departure j)
  whole =
      let (arcs, trail) = certified_trail sound certified j is_junction reached in
      let short : length arcs < N.junctions = trail_short sound inside trail in
      rw (trail_arcs_back sound trail N.junctions (omega arith)) trail

  pub arcs_back_short : length (all_back N source departure j) < N.junctions
  arcs_back_short = trail_short sound inside whole

-- ---- The statements

pub route_attains : RouteAttains
route_attains N sound source departure inside departs j is_junction reached =
    rw (route_reverses N source departure j)
    (trail_driven sound (labels_certified N sound source departure inside departs).source_label
    (whole N sound source departure inside departs j is_junction reached))

pub route_is_short : RouteIsShort
route_is_short N sound source departure inside departs j is_junction reached =
    rw (route_reverses N source departure j, length-reverse)
    (arcs_back_short N sound source departure inside departs j is_junction reached)

pub route_passes_once : RoutePassesOnce
route_passes_once N sound source departure inside departs j is_junction reached =
    rw (route_reverses N source departure j)
    (distinct_differ (stops N source (reverse (all_back N source departure j)))
    (trail_distinct sound inside (whole N sound source departure inside departs j is_junction reached)))

-- A departure is below the day, and so by the last tick.
pub demand_2_of_route : Demand2OfRoute
demand_2_of_route N accepted source departure inside departs j is_junction reached = (
  route_attains (net_of N) (accepted_sound N accepted) source departure inside (omega arith) j is_junction reached,
  route_is_short (net_of N) (accepted_sound N accepted) source departure inside (omega arith) j is_junction reached,
)
