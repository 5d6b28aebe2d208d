-- A town's network as its tables, the plain statement of its rules, what decides the drive on its arcs, and the net that it is.
use Rattle.std.specs.Prelude.{ℕ, ◌+◌, ◌*◌, ◌≤◌, ◌<◌, ◌≡◌, List, [], length, get_or, take, drop}
use Rattle.model.specs.Ticks.{day, tick_by_last}
use Rattle.model.specs.Limits.{max_junctions, max_arcs, max_intervals, max_length, max_speed, max_hold}
use Rattle.model.specs.Flow.{spans_of}
use Rattle.model.specs.Holds.{arrival_with_hold}
use Rattle.model.specs.Intervals.{FencesKept, speed_at}
use Rattle.model.specs.Walks.{Net}
use Rattle.model.specs.Closures.{with_closures}
use Rattle.model.specs.Parties.{ClosedTo, closures_for}
use Rattle.model.specs.declared.closure.Closure.{Closure}

-- Document 02, order 5: the hold is in "a further lent table in the network beside the lengths". Order 7: the closures are those that a question
-- of it brings; no file has any.
pub record Network : Type 0 where
  pub junctions : ℕ
  pub fences : List ℕ
  pub tails : List ℕ
  pub heads : List ℕ
  pub lengths : List ℕ
  pub holds : List ℕ
  pub speeds : List ℕ
  pub closures : List Closure

-- The network of a junction count, six tables and the closures.
abbrev pub network : ℕ → List ℕ → List ℕ → List ℕ → List ℕ → List ℕ → List ℕ → List Closure → Network
network junctions fences tails heads lengths holds speeds closures = record {
  junctions = junctions;
  fences = fences;
  tails = tails;
  heads = heads;
  lengths = lengths;
  holds = holds;
  speeds = speeds;
  closures = closures;
}

-- The network with another list of closures.
abbrev pub closed_by : Network → List Closure → Network
closed_by N closures = network N.junctions N.fences N.tails N.heads N.lengths N.holds N.speeds closures

-- Order 8: a question brings one list for both parties. The network as the asker finds it has the records that stop it.
abbrev pub network_for : Network → ℕ → Network
network_for N asker = closed_by N (closures_for asker N.closures)

-- "The arc count is the length of the tails."
abbrev pub arcs : Network → ℕ
arcs N = length N.tails

abbrev pub intervals : Network → ℕ
intervals N = length N.fences

-- The rules of a network.
pub record Accepted (N : Network) : Type 0 where
  pub some_junction : 1 ≤ N.junctions
  pub junctions_fit : N.junctions ≤ max_junctions
  pub some_interval : 1 ≤ intervals N
  pub intervals_fit : intervals N ≤ max_intervals
  pub arcs_fit : arcs N ≤ max_arcs
  pub heads_long : length N.heads ≡ arcs N
  pub lengths_long : length N.lengths ≡ arcs N
  pub holds_long : length N.holds ≡ arcs N
  pub speeds_long : length N.speeds ≡ arcs N * intervals N
  pub fences_kept : FencesKept N.fences
  pub tail_below : (a : ℕ) → a < arcs N → get_or N.tails a 0 < N.junctions
  pub head_below : (a : ℕ) → a < arcs N → get_or N.heads a 0 < N.junctions
  pub ends_are_apart : (a : ℕ) → a < arcs N → get_or N.tails a 0 ≡ get_or N.heads a 0 → ⊥
  pub some_length : (a : ℕ) → a < arcs N → 1 ≤ get_or N.lengths a 0
  pub length_fits : (a : ℕ) → a < arcs N → get_or N.lengths a 0 ≤ max_length
  pub speed_fits : (i : ℕ) → i < arcs N * intervals N → get_or N.speeds i 0 ≤ max_speed
  pub hold_fits : (a : ℕ) → a < arcs N → get_or N.holds a 0 ≤ max_hold

-- ---- The drive on an arc

-- A network's roads are what decides the drive on each arc. What decides it besides, once there is more, is one field more here.
pub record Roads : Type 0 where
  pub fences : List ℕ
  pub lengths : List ℕ
  pub holds : List ℕ
  pub speeds : List ℕ
  pub closures : List Closure

abbrev pub roads : List ℕ → List ℕ → List ℕ → List ℕ → List Closure → Roads
roads fences lengths holds speeds closures = record { fences = fences; lengths = lengths; holds = holds; speeds = speeds; closures = closures }

abbrev pub roads_of : Network → Roads
roads_of N = roads N.fences N.lengths N.holds N.speeds N.closures

-- "Each arc has one speed per interval": the speeds stand arc by arc.
abbrev pub arc_speeds : Roads → ℕ → List ℕ
arc_speeds R a = take (length R.fences) (drop (a * length R.fences) R.speeds)

abbrev pub speeds_of : Network → ℕ → List ℕ
speeds_of N a = arc_speeds (roads_of N) a

-- The speed of a tick on an arc: its plan's, and 0 while it is closed.
unfoldable pub speed_on : Roads → ℕ → ℕ → ℕ
speed_on R a = with_closures R.closures a (speed_at R.fences (arc_speeds R a))

-- The arrival on an arc that is left at a tick, with the arc's hold: the next arc is left after it.
unfoldable pub drive_of : Roads → ℕ → ℕ → ℕ
drive_of R a t = arrival_with_hold (speed_on R a) (spans_of (get_or R.lengths a 0)) (get_or R.holds a 0) t

-- ---- The net that it is

abbrev pub net_of : Network → Net
net_of N = record {
  junctions = N.junctions;
  arcs = arcs N;
  tail = λ a. get_or N.tails a 0;
  head = λ a. get_or N.heads a 0;
  drive = drive_of (roads_of N);
}

-- ---- What is proved of it

-- Without closures an arc has its plan's speeds alone, and everything is as it was before there were any.
abbrev pub NoClosures : Type 0
NoClosures = (R : Roads) → R.closures ≡ [] → (a : ℕ) →
    ((t : ℕ) → speed_on R a t ≡ speed_at R.fences (arc_speeds R a) t)
    × ((t : ℕ) → drive_of R a t ≡ arrival_with_hold (speed_at R.fences (arc_speeds R a)) (spans_of (get_or R.lengths a 0)) (get_or R.holds a 0) t)

-- "The asker (..) is stopped only by its own closures and those of party 0": at a tick that is closed to it the speed is 0, and at every other it is
-- the plan's.
abbrev pub SpeedForAsker : Type 0
SpeedForAsker = (N : Network) (asker a t : ℕ) →
    let speed = speed_on (roads_of (network_for N asker)) a t in
    (ClosedTo asker N.closures a t → speed ≡ 0) × ((ClosedTo asker N.closures a t → ⊥) → speed ≡ speed_at N.fences (speeds_of N a) t)

-- Without closures, which do not repeat at midnight: who leaves an arc's tail a day later arrives a day later, if that is by the last tick, and
-- else never.
abbrev pub DrivesRepeat : Type 0
DrivesRepeat = (R : Roads) → R.closures ≡ [] → (a t : ℕ) → drive_of R a (t + day) ≡ tick_by_last (drive_of R a t + day)
