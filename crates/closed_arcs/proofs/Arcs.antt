-- The arcs of an accepted network keep the rules of a drive.
use Prim.Native.Nat.{ℕ, ◌+◌, ◌*◌, ◌≤◌, ◌<◌}
use mathlib.Core.Path.{◌≡◌}
use native.Mathlib.Nat.{mul-le-mul_right, suc-mul}
use native.Mathlib.Omega.{arith}
use lib.ListN.{length, get_or, length-take, length-drop}
use Rattle.model.specs.Ticks.{last}
use Rattle.model.specs.Intervals.{interval_of_lem}
use Rattle.model.specs.Network.{Network, Accepted, arcs, intervals, speeds_of}
use Rattle.driving.specs.ArcKept.{ArcKept}

-- An arc's speeds lie inside the table of m arcs' speeds.
pub arc_inside : (a n m : ℕ) → a < m → a * n + n ≤ m * n
arc_inside a n m h = omega (arith, mul-le-mul_right n h, suc-mul a n)

pub arc_kept : (N : Network) → Accepted N → (tick interval a : ℕ) → tick ≤ last → interval ≡ interval_of_lem N.fences tick → a < arcs N →
    ArcKept tick interval (get_or N.lengths a 0) N.fences (speeds_of N a)
arc_kept N accepted tick interval a in_time in_interval is_arc =
    let inside = arc_inside a (intervals N) (arcs N) is_arc in
    let as_many : length (speeds_of N a) ≡ intervals N = simp (length-take, length-drop) (omega (arith, accepted.speeds_long)) in
    record {
      in_time = in_time;
      in_interval = in_interval;
      some_length = accepted.some_length a is_arc;
      some_interval = accepted.some_interval;
      fences_kept = accepted.fences_kept;
      as_many = as_many;
    }
