-- An arc of the roads, as an engine drives it.
use Rattle.std.specs.Prelude.{ℕ, ◌+◌, ◌*◌, ◌≤◌, ◌<◌, ◌≡◌, length, get_or, Option}
use Rattle.model.specs.Closures.{max_closures}
use Rattle.model.specs.Limits.{max_arcs, max_intervals}
use Rattle.model.specs.Intervals.{tick_and_interval?}
use Rattle.model.specs.Network.{Roads, arc_speeds, drive_of}
use Rattle.driving.specs.ArcKept.{ArcKept}

-- The roads have the arc.
pub record HasArc (R : Roads) (a : ℕ) : Type 0 where
  pub few_arcs : a < max_arcs
  pub few_intervals : length R.fences ≤ max_intervals
  pub has_length : a < length R.lengths
  pub has_hold : a < length R.holds
  pub has_speeds : a * length R.fences + length R.fences ≤ length R.speeds

-- What driving the arc comes to, where the arc keeps the rules and the closures are not too many.
abbrev pub ArrivesOn : Roads → ℕ → ℕ → ℕ → Option (ℕ × ℕ) → Type 0
ArrivesOn R a tick interval arrived =
    length R.closures ≤ max_closures → ArcKept tick interval (get_or R.lengths a 0) R.fences (arc_speeds R a) → arrived ≡ tick_and_interval? R.fences (drive_of R a tick)
