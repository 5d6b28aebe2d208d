-- A departure with its interval, and an arc that keeps the rules: on these the engine gives the arrival with its interval.
use Rattle.std.specs.Prelude.{◌≡◌, ℕ, ◌≤◌, List, length}
use Rattle.model.specs.Ticks.{last}
use Rattle.model.specs.Intervals.{FencesKept, interval_of_lem}

pub record ArcKept (departure interval metres : ℕ) (fences speeds : List ℕ) : Type 0 where
  pub in_time : departure ≤ last
  pub in_interval : interval ≡ interval_of_lem fences departure
  pub some_length : 1 ≤ metres
  pub some_interval : 1 ≤ length fences
  pub fences_kept : FencesKept fences
  pub as_many : length speeds ≡ length fences
