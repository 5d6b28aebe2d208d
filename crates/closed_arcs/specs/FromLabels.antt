-- An arc that is left at its tail's label.
use Rattle.std.specs.Prelude.{ℕ, ◌≤◌, ◌<◌, ◌≡◌, List, ◌⊎◌, length, get_or, Option, None, Some}
use Rattle.model.specs.Ticks.{last, never}
use Rattle.model.specs.Closures.{max_closures}
use Rattle.model.specs.Limits.{max_junctions}
use Rattle.model.specs.Intervals.{interval_of_lem, Beside}
use Rattle.model.specs.Network.{Network, Accepted, roads_of, drive_of}

-- The labels of an accepted network with no more closures than a question may bring. Each is a tick up to the last, or never; and beside each that is reached stands its interval.
pub record TimedLabels (N : Network) (labels intervals : List ℕ) : Type 0 where
  pub accepted : Accepted N
  pub few_closures : length N.closures ≤ max_closures
  pub labels_long : length labels ≡ N.junctions
  pub intervals_long : length intervals ≡ max_junctions
  pub by_last : (j : ℕ) → (get_or labels j never ≤ last) ⊎ (get_or labels j never ≡ never)
  pub beside : Beside N.fences labels intervals

-- The arrival of who leaves the arc's tail at its label.
abbrev pub offered : Network → List ℕ → ℕ → ℕ
offered N labels a = drive_of (roads_of N) a (get_or labels (get_or N.tails a 0) never)

-- What driving it comes to: the arrival with its interval; or none, where that is after the head's label, or never.
pub data OnArc (N : Network) (labels : List ℕ) (a : ℕ) : Option (ℕ × ℕ) → Type 0 where
  arrives : {tick interval : ℕ} → tick ≡ offered N labels a → tick ≤ last → interval ≡ interval_of_lem N.fences tick → OnArc N labels a (Some (tick, interval))
  too_late : get_or labels (get_or N.heads a 0) never < offered N labels a → OnArc N labels a None
  not_driven : offered N labels a ≡ never → OnArc N labels a None
