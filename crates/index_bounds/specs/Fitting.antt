-- What the indices of a labelling rest on.
use Rattle.std.specs.Prelude.{ℕ, ◌*◌, ◌≤◌, ◌<◌, ◌≡◌, length, get_or}
use Rattle.model.specs.Ticks.{last}
use Rattle.model.specs.Limits.{max_junctions, max_arcs, max_intervals}
use Rattle.model.specs.Network.{Network, arcs, intervals}

-- The counts are within the limits, the tables as long as they must be, and the ends are junctions.
pub record TablesFit (N : Network) : Type 0 where
  pub some_junction : 1 ≤ N.junctions
  pub junctions_fit : N.junctions ≤ max_junctions
  pub intervals_fit : intervals N ≤ max_intervals
  pub arcs_fit : arcs N ≤ max_arcs
  pub heads_long : length N.heads ≡ arcs N
  pub lengths_long : length N.lengths ≡ arcs N
  pub holds_long : length N.holds ≡ arcs N
  pub speeds_long : length N.speeds ≡ arcs N * intervals N
  pub tail_below : (a : ℕ) → a < arcs N → get_or N.tails a 0 < N.junctions
  pub head_below : (a : ℕ) → a < arcs N → get_or N.heads a 0 < N.junctions

-- So are the source and the departure, and the buffers have an entry for each junction.
pub record Fits (N : Network) (source departure labels predecessors : ℕ) : Type 0 where
  pub tables_fit : TablesFit N
  pub source_below : source < N.junctions
  pub in_time : departure ≤ last
  pub labels_long : labels ≡ N.junctions
  pub predecessors_long : predecessors ≡ N.junctions
