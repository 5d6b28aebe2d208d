-- What an accepted network's tables are.
use Rattle.model.specs.Network.{Network, Accepted}
use Rattle.index_bounds.specs.Fitting.{TablesFit}

-- An accepted network's tables fit together.
pub accepted_fits : {N : Network} → Accepted N → TablesFit N
accepted_fits accepted = record {
  some_junction = accepted.some_junction;
  junctions_fit = accepted.junctions_fit;
  intervals_fit = accepted.intervals_fit;
  arcs_fit = accepted.arcs_fit;
  heads_long = accepted.heads_long;
  lengths_long = accepted.lengths_long;
  holds_long = accepted.holds_long;
  speeds_long = accepted.speeds_long;
  tail_below = accepted.tail_below;
  head_below = accepted.head_below;
}
