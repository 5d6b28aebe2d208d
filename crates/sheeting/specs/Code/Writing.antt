-- What writing the rows asks, which a call that is taken keeps.
use Rattle.std.specs.Prelude.{ℕ, ◌*◌, ◌≡◌, List, length}
use Rattle.model.specs.Network.{Network}
use Rattle.sheeting.specs.Sheet.{ShiftTaken}

pub record RowsAsked (N : Network) (source : ℕ) (departures labels : List ℕ) : Type 0 where
  pub taken : ShiftTaken N source departures
  pub labels_long : length labels ≡ length departures * N.junctions
