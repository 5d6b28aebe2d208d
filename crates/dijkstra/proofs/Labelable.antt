-- What is labelable fits.
use Prim.Native.Nat.{ℕ}
use mathlib.Core.List.{List}
use native.Mathlib.Omega.{arith}
use lib.ListN.{length}
use Rattle.model.specs.Network.{Network}
use Rattle.index_bounds.specs.Fitting.{Fits}
use Rattle.index_bounds.proofs.Fitting.{accepted_fits}
use Rattle.dijkstra.specs.Labelable.{Labelable}

pub labelable_fits : {N : Network} {source departure : ℕ} {labels predecessors : List ℕ} → Labelable N source departure labels predecessors →
    Fits N source departure (length labels) (length predecessors)
labelable_fits q = record {
  tables_fit = accepted_fits q.taken.accepted;
  source_below = q.taken.source_below;
  in_time = omega (arith, q.taken.departure_below);
  labels_long = q.labels_long;
  predecessors_long = q.predecessors_long;
}
