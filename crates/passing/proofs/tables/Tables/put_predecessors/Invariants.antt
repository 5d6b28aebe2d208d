-- `predecessor::Tables::put_predecessors` keeps `LowestAttaining` from arc to arc, of any network whose arcs are up to date.
use Prim.Native.Nat.{ℕ}
use mathlib.Core.Path.{◌≡◌}
use mathlib.Core.List.{List}
use lib.ListN.{length}
use Rattle.model.specs.Network.{Network, net_of}
use Rattle.closed_arcs.specs.FromLabels.{TimedLabels}
use Rattle.passing.specs.Code.Passing.{AllUpToDate, LowestAttaining}
use Rattle.passing.proofs.tables.Tables.put_predecessors.Given as goal

abbrev pub invariant-loop-arc : goal.invariant-loop-arc
invariant-loop-arc l = (N : Network) (intervals : List ℕ) → N.heads ≡ l.heads → TimedLabels N l.self.labels.now intervals →
    AllUpToDate N l.self.labels.now l.self.arrivals (length l.heads) → LowestAttaining (net_of N) l.self.labels.now l.arc l.predecessors
