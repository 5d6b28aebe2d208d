-- `pass::Tables::make_pass` keeps `SoFar` and `Current` from arc to arc.
use mathlib.Core.Path.{◌≡◌}
use mathlib.Core.Bool.{false}
use Rattle.closed_arcs.specs.Roads.{network_in}
use Rattle.passing.specs.Code.Passing.{Current, NoneLowered}
use Rattle.passing.proofs.Lowering.{SoFar}
use Rattle.passing.proofs.tables.Tables.make_pass.Given as goal

abbrev pub invariant-loop-arc : goal.invariant-loop-arc
invariant-loop-arc l = record {
  so_far : SoFar (network_in l.roads) l.initial.self.labels.now l.arc l.self.labels.now l.self.intervals l.changed;
  current : Current (network_in l.roads) l.self.labels.now l.self.arrivals l.self.latest l.made l.arc;
  none_lowered : l.changed ≡ false → NoneLowered l.self.latest l.made;
  same_reference : l.self.labels.ghost_name ≡ l.initial.self.labels.ghost_name;
}
