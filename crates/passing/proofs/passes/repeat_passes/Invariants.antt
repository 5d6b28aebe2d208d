-- `passes::repeat_passes` keeps `Repeating` from pass to pass, of which there are at most as many as junctions.
use Prim.Native.Nat.{◌+◌, ◌-◌, ◌<◌}
use mathlib.Core.Path.{◌≡◌}
use Rattle.model.specs.Closures.{closures_of}
use Rattle.model.specs.Lent.{lent_network}
use Rattle.passing.specs.Code.Passing.{Current, NoneLowered}
use Rattle.passing.proofs.Repeating.{Repeating}
use Rattle.passing.proofs.passes.repeat_passes.Given as goal

abbrev pub invariant-loop-roads : goal.invariant-loop-roads
invariant-loop-roads l = record {
  repeating : Repeating (lent_network l.network (closures_of l.closures)) l.source l.departure (l.made + 1) l.tables.labels.now l.tables.intervals;
  current : Current (lent_network l.network (closures_of l.closures)) l.tables.labels.now l.tables.arrivals l.tables.latest l.made 0;
  none_lowered : NoneLowered l.tables.latest l.made;
  few : l.made < l.network.junctions;
  same_reference : l.tables.labels.ghost_name ≡ l.initial.tables.labels.ghost_name;
}

abbrev pub decreases-loop-roads : goal.decreases-loop-roads
decreases-loop-roads l = l.network.junctions - l.made
