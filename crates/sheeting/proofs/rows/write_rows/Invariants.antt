-- `rows::write_rows`: at each turn the buffer starts with the rows of the departures before.
use Rattle.std.proofs.Common.{◌≡◌, ◌*◌, take}
use Rattle.model.specs.Closures.{closures_of}
use Rattle.model.specs.Lent.{lent_network}
use Rattle.sheeting.specs.Rows.{rows_of}
use Rattle.sheeting.proofs.rows.write_rows.Given as goal

abbrev pub invariant-loop-k : goal.invariant-loop-k
invariant-loop-k l =
    take (l.k * l.network.junctions) l.labels ≡ rows_of (lent_network l.network (closures_of l.closures)) l.source (take l.k l.departures)
