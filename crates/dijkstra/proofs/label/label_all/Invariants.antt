-- `label::label_all` keeps `Between` from round to round, and where no junction is left to settle the tables are the only ones that
-- satisfy the conditions.
use Rattle.model.specs.Closures.{closures_of}
use Rattle.model.specs.Lent.{lent_network}
use Rattle.dijkstra.specs.Code.Offering.{held, SameBuffers}
use Rattle.dijkstra.proofs.Standing.{waiting}
use Rattle.dijkstra.proofs.Rounds.{Between}
use Rattle.dijkstra.proofs.label.label_all.Given as goal

abbrev pub invariant-loop-roads : goal.invariant-loop-roads
invariant-loop-roads l =
    Between (lent_network l.fn.network (closures_of l.closures)) l.source l.departure l.links.first l.links.next l.settled (held l.tables)
    × SameBuffers l.initial.tables l.tables

abbrev pub decreases-loop-roads : goal.decreases-loop-roads
decreases-loop-roads l =
    waiting l.settled
