-- `route::WayBack::count_arcs` counts the arcs of the way back: at each turn those counted and those left add up to all (`Counting`).
use Rattle.std.proofs.Common.{◌-◌, length}
use Rattle.routing.specs.Code.Following.{way_from}
use Rattle.routing.proofs.Following.{Counting}
use Rattle.routing.proofs.route.WayBack.count_arcs.Given as goal

abbrev pub invariant-loop-junction : goal.invariant-loop-junction
invariant-loop-junction l =
    Counting l.self.tails.now l.self.source l.self.predecessors.now (length (way_from l.self l.destination)) l.junction l.count

abbrev pub decreases-loop-junction : goal.decreases-loop-junction
decreases-loop-junction l = length (way_from l.self l.destination) - l.count
