-- `offer::offer_arcs` keeps `Onward` along the links, whose arcs have ever higher numbers.
use Prim.Native.Nat.{◌-◌}
use Rattle.model.specs.Labels.{no_arc}
use Rattle.closed_arcs.specs.Roads.{roads_in}
use Rattle.dijkstra.specs.Code.Offering.{held, SameBuffers}
use Rattle.dijkstra.proofs.Links.{Onward}
use Rattle.dijkstra.proofs.offer.offer_arcs.Given as goal

abbrev pub invariant-loop-a : goal.invariant-loop-a
invariant-loop-a l =
    Onward (roads_in l.roads) l.roads.network.now.heads.now l.next l.first (held l.initial.tables) l.settled l.tick l.interval l.a (held l.tables)
    × SameBuffers l.initial.tables l.tables

abbrev pub decreases-loop-a : goal.decreases-loop-a
decreases-loop-a l = no_arc - l.a
