-- `link::link_arcs` links the arcs from the last one back (`Linking`), and so all of them.
use Rattle.dijkstra.proofs.Linking.{Linking}
use Rattle.dijkstra.proofs.link.link_arcs.Given as goal

abbrev pub invariant-loop-a : goal.invariant-loop-a
invariant-loop-a l = Linking l.tails l.links.first l.links.next l.a
