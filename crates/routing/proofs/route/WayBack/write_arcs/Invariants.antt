-- `route::WayBack::write_arcs` writes the way back from its end: at each turn the arcs left and those written behind them are the route
-- (`Writing`).
use Rattle.std.proofs.Common.{reverse}
use Rattle.routing.specs.Code.Following.{way_from}
use Rattle.routing.proofs.Following.{Writing}
use Rattle.routing.proofs.route.WayBack.write_arcs.Given as goal

abbrev pub invariant-loop-k : goal.invariant-loop-k
invariant-loop-k l =
    Writing l.self.tails.now l.self.source l.self.predecessors.now (reverse (way_from l.self l.destination)) l.initial.arcs l.arcs l.count l.junction l.k
