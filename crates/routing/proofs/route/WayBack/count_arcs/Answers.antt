-- `route::WayBack::count_arcs` counts the arcs of the way back: at each turn those counted and those left add up to all (`Counting`).
use Rattle.std.proofs.Common.{arith}
use Rattle.routing.proofs.Following.{way_at_most, counting_more}
use Rattle.routing.proofs.route.WayBack.count_arcs.Goals as goal

pub overflow_add-count : goal.overflow_add-count
overflow_add-count c =
    let most = way_at_most c.args.self.now.tails.now c.args.self.now.source c.args.self.now.predecessors.now c.args.destination in
    omega (arith, counting_more c.loop-junction.invariant c.loop-junction-test.true, most, c.well_formed)
