-- `route::WayBack::write_arcs` writes the way back from its end: at each turn the arcs left and those written behind them are the route
-- (`Writing`).
use Rattle.std.proofs.Common.{arith}
use Rattle.routing.proofs.Following.{writing_goes_on}
use Rattle.routing.proofs.route.WayBack.write_arcs.Goals as goal

pub loop-k-preserved : goal.loop-k-preserved
loop-k-preserved c = writing_goes_on c.loop-k.invariant _ (omega (arith, c.loop-k-test.true)) c.step_back.ensures
