-- `route::route`: the rows that are lent stand for the list, and give its answer.
use Rattle.std.proofs.Common.{[], ◌∙◌}
use Rattle.model.specs.Lent.{lent_network}
use Rattle.operations.proofs.Overlong.{alike, route_too_long}
use Rattle.operations.proofs.route.route.Goals as goal

pub returns : goal.returns
returns c =
    let args = c.args in
    let same = alike (route_too_long (lent_network args.network.now []) args.asker args.source args.departure.number args.destination args.arcs.now) c.read_closures-count.ensures.stand in
    let e = c.route.ensures in
    record {
      answer = e.answer ∙ same.0;
      arrival = e.arrival ∙ same.1.0;
      arcs = e.arcs ∙ same.1.1;
    }
