-- `route::WayBack::follow` reads the destination's label, then counts the arcs of the way back, then writes them.
use Rattle.std.proofs.Common.{◌∙◌, sym, arith}
use Rattle.routing.specs.Code.Following.{Reached, no_junction, unreached, too_short, found}
use Rattle.routing.proofs.Following.{way_at_most}
use Rattle.routing.proofs.route.WayBack.follow.Goals as goal
use Rattle.routing.proofs.route.WayBack.follow.Goals.{Else-arrival}

reached : (c : Else-arrival) → Reached c.args.labels.now c.args.destination
reached c =
    let (_, _, _, (inside, entry), _) = c.in-Some.ensures.lookup in
    record { is_junction = inside; has_label = λ e. c.if-arrival.false (entry 0 ∙ e) }

pub returns-in_default : goal.returns-in_default
returns-in_default c = no_junction c.in_default.ensures.lookup.3

pub returns-then-arrival : goal.returns-then-arrival
returns-then-arrival c =
    let (_, _, _, (inside, entry), _) = c.in-Some.ensures.lookup in
    unreached inside (sym (entry 0) ∙ c.if-arrival.true)

pub returns-then-arcs-count : goal.returns-then-arcs-count
returns-then-arcs-count c =
    too_short (reached (goal.at.returns-then-arcs-count c).Else-arrival) (rw c.count_arcs-count.ensures at c.if-arcs-count.true)

pub overflow_cast-result : goal.overflow_cast-result
overflow_cast-result c =
    let most = way_at_most c.args.self.now.tails.now c.args.self.now.source c.args.self.now.predecessors.now c.args.destination in
    omega (arith, c.count_arcs-count.ensures, c.requires.predecessors_len_bound, most)

pub returns : goal.returns
returns c =
    let counted = c.count_arcs-count.ensures in
    let (_, _, _, (inside, entry), _) = c.in-Some.ensures.lookup in
    rw (entry 0) (found (reached (goal.at.returns c).Else-arrival) (rw counted at c.if-arcs-count.false) counted c.write_arcs.ensures)
