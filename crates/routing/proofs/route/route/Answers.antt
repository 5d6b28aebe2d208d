-- `route::route` meets its definition: Labels asks the question's rules, and following the tables that it has written is the route.
use Rattle.std.proofs.Common.{take, sym, arith}
use Rattle.std.proofs.Math.Seq.{length-take-le}
use Rattle.std.proofs.lemmas.Result.{err_from_is_err_and}
use Rattle.model.specs.Closures.{closures_of}
use Rattle.model.specs.Lent.{lent_network}
use Rattle.routing.proofs.Tables.{TablesLeft, labels_refuse, tables_left, taken, leads, follows_ends}
use Rattle.routing.proofs.route.route.Goals as goal
use Rattle.routing.proofs.route.route.Goals.{In_ok-labels_within}

pub returns-in_err-labels_within-clause-answer : goal.returns-in_err-labels_within-clause-answer
returns-in_err-labels_within-clause-answer c =
    let p = err_from_is_err_and c.from_residual.result c.from_residual.ensures.1 in
    rw (p.1, p.2) (labels_refuse _ _ _ _ _ _ (omega arith) (omega arith) c.in_err-labels_within.ensures.answer _ _)

pub returns-in_err-labels_within-clause-arrival : goal.returns-in_err-labels_within-clause-arrival
returns-in_err-labels_within-clause-arrival c =
    let p = err_from_is_err_and c.from_residual.result c.from_residual.ensures.1 in
    let refused = labels_refuse _ _ _ _ _ _ (omega arith) (omega arith) c.in_err-labels_within.ensures.answer c.args.destination c.args.arcs.now in
    rw (p.1, ← refused)

pub returns-in_err-labels_within-clause-arcs : goal.returns-in_err-labels_within-clause-arcs
returns-in_err-labels_within-clause-arcs c =
    let refused = labels_refuse _ _ _ _ _ _ (omega arith) (omega arith) c.in_err-labels_within.ensures.answer c.args.destination c.args.arcs.now in
    rw (← refused)

-- the tables as Labels leaves them
left : (c : In_ok-labels_within) →
    let args = c.args in
    TablesLeft (lent_network args.network.now (closures_of args.closures.now)) args.asker args.source args.departure.number
    (take args.network.now.junctions c.labels_within.new.labels) (take args.network.now.junctions c.labels_within.new.predecessors)
left c =
    let e = c.in_ok-labels_within.ensures in
    tables_left _ _ _ _ _ _ (omega arith) (omega arith) e.answer e.labels e.predecessors

pub slice_bounds-predecessors-end : goal.slice_bounds-predecessors-end
slice_bounds-predecessors-end c = omega (arith, (taken (left (goal.at.slice_bounds-predecessors-end c).In_ok-labels_within)).accepted.junctions_fit)

pub slice_bounds-back-end : goal.slice_bounds-back-end
slice_bounds-back-end c =
    let few = (taken (left (goal.at.slice_bounds-back-end c).In_ok-labels_within)).accepted.junctions_fit in
    sym (length-take-le _ _ (omega arith))

pub slice_bounds-earliest-end : goal.slice_bounds-earliest-end
slice_bounds-earliest-end c = omega (arith, (taken (left (goal.at.slice_bounds-earliest-end c).In_ok-labels_within)).accepted.junctions_fit)

pub slice_bounds-follow-end : goal.slice_bounds-follow-end
slice_bounds-follow-end c =
    let few = (taken (left (goal.at.slice_bounds-follow-end c).In_ok-labels_within)).accepted.junctions_fit in
    sym (length-take-le _ _ (omega arith))

pub follow-requires-clause-leads : goal.follow-requires-clause-leads
follow-requires-clause-leads c = leads (left (goal.at.follow-requires-clause-leads c).In_ok-labels_within) _

pub returns-clause-answer : goal.returns-clause-answer
returns-clause-answer c = (follows_ends (left (goal.at.returns-clause-answer c).In_ok-labels_within) _ c.follow.ensures).0

pub returns-clause-arrival : goal.returns-clause-arrival
returns-clause-arrival c = (follows_ends (left (goal.at.returns-clause-arrival c).In_ok-labels_within) _ c.follow.ensures).1.0

pub returns-clause-arcs : goal.returns-clause-arcs
returns-clause-arcs c = (follows_ends (left (goal.at.returns-clause-arcs c).In_ok-labels_within) _ c.follow.ensures).1.1
