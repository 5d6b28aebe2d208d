-- `label::label_all` keeps `Between` from round to round, and where no junction is left to settle the tables are the only ones that
-- satisfy the conditions.
use Rattle.std.proofs.Common.{rules, ◌<◌, refl, ap, ◌∙◌, arith}
use lib.ListN.{set, replicate}
use Rattle.model.specs.Ticks.{never}
use Rattle.model.specs.Intervals.{time_of_day_lem, interval_of_lem}
use Rattle.model.specs.Labels.{no_arc}
use Rattle.model.specs.Closures.{closures_of}
use Rattle.model.specs.Lent.{lent_network}
use Rattle.model.proofs.Passed.{passed_at_most}
use Rattle.tournament.proofs.Matches.{equal_keys}
use Rattle.dijkstra.proofs.Queue.{Waits, Nearest, ByLast, least_waits}
use Rattle.dijkstra.proofs.Standing.{waiting_falls, stands_first}
use Rattle.dijkstra.proofs.Turns.{round_starts, round_ends}
use Rattle.dijkstra.proofs.Rounds.{drivable, between_goes_on}
use Rattle.dijkstra.proofs.label.label_all.Goals as goal
use Rattle.dijkstra.proofs.label.label_all.Goals.{After-junction_of}

pub overflow_cast-tables : goal.overflow_cast-tables
unfolding interval_of_lem
overflow_cast-tables c =
    let few = passed_at_most c.args.network.now.fences.now (time_of_day_lem c.args.departure) in
    omega (arith, c.interval_of.ensures, few, c.requires.tables_fit.intervals_fit)

pub loop-roads-init : goal.loop-roads-init
loop-roads-init c =
    let no-labels = c.fill.ensures.after (λ y e. e) ∙ ap (λ n. replicate n never) c.requires.labels_long in
    let labels_are = ap (λ labels. set labels c.args.source c.args.departure) no-labels in
    let predecessors_are = c.fill-2.ensures.after (λ y e. e) ∙ ap (λ n. replicate n no_arc) c.requires.predecessors_long in
    let entered = c.enter.ensures (equal_keys never) (omega (arith, c.requires.source_below, c.requires.tables_fit.junctions_fit)) in (
      record {
        linked = c.link_arcs.ensures;
        standing = stands_first c.requires.source_below c.requires.in_time labels_are predecessors_are c.key_of.ensures entered;
        round = λ q. round_starts q labels_are predecessors_are c.interval_of.ensures refl;
      },
      record { labels = refl; predecessors = refl },
    )

-- the nearest junction, where there is one
nearest : (c : After-junction_of) →
    let l = c.loop-roads.tables in
    let junction = c.junction_of.result in
    Waits l.labels.now c.loop-roads.settled junction × (ByLast l.labels.now → Nearest l.labels.now c.loop-roads.settled junction)
nearest c =
    let s = c.loop-roads.invariant.0.standing in
    least_waits s.queued
    (omega (arith, s.labels_long, c.requires.tables_fit.junctions_fit))
    (c.least_key-key.ensures s.queued.tournament)
    (omega (arith, c.least_key-key.type_inv, c.if-key.false))
    c.junction_of.ensures

below : (c : After-junction_of) → c.junction_of.result < 200
below c = omega (arith, (nearest c).0.inside, c.loop-roads.invariant.0.standing.labels_long, c.requires.tables_fit.junctions_fit)

pub settle-requires : goal.settle-requires
settle-requires c =
    let j = (goal.at.settle-requires c).After-junction_of in
    let b = c.loop-roads.invariant.0 in
    record { has_label = (nearest j).0.inside; drivable = drivable c.requires.tables_fit b.linked b.standing (below j) }

pub loop-roads-smaller : goal.loop-roads-smaller
loop-roads-smaller c =
    let j = (goal.at.loop-roads-smaller c).After-junction_of in
    rw c.settle.ensures.settles.settled_is
    (waiting_falls _ _ (omega (arith, below j, c.loop-roads.invariant.0.standing.settled_long)) (nearest j).0.unsettled)

pub loop-roads-preserved : goal.loop-roads-preserved
loop-roads-preserved c =
    let j = (goal.at.loop-roads-preserved c).After-junction_of in
    let same = c.loop-roads.invariant.1 in (
      between_goes_on c.requires.tables_fit c.loop-roads.invariant.0 (below j) (nearest j).0 (nearest j).1 c.settle.ensures.settles,
      record { labels = c.settle.ensures.same.labels ∙ same.labels; predecessors = c.settle.ensures.same.predecessors ∙ same.predecessors },
    )

-- no junction is left
pub returns-clause-labels : goal.returns-clause-labels
returns-clause-labels c = λ q.
    let b = c.loop-roads.invariant.0 in
    let done = round_ends {N = lent_network c.args.network.now (closures_of c.args.closures.now)} q.taken (b.round q.taken) b.standing.queued
    (c.least_key-key.ensures b.standing.queued.tournament) (omega (arith, c.if-key.true)) in
    search rules ∙ done.0

pub returns-clause-predecessors : goal.returns-clause-predecessors
returns-clause-predecessors c = λ q.
    let b = c.loop-roads.invariant.0 in
    let done = round_ends {N = lent_network c.args.network.now (closures_of c.args.closures.now)} q.taken (b.round q.taken) b.standing.queued
    (c.least_key-key.ensures b.standing.queued.tournament) (omega (arith, c.if-key.true)) in
    search rules ∙ done.1
