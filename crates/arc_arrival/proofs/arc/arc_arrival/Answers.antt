-- `arc::arc_arrival` meets its definition: where all rules are kept, the engine gives the reply.
use Rattle.std.proofs.Common.{sym, ap, ◌∙◌, not, arith, eq-eqb, le-ltb, le-leb}
use Rattle.model.specs.Limits.{max_hold}
use Rattle.model.specs.Rules.{AllKept}
use Rattle.model.specs.Ticks.{last}
use Rattle.arc_arrival.specs.ArcArrival.{arc_rules}
use Rattle.arc_arrival.proofs.ArcRules.{engine_replies}
use Rattle.arc_arrival.proofs.arc.arc_arrival.Goals as goal
use Rattle.arc_arrival.proofs.arc.arc_arrival.Goals.{After-drive_with_hold}

kept : (c : After-drive_with_hold) →
    let a = c.args in
    AllKept (arc_rules a.departure.number a.interval a.road.now.metres a.road.now.hold a.road.now.fences.now a.road.now.speeds.now)
kept c =
    let count = sym c.interval_count_keeps.ensures ∙ c.if-not-interval_count_keeps.false in
    let as_many = eq-eqb _ _ c.if-road.false in
    let fences = sym c.fences_keep.ensures ∙ c.if-not-fences_keep.false in
    let size = sym c.length_keeps.ensures ∙ c.if-not-length_keeps.false in
    let speeds = sym c.speeds_keep.ensures ∙ c.if-not-speeds_keep.false in
    let hold = le-leb c.args.road.now.hold max_hold (omega arith) in
    let in_time = le-ltb last c.args.departure.number (omega arith) in
    let contained = sym c.contains.ensures ∙ c.if-not-contains.false in
    (ap not count, (ap not as_many, (ap not fences, (ap not size, (ap not speeds, (ap not hold, (in_time, (ap not contained, tt))))))))

pub returns : goal.returns
returns c = engine_replies _ _ _ _ _ _ (kept (goal.at.returns c).After-drive_with_hold) c.drive_with_hold.ensures.result_value
