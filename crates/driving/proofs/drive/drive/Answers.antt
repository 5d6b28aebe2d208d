-- `drive::drive` gives the arrival with its interval on an arc that keeps the rules: each turn starts a try with the length left over (`Driving`),
-- from which the arrival is the whole's. On any arc the interval is one that the loop has come to, or the one after it.
use Rattle.std.proofs.Common.{ap, refl, arith}
use Rattle.model.specs.Intervals.{tick_and_interval?}
use Rattle.driving.proofs.Driving.{kept_inside, never_leaves, driving_starts_in_32_bits, arrives_by_end, drives_on, drives_past_midnight, never_arrives}
use Rattle.driving.proofs.drive.drive.Goals as goal

pub returns-then-intervals-interval-clause-result_value : goal.returns-then-intervals-interval-clause-result_value
returns-then-intervals-interval-clause-result_value c =
    λ kept. absurd (omega (arith, c.if-intervals-interval.true, c.min-intervals.ensures, kept_inside kept))

pub returns-then-departure-ge-LAST-clause-result_value : goal.returns-then-departure-ge-LAST-clause-result_value
returns-then-departure-ge-LAST-clause-result_value c = λ kept. ap (tick_and_interval? _) (never_leaves kept c.if-departure-ge-LAST.true)

pub loop-left-init : goal.loop-left-init
loop-left-init c =
    driving_starts_in_32_bits (omega (arith, c.if-intervals-interval.false, c.min-intervals.ensures)) c.if-departure-ge-LAST.false
    (omega arith) c.time_of_day-time.ensures refl

pub loop-left-preserved-then-k-intervals : goal.loop-left-preserved-then-k-intervals
loop-left-preserved-then-k-intervals c =
    drives_past_midnight c.loop-left.invariant c.interval_end-end.ensures c.covered_until-covers.ensures c.if-left-covers.false
    (omega (arith, c.min-intervals.ensures, c.if-k-intervals.true)) (omega (arith, c.if-midnight-ge-LAST.false)) refl

pub loop-left-preserved : goal.loop-left-preserved
loop-left-preserved c =
    drives_on c.loop-left.invariant c.interval_end-end.ensures c.covered_until-covers.ensures c.if-left-covers.false
    (omega (arith, c.loop-left.invariant.inside, c.min-intervals.ensures, c.if-k-intervals.false))
    refl

pub returns-then-left-covers-clause-result_value : goal.returns-then-left-covers-clause-result_value
returns-then-left-covers-clause-result_value c =
    λ kept.
    arrives_by_end c.loop-left.invariant c.interval_end-end.ensures c.covered_until-covers.ensures kept c.if-left-covers.true
    (rw c.ticks_for.ensures) refl (rw (← c.min-intervals.ensures) c.interval_by_end.ensures.value)

pub returns-then-midnight-ge-LAST-clause-result_value : goal.returns-then-midnight-ge-LAST-clause-result_value
returns-then-midnight-ge-LAST-clause-result_value c =
    λ kept.
    ap (tick_and_interval? _)
    (never_arrives c.loop-left.invariant c.interval_end-end.ensures c.covered_until-covers.ensures kept c.if-left-covers.false
    (omega (arith, kept.as_many, c.min-intervals.ensures, c.if-k-intervals.true)) c.if-midnight-ge-LAST.true)
