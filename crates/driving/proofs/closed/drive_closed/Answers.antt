-- `closed::drive_closed` gives the arrival with its interval on an arc that keeps the rules: from each turn's tick, with what is left, the arrival is
-- the whole's (`DrivingClosed`). On any arc the interval is one that the loop has come to, or the one after it, and each turn ends at a later tick.
use Rattle.std.proofs.Common.{ap, refl, arith}
use Rattle.model.specs.Intervals.{tick_and_interval?}
use Rattle.driving.proofs.Driving.{kept_inside}
use Rattle.driving.proofs.DrivingClosed.{closed_never, piece_goes_on, arrives_in_piece, drives_past_piece}
use Rattle.driving.proofs.closed.drive_closed.Goals as goal

pub returns-then-intervals-interval-clause-result_value : goal.returns-then-intervals-interval-clause-result_value
returns-then-intervals-interval-clause-result_value c =
    λ kept. absurd (omega (arith, c.if-intervals-interval.true, c.min-intervals.ensures, kept_inside kept))

pub returns-then-until-tick-clause-result_value : goal.returns-then-until-tick-clause-result_value
returns-then-until-tick-clause-result_value c =
    λ kept. absurd (omega (arith, c.if-until-tick.true, piece_goes_on c.loop-tick.invariant c.loop-tick-test.true c.piece_from-piece.ensures kept))

pub returns-then-left-covers-clause-result_value : goal.returns-then-left-covers-clause-result_value
returns-then-left-covers-clause-result_value c =
    arrives_in_piece c.loop-tick.invariant c.loop-tick-test.true c.piece_from-piece.ensures c.covered_until-covers.ensures
    c.if-left-covers.true (rw c.ticks_for.ensures) (rw (← c.min-intervals.ensures) c.interval_by_end.ensures.value)

pub loop-tick-preserved : goal.loop-tick-preserved
loop-tick-preserved c =
    drives_past_piece c.loop-tick.invariant c.loop-tick-test.true c.piece_from-piece.ensures c.covered_until-covers.ensures
    c.if-left-covers.false refl
    (omega (arith, c.interval_by_end-k.ensures.upper_bound, c.min-intervals.ensures))
    (rw (← c.min-intervals.ensures) c.interval_by_end-k.ensures.value)

pub returns-clause-result_value : goal.returns-clause-result_value
returns-clause-result_value c = λ kept. ap (tick_and_interval? _) (closed_never c.loop-tick.invariant c.loop-tick-test.false kept)
