-- `interval::interval_from`: the interval to which the steps lead contains the tick, and only its own does.
use Rattle.std.proofs.Common.{arith}
use Rattle.model.proofs.Containing.{interval_contains}
use Rattle.certifying.proofs.interval.interval_from.Goals as goal

pub returns-clause-value : goal.returns-clause-value
returns-clause-value c =
    let is = c.time_of_day-time.ensures in
    let inside = c.step_on.ensures.upper_bound in
    λ kept.
    let (from, before) = c.step_on.ensures.result_bound (c.step_back.ensures.result_bound kept.first_is_0) in
    (interval_contains _ kept (omega (arith, inside)) _ _).1
    record { is_interval = inside; from_fence = rw is at from; before_next = λ more. rw is at (before more) }
