-- `fill::fill_speeds`: the first entries are the numbers taken so far.
use native.Mathlib.Omega.{arith}
use Rattle.loading.proofs.Taking.{next_asked, one_taken, one_stored, speed_fits}
use Rattle.loading.proofs.fill.fill_speeds.Goals as goal

pub take_number-taken-requires-clause-at_value : goal.take_number-taken-requires-clause-at_value
take_number-taken-requires-clause-at_value c = (next_asked _ c.requires.numbers_fill c.loop-speed.invariant.0 c.loop-speed-test.true).0

pub overflow_cast-speed : goal.overflow_cast-speed
overflow_cast-speed c =
    let small = speed_fits _ c.requires.numbers_fill c.loop-speed.invariant.0 c.loop-speed-test.true c.take_number-taken.ensures c.requires.speeds_fit in
    record { fits = omega (arith, small) }

pub loop-speed-preserved : goal.loop-speed-preserved
loop-speed-preserved c =
    let fill = c.requires.numbers_fill in
    let (behind, same) = c.loop-speed.invariant in
    let more = c.loop-speed-test.true in
    let taken = c.take_number-taken.ensures in
    (one_taken _ fill behind more taken, one_stored _ fill behind more taken c.loop-speed.speeds c.loop-speed.auto.speeds same)
