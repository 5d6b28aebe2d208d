-- `speeds::long_row`: the loop over the numbers of a line, where each speed is tested alone.
use Prim.Native.Nat.{◌+◌, ◌-◌}
use mathlib.Core.Path.{refl, sym}
use native.Mathlib.Omega.{arith}
use Rattle.model.specs.Rules.{speed_keeps}
use Rattle.number_rows.specs.NumbersRead.{row_keeps}
use Rattle.number_rows.proofs.NumberLoops.{left_malformed, left_goes_on, row_next}
use Rattle.number_rows.proofs.speeds.long_row.Goals as goal

pub returns-in_default : goal.returns-in_default
returns-in_default c =
    left_malformed c.loop.invariant (omega (arith, c.loop-test.true)) (sym c.in_default.ensures)

pub loop-preserved : goal.loop-preserved
loop-preserved c =
    let speed = c.in-Some.speed.value in
    let number = sym c.in-Some.ensures in
    let more = c.loop-test.true in
    let left = row_keeps (c.args.count - (c.loop.counter + 1)) in
    left_goes_on c.loop.invariant (omega (arith, more)) (speed_keeps speed) left number refl (row_next _ _ more speed)
