-- `speeds::short_speeds`: at each turn, if a word ends here, what the numbers left come to is what all of them come to. Each
-- number has at most 4 bytes with its space, so there are enough.
use native.Mathlib.Omega.{arith}
use Rattle.number_rows.proofs.ShortSpeeds.{row_goes_on}
use Rattle.number_rows.proofs.speeds.short_speeds.Goals as goal

pub loop-preserved : goal.loop-preserved
loop-preserved c =
    let field = c.in_ok-i.ensures in
    (row_goes_on _ _ _ _ _ c.loop.invariant.0 (omega arith) c.loop-test.true field, omega (arith, field.digits.near))
