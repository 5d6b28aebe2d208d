-- `fill::take_number`: behind the first digit, behind the second and at each turn the digits left, behind those taken, give the whole
-- number; a byte that is no digit ends them.
use Prim.Native.Nat.{◌-◌}
use lib.ListN.{length}
use Rattle.loading.proofs.DigitsTaken.{DigitsTaken}
use Rattle.loading.proofs.fill.take_number.Given as goal

abbrev pub invariant-loop-value : goal.invariant-loop-value
invariant-loop-value l = DigitsTaken l.text l.at l.i l.value

abbrev pub decreases-loop-value : goal.decreases-loop-value
decreases-loop-value l = length l.text - l.i
