-- `line::count_numbers`: what is counted, with those that are left, is all of them. Each field takes a byte at least, so the count fits.
use Prim.Native.Nat.{◌-◌, ◌≤◌}
use mathlib.Core.Path.{◌≡◌}
use lib.ListN.{length}
use Rattle.question_line.specs.Code.Counting.{counted_from}
use Rattle.question_line.proofs.line.count_numbers.Given as goal

abbrev pub invariant-loop-at : goal.invariant-loop-at
invariant-loop-at l = (l.count ≤ l.at) × (counted_from l.count l.text l.at ≡ counted_from 0 l.text l.start)

abbrev pub decreases-loop-at : goal.decreases-loop-at
decreases-loop-at l = length l.text - l.at
