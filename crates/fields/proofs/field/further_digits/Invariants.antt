-- `field::further_digits`: at each turn the number from here on, behind what has been read, is the whole number.
use Prim.Native.Nat.{◌≤◌, ◌<◌}
use mathlib.Core.Path.{◌≡◌}
use lib.ListN.{length}
use Rattle.fields.specs.Code.Digits.{number_from}
use Rattle.fields.proofs.field.further_digits.Given as goal

abbrev pub invariant-loop-i : goal.invariant-loop-i
invariant-loop-i l = (number_from l.text l.i l.value ≡ number_from l.text l.second l.digit) × (l.value < 10000000) × (length l.text ≤ l.second → l.i ≡ l.second)
