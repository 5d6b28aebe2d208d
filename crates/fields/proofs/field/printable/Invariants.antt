-- `field::printable`: at each turn the rest from here on answers as the whole does.
use Prim.Native.Nat.{◌≤◌}
use mathlib.Core.Path.{◌≡◌}
use lib.ListN.{length}
use Rattle.fields.specs.Fields.{printable_rest}
use Rattle.fields.proofs.field.printable.Given as goal

abbrev pub invariant-loop-i : goal.invariant-loop-i
invariant-loop-i l = (printable_rest l.text l.i ≡ printable_rest l.text l.at) × (length l.text ≤ l.at → l.i ≡ l.at)
