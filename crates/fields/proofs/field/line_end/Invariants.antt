-- `field::line_end`: at each turn the line from here on ends where the whole line ends.
use Prim.Native.Nat.{◌+◌, ◌≤◌}
use mathlib.Core.Path.{◌≡◌}
use lib.ListN.{length}
use Rattle.fields.specs.Fields.{line_from}
use Rattle.fields.proofs.field.line_end.Given as goal

abbrev pub invariant-loop-i : goal.invariant-loop-i
invariant-loop-i l = (l.i + length (line_from l.text l.i) ≡ l.at + length (line_from l.text l.at)) × (length l.text ≤ l.at → l.i ≡ l.at)
