-- `speeds::long_row`: the loop over the numbers of a line, where each speed is tested alone.
use Prim.Native.Nat.{◌+◌, ◌-◌}
use mathlib.Core.Bool.{cond}
use Rattle.number_rows.specs.NumbersRead.{row_keeps}
use Rattle.number_rows.proofs.NumberLoops.{Left}
use Rattle.number_rows.proofs.speeds.long_row.Given as goal

abbrev pub invariant-loop : goal.invariant-loop
invariant-loop l =
    Left (row_keeps l.count) l.text l.at (l.count + cond l.held 1 0) l.within (row_keeps (l.count - l.counter)) l.counter l.i
