-- `lines::put_lines`: at each turn what the lines from here on come to, put behind what is put, is the whole.
use Prim.Native.Nat.{◌-◌}
use mathlib.Core.Path.{◌≡◌}
use lib.ListN.{length}
use Rattle.converting.proofs.LinesPut.{LinesPut}
use Rattle.converting.proofs.lines.put_lines.Given as goal

abbrev pub invariant-loop-at : goal.invariant-loop-at
invariant-loop-at l = record {
  lent : l.output.buffer.ghost_name ≡ l.initial.output.buffer.ghost_name;
  puts : LinesPut l.wanted l.text l.at l.fn.buffer l.output.buffer.now l.output.length;
}

abbrev pub decreases-loop-at : goal.decreases-loop-at
decreases-loop-at l = length l.text - l.at
