-- `name::find_name`: at each turn the place that the lines from here on give is the one that the text gives.
use Prim.Native.Nat.{◌-◌}
use lib.ListN.{length}
use Rattle.naming.proofs.Naming.{NamesLeft}
use Rattle.naming.proofs.name.find_name.Given as goal

abbrev pub invariant-loop-at : goal.invariant-loop-at
invariant-loop-at l = NamesLeft l.text l.junction l.at

abbrev pub decreases-loop-at : goal.decreases-loop-at
decreases-loop-at l = length l.text - l.at
