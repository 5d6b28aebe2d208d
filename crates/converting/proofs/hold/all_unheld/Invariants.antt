-- `hold::all_unheld`: at each turn the lines from here on decide for all.
use Prim.Native.Nat.{◌-◌}
use lib.ListN.{length}
use Rattle.converting.proofs.HoldsLeft.{HoldsLeft}
use Rattle.converting.proofs.hold.all_unheld.Given as goal

abbrev pub invariant-loop-at : goal.invariant-loop-at
invariant-loop-at l = HoldsLeft l.text l.at

abbrev pub decreases-loop-at : goal.decreases-loop-at
decreases-loop-at l = length l.text - l.at
