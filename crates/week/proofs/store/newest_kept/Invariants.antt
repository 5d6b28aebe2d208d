-- `store::newest_kept` looks at slot after slot: the invariant is that all before keep.
use mathlib.Core.Path.{◌≡◌}
use mathlib.Core.Bool.{true}
use Rattle.week.specs.Store.{store, slot_keeps, below}
use Rattle.week.proofs.store.newest_kept.Given as goal

abbrev pub invariant-loop-slot : goal.invariant-loop-slot
invariant-loop-slot l = below l.slot (slot_keeps (store l.versions l.lists)) ≡ true
