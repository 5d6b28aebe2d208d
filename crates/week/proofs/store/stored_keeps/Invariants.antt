-- `store::stored_keeps` looks from the front: the invariant is that the masks before the place are not 0, and which days they have (`Prefix`).
use Rattle.week.proofs.Prefix.{Prefix}
use Rattle.week.proofs.store.stored_keeps.Given as goal

abbrev pub invariant-loop-mask : goal.invariant-loop-mask
invariant-loop-mask l = Prefix l.masks l.together l.mask-index
