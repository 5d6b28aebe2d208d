-- `list::list_keeps`: the invariant is that the masks still to come, after those counted so far, come to what the list comes to.
use Rattle.week.proofs.Masks.{SoFar}
use Rattle.week.proofs.list.list_keeps.Given as goal

abbrev pub invariant-loop-mask : goal.invariant-loop-mask
invariant-loop-mask l = SoFar l.masks l.together l.ones l.mask-index
