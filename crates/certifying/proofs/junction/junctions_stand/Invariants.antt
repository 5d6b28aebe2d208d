-- `junction::junctions_stand` goes on while each junction stands.
use Prim.Native.Nat.{◌<◌}
use lib.ListN.{length}
use Rattle.certifying.proofs.Looking.{LookedSoFar}
use Rattle.certifying.proofs.junction.junctions_stand.Given as goal

abbrev pub invariant-loop-junction : goal.invariant-loop-junction
invariant-loop-junction l =
    LookedSoFar l.fences l.heads l.source l.departure l.labels l.predecessors l.intervals l.junction × (l.interval < length l.fences)
