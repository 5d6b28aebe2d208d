-- `mark::mark_closed` marks row by row: the invariant says that the rows so far are in the parts of their arcs.
use mathlib.Core.Path.{◌≡◌}
use Rattle.closed_arcs.specs.Marks.{unmarked}
use Rattle.closed_arcs.proofs.Marks.{MarkedSoFar}
use Rattle.closed_arcs.proofs.mark.mark_closed.Given as goal

abbrev pub invariant-loop-k : goal.invariant-loop-k
invariant-loop-k l = l.initial.marks ≡ unmarked → MarkedSoFar l.closures l.k l.marks
