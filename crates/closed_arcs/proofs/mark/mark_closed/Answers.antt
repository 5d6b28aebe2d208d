-- `mark::mark_closed` marks row by row: at the start no row is looked at, and at the end all of them, or as many as a question may bring.
use Rattle.std.proofs.Common.{arith}
use Rattle.closed_arcs.proofs.Marks.{none_marked, all_marked}
use Rattle.closed_arcs.proofs.mark.mark_closed.Goals as goal

pub loop-k-init : goal.loop-k-init
loop-k-init c = none_marked _ _

pub returns : goal.returns
returns c none = all_marked _ _ _ (c.loop-k.invariant none) (λ few. omega (arith, few, c.loop-k-test.false, c.min-k-end.ensures))
