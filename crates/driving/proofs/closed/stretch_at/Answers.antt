-- `closed::stretch_at`: each record adds its own to the stretch, and the whole list is scanned at the end.
use Rattle.driving.proofs.Closures.{scan_goes_on, scan_ends}
use Rattle.driving.proofs.closed.stretch_at.Goals as goal

pub loop-closure-preserved : goal.loop-closure-preserved
loop-closure-preserved c =
    scan_goes_on c.loop-closure.invariant c.loop-closure-test.true c.with_closure-stretch.ensures.closed_value c.with_closure-stretch.ensures.until_value

pub returns-clause-closed_value : goal.returns-clause-closed_value
returns-clause-closed_value c = (scan_ends c.loop-closure.invariant c.loop-closure-test.false).0

pub returns-clause-until_value : goal.returns-clause-until_value
returns-clause-until_value c = (scan_ends c.loop-closure.invariant c.loop-closure-test.false).1
