-- `closed::stretch_at`: the invariant says that the records left add the rest to the stretch.
use Rattle.driving.proofs.Closures.{Scanned}
use Rattle.driving.proofs.closed.stretch_at.Given as goal

abbrev pub invariant-loop-closure : goal.invariant-loop-closure
invariant-loop-closure l = Scanned l.works.closures.now l.works.arc l.tick l.limit l.stretch.closed l.stretch.until l.closure-index
