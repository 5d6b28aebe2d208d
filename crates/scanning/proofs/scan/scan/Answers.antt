-- `scan::scan`: at each turn what the lines from here on come to is what the text comes to.
use mathlib.Core.Path.{sym, ◌∙◌}
use native.Mathlib.Omega.{arith}
use borrow.Author.Tests.{lt-ltb, le-ltb}
use Rattle.townfile.specs.Lines.{names_due}
use Rattle.scanning.proofs.Scanning.{text_too_long, scan_starts, scan_refused, scan_goes_on, scan_ends}
use Rattle.scanning.proofs.scan.scan.Goals as goal

pub returns-then-text-gt-MAX_TEXT : goal.returns-then-text-gt-MAX_TEXT
returns-then-text-gt-MAX_TEXT c = text_too_long _ c.if-text-gt-MAX_TEXT.true

pub loop-at-init : goal.loop-at-init
loop-at-init c = ((rw c.start-progress.ensures (scan_starts _ c.if-text-gt-MAX_TEXT.false)), (omega arith, omega arith))

pub overflow_add-at : goal.overflow_add-at
overflow_add-at c =
    let read = scan_goes_on _ c.loop-at.line _ _ c.loop-at-test.true c.in-Ok.ensures in
    record { fits = omega (arith, read.0) }

pub loop-at-smaller : goal.loop-at-smaller
loop-at-smaller c =
    let read = scan_goes_on _ c.loop-at.line _ _ c.loop-at-test.true c.in-Ok.ensures in
    omega (arith, read.0, read.1)

pub loop-at-preserved : goal.loop-at-preserved
loop-at-preserved c =
    let read = scan_goes_on _ c.loop-at.line _ _ c.loop-at-test.true c.in-Ok.ensures in
    (read.2 ∙ c.loop-at.invariant.0, (omega (arith, read.0), omega (arith, read.1)))

pub returns-in-Err : goal.returns-in-Err
returns-in-Err c = scan_refused _ _ _ _ c.loop-at-test.true c.in-Err.ensures ∙ c.loop-at.invariant.0

pub returns-then-progress-lt-NAMES_DUE : goal.returns-then-progress-lt-NAMES_DUE
returns-then-progress-lt-NAMES_DUE c =
    let ended = sym c.loop-at.invariant.0 ∙ scan_ends _ _ _ _ c.loop-at-test.false in
    sym (rw (lt-ltb c.loop-at.progress.turn names_due c.if-progress-lt-NAMES_DUE.true) at ended)

pub returns : goal.returns
returns c =
    let ended = sym c.loop-at.invariant.0 ∙ scan_ends _ _ _ _ c.loop-at-test.false in
    sym (rw (le-ltb c.loop-at.progress.turn names_due c.if-progress-lt-NAMES_DUE.false) at ended)
