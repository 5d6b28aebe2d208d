-- `line::fences_line`: its turn, then what its numbers come to.
use borrow.Author.Tests.{eq-eqb, ne_eqb}
use Rattle.std.proofs.lemmas.Result.{err_from_is_err_and}
use Rattle.townfile.specs.Lines.{fences_due, after_fences_lem}
use Rattle.reading.specs.Code.Kinds.{fences_step}
use Rattle.reading.proofs.Steps.{numbers_in_turn}
use Rattle.reading.proofs.line.fences_line.Goals as goal

pub returns-then-progress-ne-FENCES_DUE : goal.returns-then-progress-ne-FENCES_DUE
unfolding fences_step
returns-then-progress-ne-FENCES_DUE c = rw (ne_eqb _ fences_due c.if-progress-ne-FENCES_DUE.true)

pub returns-in_err-end : goal.returns-in_err-end
unfolding fences_step
returns-in_err-end c =
    let p = err_from_is_err_and c.from_residual.result c.from_residual.ensures.1 in
    rw (p.1, p.2) (numbers_in_turn _ (after_fences_lem c.args.progress) (eq-eqb _ fences_due c.if-progress-ne-FENCES_DUE.false) c.in_err-end.ensures)

pub returns : goal.returns
unfolding fences_step
returns c = rw c.after_fences.ensures (numbers_in_turn _ _ (eq-eqb _ fences_due c.if-progress-ne-FENCES_DUE.false) c.in_ok-end.ensures)
