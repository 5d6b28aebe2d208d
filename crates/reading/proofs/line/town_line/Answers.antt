-- `line::town_line`: its turn, then its two fields.
use mathlib.Core.Path.{sym}
use borrow.Author.Tests.{ne_eqb}
use Rattle.std.proofs.lemmas.Result.{err_from_is_err_and}
use Rattle.townfile.specs.Lines.{town_due}
use Rattle.reading.specs.Code.Kinds.{town_step}
use Rattle.reading.proofs.Steps.{town_no_first, town_no_second, town_numbers}
use Rattle.reading.proofs.line.town_line.Goals as goal

pub returns-then-progress-ne-TOWN_DUE : goal.returns-then-progress-ne-TOWN_DUE
unfolding town_step
returns-then-progress-ne-TOWN_DUE c = rw (ne_eqb _ town_due c.if-progress-ne-TOWN_DUE.true)

pub returns-in_default : goal.returns-in_default
returns-in_default c = town_no_first _ _ _ _ c.if-progress-ne-TOWN_DUE.false (sym c.in_default.ensures)

pub returns-in_default-read_field : goal.returns-in_default-read_field
returns-in_default-read_field c =
    town_no_second _ _ _ _ c.if-progress-ne-TOWN_DUE.false (sym c.in-Some.ensures) (sym c.in_default-read_field.ensures)

pub returns-in_err-end : goal.returns-in_err-end
returns-in_err-end c =
    let numbers = town_numbers _ _ _ _ c.if-progress-ne-TOWN_DUE.false (sym c.in-Some.ensures) (sym c.in-Some-read_field.ensures) in
    let p = err_from_is_err_and c.from_residual.result c.from_residual.ensures.1 in
    rw (p.1, p.2) (numbers c.town_keeps-within.ensures c.in_err-end.ensures)

pub returns : goal.returns
returns c =
    let numbers = town_numbers _ _ _ _ c.if-progress-ne-TOWN_DUE.false (sym c.in-Some.ensures) (sym c.in-Some-read_field.ensures) in
    rw c.after_town.ensures (numbers c.town_keeps-within.ensures c.in_ok-end.ensures)
