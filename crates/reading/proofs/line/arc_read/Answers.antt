-- `line::arc_read`: each field takes its number from the list, and the row is what is left.
use mathlib.Core.Path.{sym, ◌∙◌}
use Rattle.std.proofs.lemmas.Result.{err_from_is_err_and}
use Rattle.reading.proofs.Steps.{arc_no_tail, arc_no_head, arc_no_metres, arc_fitted, arc_outside, arc_refused}
use Rattle.reading.proofs.line.arc_read.Goals as goal

pub returns-in_default : goal.returns-in_default
returns-in_default c = arc_no_tail c.args.progress _ _ (sym c.in_default.ensures)

pub returns-in_default-read_field : goal.returns-in_default-read_field
returns-in_default-read_field c = arc_no_head c.args.progress _ _ (sym c.in-Some.ensures) (sym c.in_default-read_field.ensures)

pub returns-in_default-read_field-2 : goal.returns-in_default-read_field-2
returns-in_default-read_field-2 c =
    arc_no_metres c.args.progress _ _ (sym c.in-Some.ensures) (sym c.in-Some-read_field.ensures) (sym c.in_default-read_field-2.ensures)

-- an arc that does not fit
pub returns-then-not-arc_fits : goal.returns-then-not-arc_fits
returns-then-not-arc_fits c =
    arc_outside c.args.progress _ _ (sym c.in-Some.ensures) (sym c.in-Some-read_field.ensures) (sym c.in-Some-read_field-2.ensures)
    (sym c.if-not-arc_fits.true ∙ c.arc_fits.ensures) c.in_ok-long_row.ensures

pub returns-in_err-long_row : goal.returns-in_err-long_row
returns-in_err-long_row c =
    let p = err_from_is_err_and c.from_residual.result c.from_residual.ensures.1 in
    rw (p.1, p.2)
    (arc_refused c.args.progress _ _ (sym c.in-Some.ensures) (sym c.in-Some-read_field.ensures) (sym c.in-Some-read_field-2.ensures)
    (sym c.if-not-arc_fits.true ∙ c.arc_fits.ensures) c.in_err-long_row.ensures)

-- one that fits
pub returns : goal.returns
returns c =
    arc_fitted c.args.progress _ _ (sym c.in-Some.ensures) (sym c.in-Some-read_field.ensures) (sym c.in-Some-read_field-2.ensures)
    (sym c.if-not-arc_fits.false ∙ c.arc_fits.ensures) c.row_read.ensures
