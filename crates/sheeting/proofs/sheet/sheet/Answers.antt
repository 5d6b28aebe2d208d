-- `sheet::sheet`: once the list is taken, the rows that are lent on are the records that stop the asker.
use Rattle.std.proofs.Common.{◌≡◌, ap, ◌∙◌, arith, take}
use Rattle.std.proofs.Math.ListN.{length-map}
use native.Mathlib.Nat.{mul-le-mul}
use Rattle.model.specs.Closures.{closures_of}
use Rattle.model.specs.Lent.{lent_network}
use Rattle.model.specs.Parties.{closures_for}
use Rattle.sheeting.specs.Code.Columns.{column_figures_lem}
use Rattle.sheeting.specs.Sheet.{ShiftTaken}
use Rattle.sheeting.proofs.RowByRow.{columns_kept, figures_are}
use Rattle.sheeting.proofs.SheetRules.{check_taken, shift_taken_for, replies}
use Rattle.sheeting.proofs.sheet.sheet.Goals as goal
use Rattle.sheeting.proofs.sheet.sheet.Goals.{After-put_stopping-count}

pub overflow_mul-departures : goal.overflow_mul-departures
overflow_mul-departures c =
    let taken = (check_taken _ _ _ _ c.in_ok-shift_check.ensures).1 in
    omega (arith, mul-le-mul taken.at_most taken.accepted.junctions_fit)

pub overflow_mul-junctions : goal.overflow_mul-junctions
overflow_mul-junctions c =
    let taken = (check_taken _ _ _ _ c.in_ok-shift_check.ensures).1 in
    omega (arith, taken.accepted.junctions_fit)

lent_on : (c : After-put_stopping-count) →
    let N = lent_network c.args.network.now (closures_of c.args.closures.now) in
    ShiftTaken N c.args.source c.args.departures.now × (closures_of (take c.put_stopping-count.result c.put_stopping-count.new.rows) ≡ closures_for c.args.asker N.closures)
lent_on c =
    let taken = (check_taken _ _ _ _ c.in_ok-shift_check.ensures).1 in
    (taken, c.put_stopping-count.ensures.rows (rw length-map at taken.closures_kept.at_most))

pub write_rows-requires : goal.write_rows-requires
write_rows-requires c =
    let (taken, stopping) = lent_on (goal.at.write_rows-requires c).After-put_stopping-count in
    rw stopping record { taken = shift_taken_for _ taken; labels_long = c.if-labels-departures.false }

pub write_figures-requires-clause-by_index : goal.write_figures-requires-clause-by_index
write_figures-requires-clause-by_index c j h =
    let (taken, stopping) = lent_on (goal.at.write_figures-requires-clause-by_index c).After-put_stopping-count in
    rw (rw stopping at c.write_rows.ensures) (columns_kept _ _ _ (shift_taken_for _ taken) j h)

pub returns-clause-labels : goal.returns-clause-labels
returns-clause-labels c =
    let (taken, stopping) = lent_on (goal.at.returns-clause-labels c).After-put_stopping-count in
    rw (replies _ _ _ _ _ _ c.in_ok-shift_check.ensures c.if-labels-departures.false c.if-figures-junctions.false) (rw stopping at c.write_rows.ensures)

pub returns-clause-figures : goal.returns-clause-figures
returns-clause-figures c =
    let (taken, stopping) = lent_on (goal.at.returns-clause-figures c).After-put_stopping-count in
    let of_rows = ap (λ l. column_figures_lem l c.args.departures.now c.args.network.now.junctions 0 c.args.network.now.junctions) (rw stopping at c.write_rows.ensures) in
    rw (replies _ _ _ _ _ _ c.in_ok-shift_check.ensures c.if-labels-departures.false c.if-figures-junctions.false)
    (c.write_figures.ensures ∙ of_rows ∙ figures_are _ _ _)
