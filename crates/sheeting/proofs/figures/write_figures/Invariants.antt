-- `figures::write_figures`: at each turn the table starts with the figures of the columns before.
use Rattle.std.proofs.Common.{◌≡◌, ◌*◌, take}
use Rattle.sheeting.specs.Code.Columns.{column_figures_lem}
use Rattle.sheeting.proofs.figures.write_figures.Given as goal

abbrev pub invariant-loop-j : goal.invariant-loop-j
invariant-loop-j l = take (4 * l.j) l.figures ≡ column_figures_lem l.labels l.departures l.junctions 0 l.j
