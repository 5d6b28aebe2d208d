-- `figures::column_figures`: at each turn the figures are those of the departures from k on (`Tallied`).
use Rattle.sheeting.proofs.Columns.{Tallied}
use Rattle.sheeting.proofs.figures.column_figures.Given as goal

abbrev pub invariant-loop-k : goal.invariant-loop-k
invariant-loop-k l = Tallied l.labels l.departures l.junctions l.junction l.k l.figures
