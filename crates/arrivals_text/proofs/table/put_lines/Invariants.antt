-- `table::put_lines`: so far the lines of the junctions before this one are put, and at the end all of them.
use Rattle.arrivals_text.proofs.Lines.{LinesPut}
use Rattle.arrivals_text.proofs.table.put_lines.Given as goal

abbrev pub invariant-loop-junction : goal.invariant-loop-junction
invariant-loop-junction l = LinesPut l.labels l.predecessors l.junction l.initial.output l.output
