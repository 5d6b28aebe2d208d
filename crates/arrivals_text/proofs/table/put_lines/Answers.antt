-- `table::put_lines`: so far the lines of the junctions before this one are put, and at the end all of them.
use Rattle.arrivals_text.proofs.Lines.{none_put, line_put, lines_put}
use Rattle.arrivals_text.proofs.table.put_lines.Goals as goal

pub loop-junction-init : goal.loop-junction-init
loop-junction-init c = none_put c.args.labels.now c.args.predecessors.now _

pub loop-junction-preserved : goal.loop-junction-preserved
loop-junction-preserved c = line_put _ _ c.requires.predecessors_len c.loop-junction-test.true c.loop-junction.invariant c.put_line.ensures

pub returns : goal.returns
returns c = lines_put _ _ c.requires.predecessors_len c.loop-junction-test.false c.loop-junction.invariant
