-- `lines::put_lines`: so far the lines of the junctions before this one are put, and at the end all of them.
use mathlib.Core.Path.{◌≡◌}
use native.Mathlib.Omega.{arith}
use Rattle.sheet_text.proofs.LineByLine.{none_put, line_put}
use Rattle.sheet_text.proofs.lines.put_lines.Goals as goal

pub loop-junction-init : goal.loop-junction-init
loop-junction-init c = none_put _ _

pub loop-junction-preserved : goal.loop-junction-preserved
loop-junction-preserved c = line_put _ _ c.loop-junction.invariant c.put_line.ensures

pub returns : goal.returns
returns c = let all : c.loop-junction.junction ≡ c.args.junctions = omega arith in rw all at c.loop-junction.invariant
