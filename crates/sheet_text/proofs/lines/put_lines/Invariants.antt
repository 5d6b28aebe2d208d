-- `lines::put_lines`: so far the lines of the junctions before this one are put, and at the end all of them.
use Rattle.formatting.specs.Output.{Puts}
use Rattle.sheet_text.specs.Answer.{sheet_lines}
use Rattle.sheet_text.proofs.lines.put_lines.Given as goal

abbrev pub invariant-loop-junction : goal.invariant-loop-junction
invariant-loop-junction l = Puts (sheet_lines l.figures 0 l.junction) l.initial.output l.output
