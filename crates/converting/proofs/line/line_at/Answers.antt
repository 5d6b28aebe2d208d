-- `line::line_at`: the line from a place on, and its mark.
use mathlib.Core.Path.{ap, sym, ◌∙◌}
use native.Mathlib.Omega.{arith}
use Rattle.townfile.specs.Lines.{first_two}
use Rattle.converting.proofs.LineFound.{line_bytes, line_found}
use Rattle.converting.proofs.line.line_at.Goals as goal

pub slice_bounds-result-end : goal.slice_bounds-result-end
slice_bounds-result-end c = omega (arith, c.line_end-end.ensures, (line_found c.requires.in_lines c.requires.at_in_bounds).inside)

pub invariant_of-result : goal.invariant_of-result
invariant_of-result c = record { marked = c.mark_at-mark.ensures ∙ ap first_two (sym (line_bytes _ _ c.line_end-end.ensures)) }

pub returns : goal.returns
returns c = rw (line_bytes _ _ c.line_end-end.ensures) (line_found c.requires.in_lines c.requires.at_in_bounds)
