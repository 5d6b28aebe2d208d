-- `scan::next_line`: what the bytes say, unless the line's end or length comes first.
use mathlib.Core.Path.{◌∙◌}
use native.Mathlib.Omega.{arith}
use Rattle.std.proofs.lemmas.Result.{err_from_is_err_and}
use Rattle.scanning.proofs.Scanning.{keeps_refuse, keeps_pass, line_faults, read_ends}
use Rattle.scanning.proofs.scan.next_line.Goals as goal

pub line_keeps-requires : goal.line_keeps-requires
line_keeps-requires c = omega (arith, (read_ends _ _ _ c.in-Ok.ensures).1)

pub returns-in_err-line_keeps : goal.returns-in_err-line_keeps
returns-in_err-line_keeps c =
    let p = err_from_is_err_and c.from_residual.result c.from_residual.ensures.1 in
    rw (p.1, p.2) (keeps_refuse _ _ _ (read_ends _ _ _ c.in-Ok.ensures).1 c.in_err-line_keeps.ensures)

pub returns : goal.returns
returns c = c.in-Ok.ensures ∙ keeps_pass _ _ _ (read_ends _ _ _ c.in-Ok.ensures).1 c.in_ok-line_keeps.ensures

pub returns-in-Err : goal.returns-in-Err
returns-in-Err c = line_faults _ _ _ c.in-Err.ensures c.line_fault.ensures
