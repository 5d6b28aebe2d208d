-- `lines::put_new`: an arc's line, and its hold behind it.
use mathlib.Core.Path.{◌≡◌, sym, ◌∙◌}
use native.Mathlib.Omega.{arith}
use borrow.Author.Tests.{eq-eqb, ne_eqb}
use Rattle.townfile.specs.Lines.{mark_tn, mark_ar, first_two}
use Rattle.formatting.proofs.Putting.{puts_then}
use Rattle.converting.proofs.lines.put_new.Goals as goal

pub returns-in-16722 : goal.returns-in-16722
returns-in-16722 c =
    let line = c.args.line.now.bytes.now in
    let is : first_two line ≡ mark_ar = sym c.args.line.now.marked ∙ c.in-16722.is in
    rw (ne_eqb (first_two line) mark_tn (λ e. omega arith), eq-eqb (first_two line) mark_ar is) (puts_then c.put_text.ensures c.put_text-in-16722.ensures)
