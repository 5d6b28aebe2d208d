-- `lines::put_sheet`: the output has room for the lines.
use mathlib.Core.Bool.{false}
use native.Mathlib.Omega.{arith}
use borrow.Author.Rules.{rules}
use Rattle.formatting.proofs.Putting.{puts_printed}
use Rattle.sheet_text.proofs.LineByLine.{lines_fit}
use Rattle.sheet_text.proofs.lines.put_sheet.Goals as goal

pub returns : goal.returns
returns c =
    let short = lines_fit _ (λ i h. omega (arith, c.type_inv.figures i)) c.requires in
    let printed = puts_printed false c.new-output.ensures.length c.new-output.ensures.buffer c.put_lines.ensures (omega (arith, short, c.told-buffer)) in
    search (rules, printed)
