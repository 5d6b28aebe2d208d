-- `table::put_table`: the output has room for the header and the lines.
use mathlib.Core.Bool.{false}
use native.Mathlib.Omega.{arith}
use borrow.Author.Rules.{rules}
use Rattle.formatting.proofs.Putting.{puts_then, puts_printed}
use Rattle.arrivals_text.specs.Answer.{table_text}
use Rattle.arrivals_text.proofs.Lines.{table_fits}
use Rattle.arrivals_text.proofs.table.put_table.Goals as goal

pub returns : goal.returns
unfolding table_text
returns c =
    let short = table_fits c.requires (λ j h. omega (arith, c.type_inv.labels j)) in
    let printed = puts_printed false c.new-output.ensures.length c.new-output.ensures.buffer (puts_then c.put_text.ensures c.put_lines.ensures) (omega (arith, short, c.told-buffer)) in
    search (rules, printed)
