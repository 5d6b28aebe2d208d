-- `lines::put_line`: the line's parts one behind the other.
use Rattle.formatting.proofs.Putting.{puts_then}
use Rattle.sheet_text.specs.Answer.{sheet_line}
use Rattle.sheet_text.proofs.lines.put_line.Goals as goal

pub returns : goal.returns
unfolding sheet_line
returns c =
    puts_then c.put_number.ensures
    (puts_then c.put_figure.ensures
    (puts_then c.put_figure-2.ensures
    (puts_then c.put_figure-3.ensures (puts_then c.put_figure-4.ensures c.put_byte.ensures))))
