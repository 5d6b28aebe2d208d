-- `table::put_line`: the line's parts one behind the other.
use Rattle.formatting.proofs.Putting.{puts_then}
use Rattle.arrivals_text.specs.Answer.{junction_line_lem}
use Rattle.arrivals_text.proofs.table.put_line.Goals as goal

pub returns : goal.returns
unfolding junction_line_lem
returns c =
    puts_then c.put_number.ensures
    (puts_then c.put_byte.ensures
    (puts_then c.put_number_unless.ensures
    (puts_then c.put_byte-2.ensures (puts_then c.put_number_unless-2.ensures c.put_byte-3.ensures))))
