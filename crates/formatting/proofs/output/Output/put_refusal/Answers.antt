-- `output::Output::put_refusal`: the words and the numbers one behind the other.
use Rattle.formatting.specs.Texts.{refusal_text}
use Rattle.formatting.proofs.Putting.{puts_then}
use Rattle.formatting.proofs.output.Output.put_refusal.Goals as goal

pub returns : goal.returns
unfolding refusal_text
returns c =
    puts_then c.put_text.ensures
    (puts_then (rw c.number.ensures at c.put_number.ensures)
    (puts_then c.put_text-2.ensures (puts_then c.put_number-2.ensures c.put_byte.ensures)))
