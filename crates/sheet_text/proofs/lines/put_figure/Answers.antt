-- `lines::put_figure`: the space, and the number behind it.
use Rattle.formatting.proofs.Putting.{puts_then}
use Rattle.sheet_text.proofs.lines.put_figure.Goals as goal

pub returns : goal.returns
returns c = puts_then c.put_byte.ensures c.put_number.ensures
