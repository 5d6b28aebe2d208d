-- `lines::put_marked`: the letters, and behind them all but the line's first two bytes.
use Rattle.formatting.proofs.Putting.{puts_then}
use Rattle.converting.proofs.LineMark.{behind_mark_law}
use Rattle.converting.proofs.lines.put_marked.Goals as goal

pub returns : goal.returns
returns c = puts_then c.put_text.ensures (rw behind_mark_law at c.put_text-2.ensures)
