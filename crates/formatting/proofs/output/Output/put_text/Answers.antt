-- `output::Output::put_text`: the text's copy stands between what is before and what is behind it.
use mathlib.Core.Path.{refl}
use Rattle.formatting.proofs.Putting.{copied}
use Rattle.formatting.proofs.output.Output.put_text.Goals as goal

pub returns-then-text-self : goal.returns-then-text-self
returns-then-text-self c = record { lent = refl; puts = copied c.copy.ensures }
