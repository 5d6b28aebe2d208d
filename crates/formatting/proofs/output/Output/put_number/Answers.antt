-- `output::Output::put_number`: the library's digits are these.
use mathlib.Core.Path.{◌∙◌}
use native.Mathlib.Omega.{arith}
use Rattle.formatting.proofs.Digits.{decimal_digits}
use Rattle.formatting.proofs.output.Output.put_number.Goals as goal

pub returns : goal.returns
returns c = rw (decimal_digits c.args.number (omega (arith, c.ranges.number.fits))) (rw (c.as_bytes.ensures.value ∙ c.format.ensures.text) at c.put_text.ensures)
