-- `output::Output::put_number_unless`: the dash or the number.
use Rattle.formatting.proofs.Texts.{dash, no_dash}
use Rattle.formatting.proofs.output.Output.put_number_unless.Goals as goal

pub returns-then-number-none : goal.returns-then-number-none
returns-then-number-none c = rw (dash _ _ c.if-number-none.true) c.put_byte.ensures

pub returns-else-number-none : goal.returns-else-number-none
returns-else-number-none c = rw (no_dash _ _ c.if-number-none.false) c.put_number.ensures
