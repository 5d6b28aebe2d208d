-- `numbers::numbers_end`: the line has to end here.
use mathlib.Core.Path.{sym, ◌∙◌}
use Rattle.number_rows.proofs.NumbersLeft.{numbers_not_ended, numbers_within, numbers_outside}
use Rattle.number_rows.proofs.numbers.numbers_end.Goals as goal

pub returns-then-not-at_line_end : goal.returns-then-not-at_line_end
returns-then-not-at_line_end c = numbers_not_ended _ _ _ (sym c.at_line_end.ensures ∙ c.if-not-at_line_end.true)

pub returns-then-not-within : goal.returns-then-not-within
returns-then-not-within c = numbers_outside _ _ c.if-not-within.true (sym c.at_line_end.ensures ∙ c.if-not-at_line_end.false)

pub returns : goal.returns
returns c = numbers_within _ _ c.if-not-within.false (sym c.at_line_end.ensures ∙ c.if-not-at_line_end.false)
