-- `field::just_zero`: no word stands behind the 0 at the text's end and at a separator.
use borrow.Author.Rules.{rules}
use Rattle.fields.proofs.LineFrom.{line_ends, word_ends, separator_ends}
use Rattle.fields.proofs.Digits.{zero_ends, zero_goes_on}
use Rattle.fields.proofs.field.just_zero.Goals as goal

pub returns-then-text-end : goal.returns-then-text-end
returns-then-text-end c = zero_ends _ _ (word_ends _ _ (line_ends _ _ c.if-text-end.true))

pub returns-in-32 : goal.returns-in-32
returns-in-32 c = zero_ends _ _ (separator_ends _ _ c.if-text-end.false c.in-32.is)

pub returns-in_default : goal.returns-in_default
returns-in_default c = zero_goes_on _ _ c.if-text-end.false (search rules)
