-- `field::at_line_end`: nothing of the line is left at the text's end and at a line feed.
use borrow.Author.Tests.{le-leb}
use Rattle.fields.proofs.LineFrom.{at_end_test, line_feed_test}
use Rattle.fields.proofs.field.at_line_end.Goals as goal

pub returns-then-text-at : goal.returns-then-text-at
returns-then-text-at c = rw (le-leb _ _ c.if-text-at.true) (at_end_test _ _ c.if-text-at.true)

pub returns-else-text-at : goal.returns-else-text-at
returns-else-text-at c = line_feed_test _ _ c.if-text-at.false
