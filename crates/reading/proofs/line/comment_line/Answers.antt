-- `line::comment_line`: nothing more, or a space and bytes that can be printed.
use borrow.Author.Rules.{rules}
use Rattle.fields.proofs.LineFrom.{line_ends, line_feed_ends}
use Rattle.reading.proofs.Steps.{comment_ends, comment_attached, comment_behind_gap}
use Rattle.reading.proofs.line.comment_line.Goals as goal

pub returns-then-text-at : goal.returns-then-text-at
returns-then-text-at c = comment_ends _ _ _ (line_ends _ _ c.if-text-at.true)

pub returns-in_default-printable : goal.returns-in_default-printable
returns-in_default-printable c =
    comment_behind_gap _ _ _ c.if-text-at.false c.in-32.is c.in_default-printable.ensures

pub returns-in-10 : goal.returns-in-10
returns-in-10 c = comment_ends _ _ _ (line_feed_ends _ _ c.if-text-at.false c.in-10.is)

pub returns-in-Some : goal.returns-in-Some
returns-in-Some c =
    comment_behind_gap _ _ _ c.if-text-at.false c.in-32.is c.in-Some.ensures

pub returns-in_default : goal.returns-in_default
returns-in_default c = comment_attached _ _ _ c.if-text-at.false (search rules) (search rules)
