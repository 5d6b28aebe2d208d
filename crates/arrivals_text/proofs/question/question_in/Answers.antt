-- `question::question_in`: a line of another form, of another count, or the two numbers that the table then holds.
use mathlib.Core.Path.{sym, ◌∙◌}
use lib.ListN.{replicate}
use Rattle.question_line.proofs.Asked.{numbers_asked, malformed_asked}
use Rattle.arrivals_text.proofs.Questions.{other_form, other_count, asked}
use Rattle.arrivals_text.proofs.question.question_in.Goals as goal

pub returns-in_err-asked : goal.returns-in_err-asked
returns-in_err-asked c =
    c.from_residual.ensures ∙ other_form _ (malformed_asked _ _ (sym c.numbers_line.ensures.answer ∙ c.in_err-asked.was))

pub returns-then-asked-ne2 : goal.returns-then-asked-ne2
returns-then-asked-ne2 c = other_count _ (numbers_asked _ _ (sym c.numbers_line.ensures.answer ∙ c.in_ok-asked.was)) c.if-asked-ne2.true

pub returns : goal.returns
returns c =
    let line = numbers_asked _ _ (sym c.numbers_line.ensures.answer ∙ c.in_ok-asked.was) in
    asked _ line c.if-asked-ne2.false (c.numbers_line.ensures.numbers ∙ line.table (replicate 2 0))
