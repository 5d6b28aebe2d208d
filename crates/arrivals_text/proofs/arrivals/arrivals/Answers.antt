-- `arrivals::arrivals`: the input's length, its first line, and the town file behind it, in turn.
use mathlib.Core.Path.{sym, ◌∙◌}
use borrow.Author.Rules.{part_to_end}
use Rattle.formatting.proofs.Putting.{answer_printed}
use Rattle.arrivals_text.specs.Answer.{table_of, text_of_arrivals}
use Rattle.arrivals_text.proofs.Answers.{answer_too_long, question_malformed, question_asked}
use Rattle.arrivals_text.proofs.arrivals.arrivals.Goals as goal

pub returns-then-input-gt-MAX_TEXT : goal.returns-then-input-gt-MAX_TEXT
unfolding text_of_arrivals
returns-then-input-gt-MAX_TEXT c =
    let (counted, (told, holds)) = answer_printed table_of (answer_too_long _ c.if-input-gt-MAX_TEXT.true) c.refuse.ensures in
    record { length = counted; refused = told; output = holds }

pub returns-in_default : goal.returns-in_default
unfolding text_of_arrivals
returns-in_default c =
    let malformed = question_malformed _ c.if-input-gt-MAX_TEXT.false (sym c.question_in.ensures ∙ c.in_default.is) in
    let (counted, (told, holds)) = answer_printed table_of malformed c.refuse-in_default.ensures in
    record { length = counted; refused = told; output = holds }

pub slice_bounds-town_arrivals-count : goal.slice_bounds-town_arrivals-count
slice_bounds-town_arrivals-count c = (question_asked _ (sym c.question_in.ensures ∙ c.in-Some.is)).inside

pub slice_bounds-town_arrivals-start : goal.slice_bounds-town_arrivals-start
slice_bounds-town_arrivals-start c = (question_asked _ (sym c.question_in.ensures ∙ c.in-Some.is)).inside

pub returns : goal.returns
unfolding text_of_arrivals
returns c =
    let asked = question_asked _ (sym c.question_in.ensures ∙ c.in-Some.is) in
    let town = part_to_end c.args.input.now c.in-Some.question.town in
    let (counted, (told, holds)) = answer_printed table_of (asked.answers c.if-input-gt-MAX_TEXT.false) (rw town at c.town_arrivals.ensures) in
    record { length = counted; refused = told; output = holds }
