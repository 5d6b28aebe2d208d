-- `sheet::sheet_text`: the input's length, its first line, and the town file behind it, in turn.
use mathlib.Core.Path.{sym, ◌∙◌}
use native.Mathlib.Omega.{arith}
use borrow.Author.Rules.{part_to_end}
use Rattle.formatting.proofs.Putting.{answer_printed}
use Rattle.question_line.proofs.Asked.{numbers_asked, malformed_asked}
use Rattle.sheet_text.specs.Answer.{lines_of, sheet_text_lem}
use Rattle.sheet_text.proofs.Answers.{sheet_too_long, sheet_other_form, sheet_no_source, next_inside, sheet_of_line}
use Rattle.sheet_text.proofs.sheet.sheet_text.Goals as goal

pub returns-then-input-gt-MAX_TEXT : goal.returns-then-input-gt-MAX_TEXT
unfolding sheet_text_lem
returns-then-input-gt-MAX_TEXT c =
    let (counted, (told, holds)) = answer_printed lines_of (sheet_too_long _ c.if-input-gt-MAX_TEXT.true) c.refuse.ensures in
    record { length = counted; refused = told; output = holds }

pub returns-in_default : goal.returns-in_default
unfolding sheet_text_lem
returns-in_default c =
    let other = malformed_asked _ _ (sym c.numbers_line.ensures.answer ∙ c.in_default.is) in
    let (counted, (told, holds)) = answer_printed lines_of (sheet_other_form _ c.if-input-gt-MAX_TEXT.false other) c.refuse-in_default.ensures in
    record { length = counted; refused = told; output = holds }

pub returns-then-count-eq0 : goal.returns-then-count-eq0
unfolding sheet_text_lem
returns-then-count-eq0 c =
    let line = numbers_asked _ _ (sym c.numbers_line.ensures.answer ∙ c.in-Some.is) in
    let (counted, (told, holds)) = answer_printed lines_of (sheet_no_source _ line c.if-input-gt-MAX_TEXT.false c.if-count-eq0.true) c.refuse-then-count-eq0.ensures in
    record { length = counted; refused = told; output = holds }

pub slice_bounds-town_sheet-count : goal.slice_bounds-town_sheet-count
slice_bounds-town_sheet-count c = next_inside _ (numbers_asked _ _ (sym c.numbers_line.ensures.answer ∙ c.in-Some.is))

pub slice_bounds-town_sheet-start : goal.slice_bounds-town_sheet-start
slice_bounds-town_sheet-start c = next_inside _ (numbers_asked _ _ (sym c.numbers_line.ensures.answer ∙ c.in-Some.is))

pub returns : goal.returns
unfolding sheet_text_lem
returns c =
    let line = numbers_asked _ _ (sym c.numbers_line.ensures.answer ∙ c.in-Some.is) in
    let town = part_to_end c.args.input.now c.in-Some.field-0.next in
    let (counted, (told, holds)) = answer_printed lines_of (sheet_of_line _ line (omega arith) c.numbers_line.ensures.numbers c.if-input-gt-MAX_TEXT.false)
    (rw (town, c.kept_count-end.ensures) at c.town_sheet.ensures) in
    record { length = counted; refused = told; output = holds }
