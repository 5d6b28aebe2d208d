-- `line::count_numbers`: what is counted, with those that are left, is all of them. Each field takes a byte at least, so the count fits.
use mathlib.Core.Path.{sym, ◌∙◌}
use native.Mathlib.Omega.{arith}
use Rattle.fields.proofs.FieldsLeft.{field_read}
use Rattle.question_line.proofs.Counting.{field_behind, count_goes_on, no_field, line_feed_found, text_ended}
use Rattle.question_line.proofs.line.count_numbers.Goals as goal

pub returns-then-text-at-eq-LINE_FEED : goal.returns-then-text-at-eq-LINE_FEED
returns-then-text-at-eq-LINE_FEED c =
    line_feed_found _ _ c.loop-at-test.true c.if-text-at-eq-LINE_FEED.true _ ∙ c.loop-at.invariant.1

pub returns-in_err-field : goal.returns-in_err-field
returns-in_err-field c =
    let none = sym c.read_field.ensures ∙ c.in_err-field.was in
    c.from_residual.ensures ∙ no_field _ _ c.loop-at-test.true c.if-text-at-eq-LINE_FEED.false none _ ∙ c.loop-at.invariant.1

pub loop-at-smaller : goal.loop-at-smaller
loop-at-smaller c = omega (arith, field_behind _ _ (field_read _ _ (sym c.read_field.ensures ∙ c.in_ok-field.was)))

pub loop-at-preserved : goal.loop-at-preserved
loop-at-preserved c =
    let field = field_read _ _ (sym c.read_field.ensures ∙ c.in_ok-field.was) in
    (omega (arith, field_behind _ _ field), count_goes_on _ _ field _ ∙ c.loop-at.invariant.1)

pub returns : goal.returns
returns c = text_ended _ _ c.loop-at-test.false _ ∙ c.loop-at.invariant.1
