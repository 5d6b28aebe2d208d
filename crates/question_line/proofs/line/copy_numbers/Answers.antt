-- `line::copy_numbers`: the numbers left, put behind those that are copied, are all of them.
use mathlib.Core.Path.{sym, ap, ◌∙◌}
use native.Mathlib.Omega.{arith}
use lib.Seq.{sets}
use Rattle.std.proofs.lemmas.List.{set-get_or}
use Rattle.fields.specs.Fields.{numbers_from}
use Rattle.fields.proofs.FieldsLeft.{field_read}
use Rattle.question_line.proofs.Counting.{only_goes_on, only_none_left}
use Rattle.question_line.proofs.Copying.{sets_outside, sets_written, number_copied}
use Rattle.question_line.proofs.line.copy_numbers.Goals as goal

pub returns-in_default : goal.returns-in_default
returns-in_default c =
    let none = only_none_left _ _ c.loop-number.invariant.0 (sym c.read_field.ensures ∙ c.in_default.is) in
    set-get_or c.loop-number.numbers c.loop-number.number-index 0
    ∙ sym (ap (sets c.loop-number.numbers c.loop-number.number-index) none) ∙ c.loop-number.invariant.1
    ∙ sets_written (numbers_from c.args.text.now c.args.start) c.args.numbers.now

pub loop-number-preserved : goal.loop-number-preserved
loop-number-preserved c =
    let field = field_read _ _ (sym c.in-Some.ensures) in
    let (only, copied) = c.loop-number.invariant in
    (sym (only_goes_on _ _ field) ∙ only, number_copied _ _ _ _ field ∙ copied)

pub returns : goal.returns
returns c =
    sym (sets_outside (numbers_from c.args.text.now c.loop-number.at) c.loop-number.numbers c.loop-number.number-index (omega (arith, c.loop-number-test.false)))
    ∙ c.loop-number.invariant.1
    ∙ sets_written (numbers_from c.args.text.now c.args.start) c.args.numbers.now
