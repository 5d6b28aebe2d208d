-- `speeds::short_digits`: of one, two or three digits, by the first byte that is none.
use mathlib.Core.Path.{sym, ◌∙◌}
use native.Mathlib.Omega.{arith}
use lib.ListN.{get_or}
use Rattle.fields.proofs.Digits.{digit_is}
use Rattle.number_rows.proofs.ShortSpeeds.{one_digit_read, two_digits_read, three_are_digits, three_digits_read}
use Rattle.number_rows.proofs.speeds.short_digits.Goals as goal

pub returns-then-not-is_digit : goal.returns-then-not-is_digit
returns-then-not-is_digit c =
    one_digit_read _ _ (omega arith) (digit_is (get_or c.args.text.now c.args.first 0) (omega arith) c.requires.first_bound)

pub returns-then-not-is_digit-2 : goal.returns-then-not-is_digit-2
returns-then-not-is_digit-2 c =
    two_digits_read _ _ c.requires.first_in_bounds c.requires.bound c.requires.first_bound (sym c.is_digit.ensures ∙ c.if-not-is_digit.false)

pub three_digits-requires : goal.three_digits-requires
three_digits-requires c =
    three_are_digits c.args.text.now c.args.first c.requires.first_in_bounds c.requires.bound c.requires.first_bound
    (sym c.is_digit.ensures ∙ c.if-not-is_digit.false)
    (sym c.is_digit-2.ensures ∙ c.if-not-is_digit-2.false)

pub returns : goal.returns
returns c =
    three_digits_read _ _ c.requires.first_in_bounds c.requires.bound c.requires.first_bound
    (sym c.is_digit.ensures ∙ c.if-not-is_digit.false)
    (sym c.is_digit-2.ensures ∙ c.if-not-is_digit-2.false)
    (omega (arith, c.three_digits.ensures))
