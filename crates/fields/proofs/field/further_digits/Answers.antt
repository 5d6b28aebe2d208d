-- `field::further_digits`: at each turn the number from here on, behind what has been read, is the whole number.
use borrow.Author.Rules.{rules}
use mathlib.Core.Path.{◌≡◌, ap, ◌∙◌}
use Rattle.std.specs.Prelude.{Some}
use Rattle.fields.specs.Fields.{field}
use native.Mathlib.Omega.{arith}
use lib.ListN.{get_or}
use Rattle.fields.proofs.LineFrom.{at_last, line_ends, word_ends, separator_ends}
use Rattle.fields.proofs.Digits.{number_ends, number_goes_on, number_too_long, number_stops, below_digits, above_digits}
use Rattle.fields.proofs.field.further_digits.Goals as goal

pub returns-in-32 : goal.returns-in-32
returns-in-32 c =
    number_ends _ _ _ (separator_ends _ _ c.loop-i-test.true c.in-32.is) c.loop-i.invariant.1 ∙ c.loop-i.invariant.0

pub returns-then-value-gt-MAX_OF_SIX_DIGITS : goal.returns-then-value-gt-MAX_OF_SIX_DIGITS
returns-then-value-gt-MAX_OF_SIX_DIGITS c =
    number_too_long _ _ _ c.loop-i-test.true (omega arith) (omega arith) (omega (arith, c.if-value-gt-MAX_OF_SIX_DIGITS.true)) ∙ c.loop-i.invariant.0

pub returns-in_default : goal.returns-in_default
returns-in_default c =
    number_stops _ _ _ c.loop-i-test.true (search rules) (below_digits (get_or c.args.text.now c.loop-i.i 0) (omega arith)) ∙ c.loop-i.invariant.0

pub returns-in_default-2 : goal.returns-in_default-2
returns-in_default-2 c =
    number_stops _ _ _ c.loop-i-test.true (search rules) (above_digits (get_or c.args.text.now c.loop-i.i 0) (omega arith)) ∙ c.loop-i.invariant.0

pub loop-i-preserved : goal.loop-i-preserved
loop-i-preserved c =
    (number_goes_on _ _ _ c.loop-i-test.true (omega arith) (omega arith) ∙ c.loop-i.invariant.0, omega arith, λ past. absurd (omega (arith, past)))

pub returns : goal.returns
returns c =
    let last : c.max.result ≡ c.loop-i.i = c.max.ensures ∙ at_last _ _ _ c.loop-i-test.false c.loop-i.auto.i-end c.loop-i.invariant.2 in
    ap (λ next. Some (field c.loop-i.value next)) last ∙ number_ends _ _ _ (word_ends _ _ (line_ends _ _ c.loop-i-test.false)) c.loop-i.invariant.1 ∙ c.loop-i.invariant.0
