-- `field::read_field`: behind one space, the first digit tells what may follow.
use native.Mathlib.Omega.{arith}
use Prim.Native.Nat.{◌+◌, ◌-◌}
use mathlib.Core.Path.{sym, ap, ◌∙◌}
use lib.ListN.{get_or}
use Rattle.fields.specs.Code.Digits.{number_from}
use Rattle.fields.proofs.LineFrom.{gap_begins}
use Rattle.fields.proofs.Digits.{no_field_at_end, no_field_without_gap, no_digit_at_end, no_first_digit, first_zero, first_digit, below_digits, above_digits}
use Rattle.fields.proofs.field.read_field.Goals as goal

pub returns-in_err-get : goal.returns-in_err-get
returns-in_err-get c = rw c.from_residual.ensures (no_field_at_end _ _ c.in_err-get.ensures.lookup.3)

pub returns-then-branch-ne-SPACE : goal.returns-then-branch-ne-SPACE
returns-then-branch-ne-SPACE c =
    let (inside, is) = c.in_ok-get.ensures.lookup.3 in
    no_field_without_gap _ _ inside (λ e. c.if-branch-ne-SPACE.true (is 0 ∙ e))

pub returns-in_err-byte : goal.returns-in_err-byte
returns-in_err-byte c =
    let (inside, is) = c.in_ok-get.ensures.lookup.3 in
    rw c.from_residual-in_err-byte.ensures
    (no_digit_at_end _ _ (gap_begins _ _ inside (sym (is 0) ∙ c.if-branch-ne-SPACE.false)) c.in_err-byte.ensures.lookup.3)

pub returns-in-48 : goal.returns-in-48
returns-in-48 c =
    let (inside, is) = c.in_ok-get.ensures.lookup.3 in
    let (more, digit-is) = c.in_ok-byte.ensures.lookup.3 in
    c.just_zero.ensures ∙ first_zero _ _ (gap_begins _ _ inside (sym (is 0) ∙ c.if-branch-ne-SPACE.false)) more (sym (digit-is 0) ∙ c.in-48.is)

pub returns-in-49-to-57 : goal.returns-in-49-to-57
returns-in-49-to-57 c =
    let (inside, is) = c.in_ok-get.ensures.lookup.3 in
    let (more, digit-is) = c.in_ok-byte.ensures.lookup.3 in
    let number = first_digit _ _ (gap_begins _ _ inside (sym (is 0) ∙ c.if-branch-ne-SPACE.false)) more in
    c.further_digits.ensures ∙ ap (λ byte. number_from c.args.text.now (c.args.at + 1 + 1) (byte - 48)) (digit-is 0)
    ∙ number (λ zero. omega (arith, digit-is 0, zero)) (omega (arith, digit-is 0)) (omega (arith, digit-is 0))

pub returns-in_default : goal.returns-in_default
returns-in_default c =
    let (inside, is) = c.in_ok-get.ensures.lookup.3 in
    let (more, digit-is) = c.in_ok-byte.ensures.lookup.3 in
    no_first_digit _ _ (gap_begins _ _ inside (sym (is 0) ∙ c.if-branch-ne-SPACE.false)) more
    (below_digits (get_or c.args.text.now (c.args.at + 1) 0) (omega (arith, digit-is 0)))

pub returns-in_default-2 : goal.returns-in_default-2
returns-in_default-2 c =
    let (inside, is) = c.in_ok-get.ensures.lookup.3 in
    let (more, digit-is) = c.in_ok-byte.ensures.lookup.3 in
    no_first_digit _ _ (gap_begins _ _ inside (sym (is 0) ∙ c.if-branch-ne-SPACE.false)) more
    (above_digits (get_or c.args.text.now (c.args.at + 1) 0) (omega (arith, digit-is 0)))
