-- `fill::take_number`: behind the first digit, behind the second and at each turn the digits left, behind those taken, give the whole
-- number; a byte that is no digit ends them.
use native.Mathlib.Omega.{arith}
use Rattle.loading.proofs.DigitsTaken.{value_below, digit_taken, digits_end, first_is_digit, first_taken}
use Rattle.loading.proofs.fill.take_number.Goals as goal

pub overflow_sub-value : goal.overflow_sub-value
overflow_sub-value c = (first_is_digit _ _ c.requires.at_value c.requires.ends_inside).0

pub bounds-text-next : goal.bounds-text-next
bounds-text-next c =
    let one = first_taken _ _ c.requires.at_value c.requires.ends_inside in
    omega (arith, one.same_end, one.inside)

pub returns-in_default : goal.returns-in_default
returns-in_default c = digits_end (first_taken _ _ c.requires.at_value c.requires.ends_inside) (λ digit. omega (arith, digit.0))

pub returns-in_default-2 : goal.returns-in_default-2
returns-in_default-2 c = digits_end (first_taken _ _ c.requires.at_value c.requires.ends_inside) (λ digit. omega (arith, digit.1))

-- ---- The bytes behind the second
pub loop-value-init : goal.loop-value-init
loop-value-init c = digit_taken (first_taken _ _ c.requires.at_value c.requires.ends_inside) (omega arith) (omega arith)

pub overflow_mul-value-in-48-to-57-byte : goal.overflow_mul-value-in-48-to-57-byte
overflow_mul-value-in-48-to-57-byte c =
    record { fits = omega (arith, value_below (digit_taken c.loop-value.invariant (omega arith) (omega arith))) }

pub overflow_add-value-in-48-to-57-byte : goal.overflow_add-value-in-48-to-57-byte
overflow_add-value-in-48-to-57-byte c =
    record { fits = omega (arith, value_below (digit_taken c.loop-value.invariant (omega arith) (omega arith))) }

pub returns-in_default-byte : goal.returns-in_default-byte
returns-in_default-byte c = digits_end c.loop-value.invariant (λ digit. omega (arith, digit.0))

pub returns-in_default-byte-2 : goal.returns-in_default-byte-2
returns-in_default-byte-2 c = digits_end c.loop-value.invariant (λ digit. omega (arith, digit.1))

pub loop-value-preserved : goal.loop-value-preserved
loop-value-preserved c = digit_taken c.loop-value.invariant (omega arith) (omega arith)
