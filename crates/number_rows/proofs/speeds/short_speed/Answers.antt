-- `speeds::short_speed`: a space, and a 0 alone or the digits of another number.
use mathlib.Core.Path.{ap}
use native.Mathlib.Omega.{arith}
use Rattle.townfile.specs.Bytes.{digit}
use Rattle.number_rows.proofs.ShortSpeeds.{one_digit_read}
use Rattle.number_rows.proofs.speeds.short_speed.Goals as goal

pub returns-in-48 : goal.returns-in-48
returns-in-48 c = record { gap = c.if-text-at-ne-SPACE.false; digits = one_digit_read _ _ (omega arith) (ap digit c.in-48.is) }
