-- A number digit by digit, from a place inside it on.
use Rattle.std.specs.Prelude.{ℕ, ◌+◌, cond, ◌&&◌, List, Option, Some, None, ltb, eqb, length}
use Rattle.model.specs.Rules.{every}
use Rattle.townfile.specs.Bytes.{digit}
use Rattle.townfile.specs.Numbers.{decimal_from}
use Rattle.fields.specs.Fields.{word_from, field}
use Rattle.fields.specs.declared.field.Field.{Field}

-- A number that begins with 0, from the place behind that on.
unfoldable pub just_zero_lem : List ℕ → ℕ → Option Field
just_zero_lem text end = cond (eqb (length (word_from text end)) 0) (Some (field 0 end)) None

-- A number whose digits before a place come to a value, from that place on. If its first digit is not 0, it has at most 7 digits
-- exactly where it is below 10,000,000.
unfoldable pub number_from : List ℕ → ℕ → ℕ → Option Field
number_from text at value =
    cond (every digit (word_from text at) && ltb (decimal_from value (word_from text at)) 10000000)
    (Some (field (decimal_from value (word_from text at)) (at + length (word_from text at))))
    None
