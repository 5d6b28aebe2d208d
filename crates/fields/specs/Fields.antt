-- What stands at a place of the text, up to the end of its line.
use Rattle.std.specs.Prelude.{ℕ, ◌+◌, Bool, cond, ◌&&◌, List, Option, Some, None, map, eqb, length, get_or, drop}
use Rattle.model.specs.Rules.{every}
use Rattle.townfile.specs.Bytes.{line_feed, space, printable, up_to, pieces}
use Rattle.townfile.specs.Numbers.{decimal, number_keeps}
use Rattle.townfile.specs.Lines.{name_keeps}
use Rattle.fields.specs.declared.field.Field.{Field}

-- The line from a place on, up to its line feed.
unfoldable pub line_from : List ℕ → ℕ → List ℕ
line_from text at = up_to line_feed (drop at text)

-- The bytes from a place up to the next space or the line's end.
abbrev pub word_from : List ℕ → ℕ → List ℕ
word_from text at = up_to space (line_from text at)

-- A field at a place: one space and a number.
abbrev pub field_keeps : List ℕ → ℕ → Bool
field_keeps text at = eqb (get_or (line_from text at) 0 0) space && number_keeps (word_from text (at + 1))

-- Its number, and the place behind it.
abbrev pub field : ℕ → ℕ → Field
field value next = record { value = value; next = next }

unfoldable pub field_at : List ℕ → ℕ → Option Field
field_at text at = cond (field_keeps text at) (Some (field (decimal (word_from text (at + 1))) (at + 1 + length (word_from text (at + 1))))) None

-- The rest of the line, where a test holds of it.
abbrev pub rest_if : (List ℕ → Bool) → List ℕ → ℕ → Option ℕ
rest_if test text at = cond (test (line_from text at)) (Some (at + length (line_from text at))) None

abbrev pub printable_rest : List ℕ → ℕ → Option ℕ
printable_rest text at = rest_if (every printable) text at

abbrev pub name_rest_lem : List ℕ → ℕ → Option ℕ
name_rest_lem text at = rest_if name_keeps text at

-- A name behind a space.
abbrev pub name_at : List ℕ → ℕ → Option ℕ
name_at text at = cond (eqb (get_or (line_from text at) 0 0) space) (name_rest_lem text (at + 1)) None

-- The fields from a place on, and their numbers.
abbrev pub fields_from : List ℕ → ℕ → List (List ℕ)
fields_from text at = drop 1 (pieces space (line_from text at))

abbrev pub numbers_from : List ℕ → ℕ → List ℕ
numbers_from text at = map decimal (fields_from text at)

-- Fields fill the rest of the line: each after one space, numbers all of them, and as many as they should be.
abbrev pub filled_by : ℕ → List ℕ → ℕ → Bool
filled_by count text at = eqb (length (word_from text at)) 0 && every number_keeps (fields_from text at) && eqb (length (fields_from text at)) count
