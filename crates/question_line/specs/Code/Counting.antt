-- What the two loops over a line's fields find from a place on.
use Rattle.std.specs.Prelude.{ℕ, Option, Some, None, ◌+◌, Bool, cond, ◌&&◌, List, ltb, eqb, length}
use Rattle.model.specs.Rules.{every}
use Rattle.townfile.specs.Numbers.{number_keeps}
use Rattle.fields.specs.Fields.{line_from, word_from, fields_from, numbers_from}
use Rattle.question_line.specs.declared.line.Asked.{Asked}
use Rattle.question_line.specs.Line.{asked}

-- Up to the line's end only numbers stand, each after one space.
unfoldable pub only_numbers : List ℕ → ℕ → Bool
only_numbers text at = eqb (length (word_from text at)) 0 && every number_keeps (fields_from text at)

-- With some counted before.
unfoldable pub counted_from : ℕ → List ℕ → ℕ → Option Asked
counted_from count text at =
    cond (ltb (at + length (line_from text at)) (length text) && only_numbers text at)
    (Some (asked (count + length (numbers_from text at)) (at + length (line_from text at) + 1)))
    None
