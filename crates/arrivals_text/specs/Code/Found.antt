-- What the code finds in the input's first line.
use Rattle.std.specs.Prelude.{ℕ, Option, Some, None, cond, List}
use Rattle.question_line.specs.Line.{rest_start}
use Rattle.question_line.specs.Question.{source_in}
use Rattle.arrivals_text.specs.Question.{asks, departure_in}
use Rattle.arrivals_text.specs.declared.question.Question.{Question}

abbrev pub question : ℕ → ℕ → ℕ → Question
question source departure town = record { source = source; departure = departure; town = town }

unfoldable pub question_in_lem : List ℕ → Option Question
question_in_lem input = cond (asks input) (Some (question (source_in input) (departure_in input) (rest_start input))) None
