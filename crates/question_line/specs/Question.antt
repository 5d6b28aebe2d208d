-- "A line `QU` source", and when to leave; then a town file. What a program's question has whether it asks for one departure or many.
use Rattle.std.specs.Prelude.{ℕ, ◌*◌, ◌+◌, List, get_or}
use Rattle.question_line.specs.Line.{numbers_in, rest_of}

-- The mark as the number of its two bytes.
abbrev pub mark_qu : ℕ
mark_qu = 81 * 256 + 85

abbrev pub source_in : List ℕ → ℕ
source_in input = get_or (numbers_in input) 0 0

-- The town file is what follows the line.
abbrev pub town_text : List ℕ → List ℕ
town_text input = rest_of input
