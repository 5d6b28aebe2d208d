-- After what every program refuses, "then 9 or 10 with line 0. Otherwise the header shown below, then a line per junction: its number,
-- its label, its predecessor, one space apart; `-` for unreached or no predecessor. Each printed line ends in LF."
use Rattle.std.specs.Prelude.{ℕ, suc, List, [], ◌∷◌, ◌++◌}
use Rattle.model.specs.Ticks.{never}
use Rattle.model.specs.Labels.{no_arc}
use Rattle.townfile.specs.Bytes.{line_feed, space}
use Rattle.townfile.specs.FirstFault.{Reading}
use Rattle.question_line.specs.Answers.{where_asked}
use Rattle.question_line.specs.Question.{source_in, town_text}
use Rattle.town_labels.specs.Labelling.{Labelling, town_labelling}
use Rattle.formatting.specs.Digits.{digits_of}
use Rattle.formatting.specs.Texts.{number_unless, answer_text}
use Rattle.arrivals_text.specs.Question.{asks, departure_in}

unfoldable pub answer_to : List ℕ → Reading Labelling
answer_to input = where_asked (asks input) input (town_labelling (town_text input) (source_in input) (departure_in input))

-- ---- How it is printed

-- "Its number, its label, its predecessor, one space apart."
unfoldable pub junction_line_lem : ℕ → ℕ → ℕ → List ℕ
junction_line_lem junction label predecessor =
    digits_of junction ++ (space ∷ (number_unless never label ++ (space ∷ (number_unless no_arc predecessor ++ (line_feed ∷ [])))))

-- The lines of the junctions from one on.
unfoldable pub junction_lines : ℕ → List ℕ → List ℕ → List ℕ
junction_lines junction [] predecessors = []
junction_lines junction (label ∷ labels) [] = []
junction_lines junction (label ∷ labels) (predecessor ∷ predecessors) = junction_line_lem junction label predecessor ++ junction_lines (suc junction) labels predecessors

-- `junction arrival arc`
abbrev pub header : List ℕ
header = 106 ∷ 117 ∷ 110 ∷ 99 ∷ 116 ∷ 105 ∷ 111 ∷ 110 ∷ 32 ∷ 97 ∷ 114 ∷ 114 ∷ 105 ∷ 118 ∷ 97 ∷ 108 ∷ 32 ∷ 97 ∷ 114 ∷ 99 ∷ line_feed ∷ []

unfoldable pub table_text : List ℕ → List ℕ → List ℕ
table_text labels predecessors = header ++ junction_lines 0 labels predecessors

abbrev pub table_of : Labelling → List ℕ
table_of labelling = table_text labelling.labels labelling.predecessors

unfoldable pub text_of_arrivals : List ℕ → List ℕ
text_of_arrivals input = answer_text table_of (answer_to input)
