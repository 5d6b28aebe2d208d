-- "It refuses as `arrivals` does, 30 with line 0, and otherwise prints a line per junction, without a header: its number and its four
-- figures in that order, one space apart."
use Rattle.std.specs.Prelude.{ℕ, zero, suc, List, [], ◌∷◌, ◌++◌}
use Rattle.model.specs.Network.{Network}
use Rattle.model.specs.Rules.{first_broken}
use Rattle.townfile.specs.Bytes.{line_feed, space}
use Rattle.townfile.specs.FirstFault.{Reading}
use Rattle.sheeting.specs.Figures.{figures_of, figure_in}
use Rattle.sheeting.specs.Sheet.{shift_rules}
use Rattle.question_line.specs.Answers.{at_line_zero, in_town, where_asked}
use Rattle.question_line.specs.Question.{source_in, town_text}
use Rattle.formatting.specs.Digits.{digits_of}
use Rattle.formatting.specs.Texts.{answer_text}
use Rattle.sheet_text.specs.Question.{asks_shift, departures_in}

-- ---- What is answered

-- Four figures for each of so many junctions.
pub record SheetFigures : Type 0 where
  pub junctions : ℕ
  pub figures : List ℕ

abbrev pub sheet_in : Network → ℕ → List ℕ → SheetFigures
sheet_in N source departures = record { junctions = N.junctions; figures = figures_of N source departures }

-- 9, 30 or 10, with line 0.
unfoldable pub network_sheet_lem : Network → ℕ → List ℕ → Reading SheetFigures
network_sheet_lem N source departures = at_line_zero (first_broken (shift_rules N source departures) (sheet_in N source departures))

abbrev pub town_sheet_lem : List ℕ → ℕ → List ℕ → Reading SheetFigures
town_sheet_lem text source departures = in_town (λ N. network_sheet_lem N source departures) text

unfoldable pub sheet_for : List ℕ → Reading SheetFigures
sheet_for input = where_asked (asks_shift input) input (town_sheet_lem (town_text input) (source_in input) (departures_in input))

-- ---- How it is printed

-- A figure and the space before it.
abbrev pub spaced : ℕ → List ℕ
spaced figure = space ∷ digits_of figure

-- "Its number and its four figures in that order, one space apart."
unfoldable pub sheet_line : ℕ → ℕ → ℕ → ℕ → ℕ → List ℕ
sheet_line junction count least greatest sum = digits_of junction ++ (spaced count ++ (spaced least ++ (spaced greatest ++ (spaced sum ++ (line_feed ∷ [])))))

abbrev pub line_of : List ℕ → ℕ → List ℕ
line_of figures j = sheet_line j (figure_in figures j 0) (figure_in figures j 1) (figure_in figures j 2) (figure_in figures j 3)

-- The lines of the k junctions from j on.
unfoldable pub sheet_lines : List ℕ → ℕ → ℕ → List ℕ
sheet_lines figures j zero = []
sheet_lines figures j (suc k) = line_of figures j ++ sheet_lines figures (suc j) k

abbrev pub lines_of : SheetFigures → List ℕ
lines_of sheet = sheet_lines sheet.figures 0 sheet.junctions

unfoldable pub sheet_text_lem : List ℕ → List ℕ
sheet_text_lem input = answer_text lines_of (sheet_for input)
