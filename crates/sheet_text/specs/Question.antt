-- "A program reads a `QU` line with the source and the whole list, then a town file. An empty or overlong list there still has the right
-- form and is 30."
use Rattle.std.specs.Prelude.{ℕ, ◌≡◌, Bool, true, ◌&&◌, List, ◌∷◌, ◌↔◌, ltb, length, drop}
use Rattle.townfile.specs.Grammar.{Bytes}
use Rattle.question_line.specs.Line.{numbers_in, of_form, LineAndRest}
use Rattle.question_line.specs.Question.{mark_qu, source_in, town_text}

-- The first line is of the form, with a source.
unfoldable pub asks_shift : List ℕ → Bool
asks_shift input = of_form mark_qu input && ltb 0 (length (numbers_in input))

abbrev pub departures_in : List ℕ → List ℕ
departures_in input = drop 1 (numbers_in input)

-- The same as the grammar says it: `QU`, the source and the departures as fields, LF, and a text behind them.
abbrev pub ShiftAndText : List ℕ → ℕ → List ℕ → List ℕ → Type 0
ShiftAndText input source departures text = LineAndRest 81 85 input (source ∷ departures) text

-- ---- What is proved of it

-- An input of bytes asks exactly where it is such a line and a text.
abbrev pub AsksShiftWhenOfForm : Type 0
AsksShiftWhenOfForm = (input : List ℕ) → Bytes input → (source : ℕ) (departures text : List ℕ) →
    ((asks_shift input ≡ true) × (source_in input ≡ source) × (departures_in input ≡ departures) × (town_text input ≡ text)) ↔ ShiftAndText input source departures text
