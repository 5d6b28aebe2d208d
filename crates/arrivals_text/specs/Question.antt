-- "A line `QU` source departure (two numbers in file form, LF at the end), then a town file."
use Rattle.std.specs.Prelude.{ℕ, ◌≡◌, Bool, true, ◌&&◌, List, [], ◌∷◌, ◌++◌, ◌↔◌, eqb, length, get_or}
use Rattle.townfile.specs.Bytes.{line_feed}
use Rattle.townfile.specs.Grammar.{Bytes, Fields}
use Rattle.question_line.specs.Line.{numbers_in, of_form}
use Rattle.question_line.specs.Question.{mark_qu, source_in, town_text}

-- The first line is of the form, with two numbers.
unfoldable pub asks : List ℕ → Bool
asks input = of_form mark_qu input && eqb (length (numbers_in input)) 2

abbrev pub departure_in : List ℕ → ℕ
departure_in input = get_or (numbers_in input) 1 0

-- The same as the grammar says it: `QU`, the source and the departure as fields, LF, and a text behind them.
pub record QuestionAndText (input : List ℕ) (source departure : ℕ) (text : List ℕ) : Type 0 where
  pub bytes : List ℕ
  pub two_fields : Fields bytes (source ∷ departure ∷ [])
  pub in_all : input ≡ 81 ∷ 85 ∷ (bytes ++ (line_feed ∷ text))

-- ---- What is proved of it

-- An input of bytes asks exactly where it is a question and a text.
abbrev pub AsksWhenOfForm : Type 0
AsksWhenOfForm = (input : List ℕ) → Bytes input → (source departure : ℕ) (text : List ℕ) →
    ((asks input ≡ true) × (source_in input ≡ source) × (departure_in input ≡ departure) × (town_text input ≡ text)) ↔ QuestionAndText input source departure text
