-- A line that asks: a mark, then numbers "in file form, LF at the end". How many numbers it should have is the program's to say.
use Rattle.std.specs.Prelude.{ℕ, Option, Some, None, ◌+◌, ◌*◌, ◌≤◌, ◌≡◌, Bool, true, cond, not, ◌&&◌, List, ◌∷◌, ◌++◌, map, ◌↔◌, ltb, eqb, length, take, drop}
use Rattle.model.specs.Rules.{every, written}
use Rattle.townfile.specs.Bytes.{line_feed, space, up_to, pieces}
use Rattle.townfile.specs.Numbers.{decimal, number_keeps}
use Rattle.townfile.specs.Lines.{first_two}
use Rattle.townfile.specs.Grammar.{Bytes, Fields}
use Rattle.question_line.specs.declared.line.Asked.{Asked}

abbrev pub first_line : List ℕ → List ℕ
first_line text = up_to line_feed text

abbrev pub behind_mark : List ℕ → List ℕ
behind_mark text = drop 2 (first_line text)

-- "Fields follow, each after one space."
abbrev pub fields_in : List ℕ → List (List ℕ)
fields_in text = drop 1 (pieces space (behind_mark text))

abbrev pub numbers_in : List ℕ → List ℕ
numbers_in text = map decimal (fields_in text)

-- The line begins with the mark; 0 is none.
abbrev pub has_mark : ℕ → List ℕ → Bool
has_mark mark text = not (eqb mark 0) && eqb (first_two (first_line text)) mark

-- The first line has its LF, the mark, and behind that numbers alone.
unfoldable pub of_form : ℕ → List ℕ → Bool
of_form mark text =
    ltb (length (first_line text)) (length text) && has_mark mark text
    && (eqb (length (up_to space (behind_mark text))) 0 && every number_keeps (fields_in text))

-- Where what follows the line begins, and that.
abbrev pub rest_start : List ℕ → ℕ
rest_start text = length (first_line text) + 1

abbrev pub rest_of : List ℕ → List ℕ
rest_of text = drop (rest_start text) text

abbrev pub asked : ℕ → ℕ → Asked
asked count next = record { count = count; next = next }

-- How many numbers a line of the form has, and where it ends.
unfoldable pub asked_by : ℕ → List ℕ → Option Asked
asked_by mark text = cond (of_form mark text) (Some (asked (length (numbers_in text)) (rest_start text))) None

-- The table then starts with as many of the numbers as it has room for, and is unchanged after them.
unfoldable pub numbers_after : ℕ → List ℕ → List ℕ → List ℕ
numbers_after mark text table = cond (of_form mark text) (written (take (length table) (numbers_in text)) table) table

-- The same as the grammar says it: the mark's two bytes, fields, LF, and a rest.
pub record LineAndRest (first second : ℕ) (text numbers rest : List ℕ) : Type 0 where
  pub bytes : List ℕ
  pub fields : Fields bytes numbers
  pub in_all : text ≡ first ∷ second ∷ (bytes ++ (line_feed ∷ rest))

-- ---- What is proved of it

-- "A two-byte mark, in capitals."
abbrev pub Capital : ℕ → Type 0
Capital byte = (65 ≤ byte) × (byte ≤ 90)

-- A text of bytes begins with a line of the form exactly where it is one and a rest, with as many numbers as it likes.
abbrev pub OfFormWhenWritten : Type 0
OfFormWhenWritten = (first second : ℕ) → Capital first → Capital second → (text : List ℕ) → Bytes text → (numbers rest : List ℕ) →
    ((of_form (first * 256 + second) text ≡ true) × (numbers_in text ≡ numbers) × (rest_of text ≡ rest)) ↔ LineAndRest first second text numbers rest
