-- What converting asks of a text, which one without fault keeps, and what is told by its lines without reading their fields.
use Rattle.std.specs.Prelude.{ℕ, ◌+◌, ◌-◌, ◌*◌, ◌<◌, ◌≡◌, Bool, not, cond, ◌&&◌, List, ◌∷◌, length, drop}
use Rattle.model.specs.Rules.{every}
use Rattle.townfile.specs.Grammar.{joined}
use Rattle.conversion.specs.Conversion.{lines_of}
use Rattle.conversion.specs.Code.LineEnds.{loses_none}

-- Nothing stands behind the last line feed.
abbrev pub InLines : List ℕ → Type 0
InLines text = text ≡ joined (lines_of text)

-- The line from a place up to its line feed, and the lines behind it.
pub record LineFound (text : List ℕ) (at : ℕ) (line : List ℕ) : Type 0 where
  pub inside : at + length line < length text
  pub lines_are : lines_of (drop at text) ≡ line ∷ lines_of (drop (at + (length line + 1)) text)
  pub lines_left : InLines (drop (at + (length line + 1)) text)

-- A hold other than 0 is lost on the way back: an arc's line does not end in a space and 0.
abbrev pub loses_hold_lem : (wanted : Bool) → List ℕ → Bool
loses_hold_lem wanted text = not wanted && not (every loses_none (lines_of text))

-- The length of a result: each arc has two bytes more in the new form.
abbrev pub length_by : (wanted : Bool) → (length arcs : ℕ) → ℕ
length_by wanted length arcs = cond wanted (length + 2 * arcs) (length - 2 * arcs)
