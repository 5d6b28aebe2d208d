-- The lines of a text from a place on: the line there comes first, and the others stand behind its line feed. Nothing stands behind the last line feed,
-- so that a line with a byte has one.
use Prim.Native.Nat.{ℕ, ◌+◌, ◌-◌, ◌≤◌, ◌<◌}
use mathlib.Core.Path.{◌≡◌, refl, ap, ◌∙◌}
use mathlib.Core.Bool.{Bool}
use mathlib.Core.Logic.{inl, inr}
use mathlib.Core.List.{List, [], ◌∷◌, ◌++◌}
use native.Mathlib.Omega.{arith}
use lib.ListN.{length, take, drop, drop_of_length-le, length-drop}
use lib.Seq.{drop-drop, drop-append-add}
use Rattle.model.proofs.Tests.{eqb_cases, ltb_cases}
use Rattle.townfile.specs.Bytes.{line_feed, up_to, pieces}
use Rattle.townfile.specs.Grammar.{joined}
use Rattle.townfile.proofs.Pieces.{pieces_next}
use Rattle.fields.specs.Fields.{line_from}
use Rattle.scanning.proofs.RestLines.{next_lines, last_line}
use Rattle.conversion.specs.Conversion.{all_but_last, lines_of, converted_line, converted}
use Rattle.converting.specs.Code.Lines.{InLines, LineFound}

up_to_taken : (bytes : List ℕ) → take (length (up_to line_feed bytes)) bytes ≡ up_to line_feed bytes
unfolding up_to
up_to_taken [] = refl
up_to_taken (byte ∷ bytes) = elim (eqb_cases byte line_feed) [
  | inl here ↦ rw here.0
  | inr other ↦ rw other.0 (ap {B = List ℕ} (λ rest. byte ∷ rest) (up_to_taken bytes))
]

-- Where its line feed stands tells its bytes.
pub line_bytes : (text : List ℕ) (at : ℕ) {end : ℕ} → end ≡ at + length (line_from text at) → take (end - at) (drop at text) ≡ line_from text at
unfolding line_from
line_bytes text at {end} ends =
    let long : end - at ≡ length (line_from text at) = omega arith in
    rw long (up_to_taken (drop at text))

pub line_found : {text : List ℕ} {at : ℕ} → InLines (drop at text) → at < length text → LineFound text at (line_from text at)
unfolding all_but_last joined
line_found {text} {at} whole here = elim (ltb_cases (at + length (line_from text at)) (length text)) [
  | inl inside ↦
      (let line : List ℕ = line_from text at in
      let rest : List ℕ = drop (at + (length line + 1)) text in
      let further : at + length line + 1 ≡ at + (length line + 1) = omega arith in
      let lines_are : lines_of (drop at text) ≡ line ∷ lines_of rest = rw (next_lines text at inside.1, further, pieces_next line_feed rest) in
      let text-is : drop at text ≡ line ++ (line_feed ∷ joined (lines_of rest)) = whole ∙ ap joined lines_are in
      let rest_is : rest ≡ drop (length line + 1) (drop at text) = rw (drop-drop (length line + 1) at text) in
      record {
        inside = inside.1;
        lines_are = lines_are;
        lines_left = rest_is ∙ ap (drop (length line + 1)) text-is ∙ drop-append-add line (line_feed ∷ joined (lines_of rest)) 1;
      })
  | inr past ↦
      (let nothing : drop at text ≡ [] = rw (last_line text at past.1) at whole in
      absurd (omega (arith, ap length nothing, length-drop at text)))
]

-- What the line and those behind it come to.
pub converted_next : {text : List ℕ} {at : ℕ} {line : List ℕ} → LineFound text at line → (wanted : Bool) →
    converted wanted (drop at text) ≡ converted_line wanted line ++ (line_feed ∷ converted wanted (drop (at + (length line + 1)) text))
unfolding converted joined
converted_next next wanted = rw next.lines_are

-- No line is left behind the text.
pub no_line_left : (text : List ℕ) (at : ℕ) → length text ≤ at → lines_of (drop at text) ≡ []
unfolding all_but_last pieces
no_line_left text at past = rw (drop_of_length-le text past)
