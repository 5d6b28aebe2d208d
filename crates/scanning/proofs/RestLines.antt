-- The lines from a place of the text on: the line at that place, and behind its line feed the lines from there on.
use Prim.Native.Nat.{ℕ, ◌+◌, ◌≤◌, ◌<◌}
use mathlib.Core.Path.{◌≡◌, sym, ap, ◌∙◌}
use mathlib.Core.Logic.{inl, inr}
use mathlib.Core.List.{List, [], ◌∷◌}
use native.Mathlib.Numerals.{add-one}
use native.Mathlib.Omega.{arith}
use lib.ListN.{length, get_or, drop, drop_of_length-le}
use lib.Seq.{drop-cons, drop-drop, drop-length}
use Rattle.model.proofs.Tests.{eqb_cases}
use Rattle.townfile.specs.Bytes.{line_feed, pieces}
use Rattle.townfile.proofs.Pieces.{pieces_next, pieces_behind}
use Rattle.fields.specs.Fields.{line_from}
use Rattle.fields.proofs.LineFrom.{line_goes_on, line_later}

module _ (text : List ℕ) (at : ℕ) where
  abbrev end : ℕ
  end = at + length (line_from text at)

  pub lines_behind : pieces line_feed (drop at text) ≡ line_from text at ∷ drop 1 (pieces line_feed (drop end text))
  unfolding line_from
  lines_behind = pieces_next line_feed (drop at text) ∙ rw drop-drop

  feed_behind : end < length text → get_or text end 0 ≡ line_feed
  unfolding line_from
  feed_behind h = elim (eqb_cases (get_or text end 0) line_feed) [
    | inl here ↦ here.1
    | inr other ↦
        let none : line_from text end ≡ [] = line_later text at (length (line_from text at)) (omega arith) ∙ drop-length (line_from text at) in
        absurd (omega (arith, ap length (sym none ∙ line_goes_on text end h other.1)))
  ]

  -- Behind the line stand the lines behind its line feed, or nothing.
  pub next_lines : end < length text → pieces line_feed (drop at text) ≡ line_from text at ∷ pieces line_feed (drop (end + 1) text)
  next_lines h = lines_behind ∙ rw (drop-cons text end 0 h, feed_behind h, pieces_behind, add-one)

  pub last_line : length text ≤ end → pieces line_feed (drop at text) ≡ line_from text at ∷ []
  unfolding pieces
  last_line h = lines_behind ∙ rw (drop_of_length-le text h)
