-- "20, text too long, at line 0. Then the first faulty line, counted from 1, and on it the first of: 21, no LF; 22 [to 26]. At the
-- end: 27, `TN` or `FN` missing, at line count + 1."
use Rattle.std.specs.Prelude.{ℕ, suc, false, cond, List, [], ◌∷◌, ltb, eqb, length}
use Rattle.model.specs.Rules.{Outcome, refused, replied}
use Rattle.townfile.specs.Bytes.{line_feed, pieces}
use Rattle.townfile.specs.Lines.{town_due, names_due, line_answer}
use Rattle.townfile.specs.declared.progress.Progress.{Progress}

-- What reading a text comes to: a refusal's number and line, or the reply.
pub data Reading (Reply : Type 0) : Type 0 where
  refused_at : (number line : ℕ) → Reading Reply
  accepted : Reply → Reading Reply

abbrev pub start : Progress
start = record { turn = town_due; held = false; junctions = 0; intervals = 0; unnamed = 0; arcs = 0 }

-- After the last line: its number is one more than the line count.
abbrev pub at_end : Progress → ℕ → Reading Progress
at_end p number = cond (ltb p.turn names_due) (refused_at 27 number) (accepted p)

abbrev pub onward : Outcome Progress → ℕ → (Progress → Reading Progress) → Reading Progress
onward (refused fault) number rest = refused_at fault number
onward (replied p) number rest = rest p

-- The lines from one on, and what stands behind the last line feed: nothing, or a line without one.
unfoldable pub lines_from : Progress → ℕ → List (List ℕ) → Reading Progress
lines_from p number [] = at_end p number
lines_from p number (behind ∷ []) = cond (eqb (length behind) 0) (at_end p number) (refused_at 21 number)
lines_from p number (line ∷ next ∷ lines) = onward (line_answer p line) number (λ q. lines_from q (suc number) (next ∷ lines))

unfoldable pub first_fault : List ℕ → Reading Progress
first_fault text = cond (ltb 65536 (length text)) (refused_at 20 0) (lines_from start 1 (pieces line_feed text))
