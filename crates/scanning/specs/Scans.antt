-- A line together with its line feed.
use Rattle.std.specs.Prelude.{ℕ, ◌+◌, ◌-◌, cond, List, ltb, eqb, length}
use Rattle.model.specs.Rules.{Outcome, refused, replied}
use Rattle.townfile.specs.declared.progress.Progress.{Progress}
use Rattle.fields.specs.Fields.{line_from}
use Rattle.reading.specs.LineSteps.{step_of_line}
use Rattle.reading.specs.declared.line.LineRead.{LineRead}

-- A line that ends at a place has its line feed and not too many bytes.
abbrev pub line_keeps_lem : List ℕ → (at end : ℕ) → Outcome Unit
line_keeps_lem text at end = cond (eqb end (length text)) (refused 21) (cond (ltb 700 (end - at)) (refused 22) (replied tt))

-- A line's fault: 21 and 22 come before any other.
abbrev pub fault_of : List ℕ → ℕ → ℕ → ℕ
fault_of text at fault =
    cond (eqb (at + length (line_from text at)) (length text)) 21
    (cond (ltb 700 (length (line_from text at))) 22 fault)

abbrev pub unless_fault : List ℕ → ℕ → Outcome LineRead → Outcome LineRead
unless_fault text at (refused fault) = refused (fault_of text at fault)
unless_fault text at (replied step) =
    cond (eqb (at + length (line_from text at)) (length text)) (refused 21)
    (cond (ltb 700 (length (line_from text at))) (refused 22) (replied step))

unfoldable pub whole_line : Progress → List ℕ → ℕ → Outcome LineRead
whole_line p text at = unless_fault text at (step_of_line p text at)
