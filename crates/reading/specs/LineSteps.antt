-- What a line comes to, by the rules from 23 on.
use Rattle.std.specs.Prelude.{ℕ, ◌+◌, List, length, drop}
use Rattle.model.specs.Rules.{Outcome, first_broken}
use Rattle.townfile.specs.Lines.{line_rules, line_read}
use Rattle.townfile.specs.declared.progress.Progress.{Progress}
use Rattle.fields.specs.Fields.{line_from}
use Rattle.reading.specs.declared.line.LineRead.{LineRead}

-- A line that is read, and where it ends.
abbrev pub step : Progress → ℕ → LineRead
step p end = record { progress = p; end = end }

unfoldable pub step_of_line : Progress → List ℕ → ℕ → Outcome LineRead
step_of_line p text at =
    first_broken (drop 1 (line_rules p (line_from text at))) (step (line_read p (line_from text at)) (at + length (line_from text at)))
