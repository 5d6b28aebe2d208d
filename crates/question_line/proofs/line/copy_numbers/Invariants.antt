-- `line::copy_numbers`: the numbers left, put behind those that are copied, are all of them.
use mathlib.Core.Bool.{true}
use mathlib.Core.Path.{◌≡◌}
use lib.Seq.{sets}
use Rattle.fields.specs.Fields.{numbers_from}
use Rattle.question_line.specs.Code.Counting.{only_numbers}
use Rattle.question_line.proofs.line.copy_numbers.Given as goal

abbrev pub invariant-loop-number : goal.invariant-loop-number
invariant-loop-number l =
    (only_numbers l.text l.at ≡ true) × (sets l.numbers l.number-index (numbers_from l.text l.at) ≡ sets l.initial.numbers 0 (numbers_from l.text l.start))
