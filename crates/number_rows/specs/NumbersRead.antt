-- What the numbers to the end of a line come to.
use Rattle.std.specs.Prelude.{ℕ, ◌+◌, Bool, cond, ◌&&◌, List, Result, Ok, Err, length, get_or, take}
use Rattle.model.specs.Rules.{every, speed_keeps, hold_keeps}
use Rattle.fields.specs.Fields.{line_from, numbers_from, filled_by}
use Rattle.refusals.specs.declared.refusal.Refusal.{Refusal}
use Rattle.refusals.specs.declared.refusal.Refusal.TheVariants.{FieldForm, FieldValue}

-- Where numbers end that fill the rest of the line and keep a test. Their form counts before the test.
unfoldable pub numbers_read : (List ℕ → Bool) → ℕ → List ℕ → ℕ → Result ℕ Refusal
numbers_read test count text at =
    cond (filled_by count text at) (cond (test (numbers_from text at)) (Ok (at + length (line_from text at))) (Err FieldValue)) (Err FieldForm)

-- The row of an arc behind its length: as many speeds as there are intervals, and behind them the hold, or 0 where there is none.
abbrev pub row_keeps : (intervals : ℕ) → List ℕ → Bool
row_keeps intervals numbers = every speed_keeps (take intervals numbers) && hold_keeps (get_or numbers intervals 0)
