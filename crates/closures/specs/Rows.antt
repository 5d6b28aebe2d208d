-- When the rows of a flat table stand for a list of closures.
use Rattle.std.specs.Prelude.{ℕ, ◌<◌, ◌≡◌, List, length, take}
use Rattle.model.specs.Closures.{max_closures, closures_of}
use Rattle.model.specs.declared.closure.Closure.{Closure}

-- One more than the records that a question may bring.
abbrev pub row_count_lem : ℕ
row_count_lem = 65

-- The rows are the first of its records, of which there are at most so many.
abbrev pub FirstOf : List Closure → List (List ℕ) → Type 0
FirstOf closures rows = closures_of rows ≡ take row_count_lem closures

-- The rows are its records. Of a list that is too long it is enough that they are too many as well: it is refused for that alone.
pub data StandFor (closures : List Closure) (rows : List (List ℕ)) : Type 0 where
  all : closures_of rows ≡ closures → StandFor closures rows
  too_many : max_closures < length closures → max_closures < length rows → StandFor closures rows
