-- The tests of the rules on the interval count, fences, lengths, speeds and holds. How an operation refuses by rules stands with the refusals, and is handed on here.
use Rattle.std.specs.Prelude.{ℕ, Bool, true, ◌&&◌, List, [], ◌∷◌, ◌++◌, leb, ltb, eqb, length, drop}
use Rattle.model.specs.Ticks.{day}
use Rattle.model.specs.Limits.{max_intervals, max_length, max_speed, max_hold}
pub use Rattle.refusals.specs.Rules.{Outcome, refused, replied, Rule, ◌if◌, after, replying, every, AllKept, RefusedExactlyWhen}
unfoldable pub use Rattle.refusals.specs.Rules.{first_broken}

-- The entries at the table's start, and what stood behind them.
abbrev pub written : List ℕ → List ℕ → List ℕ
written entries table = entries ++ drop (length entries) table

-- The fences after one: each is greater than the one before, and below the day.
unfoldable pub rise_from : ℕ → List ℕ → Bool
rise_from before [] = true
rise_from before (fence ∷ fences) = ltb before fence && ltb fence day && rise_from fence fences

-- The rules on fences.
unfoldable pub fences_keep_lem : List ℕ → Bool
fences_keep_lem [] = true
fences_keep_lem (fence ∷ fences) = eqb fence 0 && rise_from fence fences

abbrev pub count_keeps : List ℕ → Bool
count_keeps fences = ltb 0 (length fences) && leb (length fences) max_intervals

abbrev pub length_keeps_lem : ℕ → Bool
length_keeps_lem metres = ltb 0 metres && leb metres max_length

abbrev pub speed_keeps : ℕ → Bool
speed_keeps speed = leb speed max_speed

abbrev pub hold_keeps : ℕ → Bool
hold_keeps hold = leb hold max_hold
