-- What the engine's answer keeps to on any arc, so that a caller can rely on it before the rules are known to be kept.
use Rattle.std.specs.Prelude.{ℕ, ◌<◌, List, length, Option, None, Some}
use Rattle.model.specs.declared.tick.Arrival.{Arrival}

-- An arrival's interval is one of the plan's.
abbrev pub InPlan : List ℕ → Option Arrival → Type 0
InPlan fences (Some arrival) = arrival.interval < length fences
InPlan fences None = Unit {0}
