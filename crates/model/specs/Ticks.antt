-- "A tick is a tenth of a second. Two constants belong to the tick itself: the day, 864,000, and the last tick, 1,728,000."
use Rattle.std.specs.Prelude.{ℕ, cond, leb, Option, None, Some}
use Rattle.model.specs.declared.tick.Arrival.{Arrival}

abbrev pub day : ℕ
day = 864000

abbrev pub last : ℕ
last = 1728000

-- No arrival. It is the label of an unreached junction and lies above every tick, so that none is the latest of all arrivals.
abbrev pub never : ℕ
never = 4294967295

-- What is above the last tick is no arrival.
abbrev pub tick_by_last : ℕ → ℕ
tick_by_last t = cond (leb t last) t never

-- What driving an arc comes to: the tick and its interval, if there is an arrival.
abbrev pub arrived_at : Option Arrival → Option (ℕ × ℕ)
arrived_at (Some arrival) = Some (arrival.tick.number, arrival.interval)
arrived_at None = None
