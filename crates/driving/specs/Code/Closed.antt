-- What the engine for an arc with closures finds at a tick: the tick up to which the arc stays as it is there, closed or open, and the piece of
-- constant speed.
use Rattle.std.specs.Prelude.{◌≡◌, ℕ, ◌+◌, ◌-◌, ◌%◌, ◌^◌, min, cond, List, [], ◌∷◌, ◌==◌, nat_lt, slice_index, slice_index_or}
use Rattle.model.specs.Ticks.{day}
use Rattle.model.specs.Intervals.{time_of_day_lem}
use Rattle.model.specs.Closures.{closed?}
use Rattle.model.specs.declared.closure.Closure.{Closure}

-- A record of the arc has an edge after the tick: its first tick, where it starts later, or its end, where it contains the tick.
unfoldable pub next_edge : Closure → ℕ → ℕ → ℕ → ℕ
next_edge c a t limit = cond (c.arc == a) (cond (nat_lt t c.first) (min limit c.first) (cond (nat_lt t c.end) (min limit c.end) limit)) limit

-- The first edge of any record after the tick, if it comes before the limit, and else the limit.
unfoldable pub same_until : List Closure → ℕ → ℕ → ℕ → ℕ
same_until [] a t limit = limit
same_until (c ∷ closures) a t limit = same_until closures a t (next_edge c a t limit)

-- From a tick in interval k up to the interval's end, or a closure's edge before it, the arc has one speed. The interval's end is a sum that wraps
-- only where the fences break the rules.
pub record PieceFrom (tick k : ℕ) (fences speeds : List ℕ) (arc : ℕ) (closures : List Closure) (until speed end : ℕ) : Type 0 where
  pub end_is : end ≡ (tick - time_of_day_lem tick + slice_index_or fences (k + 1) day) % 2 ^ 32
  pub until_is : until ≡ same_until closures arc tick end
  pub speed_is : speed ≡ cond (closed? closures arc tick) 0 (slice_index speeds k)
