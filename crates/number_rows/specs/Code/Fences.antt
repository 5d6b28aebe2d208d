-- Fences one by one.
use Rattle.std.specs.Prelude.{ℕ, Bool, cond, ◌&&◌, ltb, eqb}
use Rattle.model.specs.Ticks.{day}

-- A fence behind k others, the last of which is known.
abbrev pub fence_keeps_lem : ℕ → ℕ → ℕ → Bool
fence_keeps_lem k before fence = cond (eqb k 0) (eqb fence 0) (ltb before fence && ltb fence day)
