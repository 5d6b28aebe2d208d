-- "A walk takes arcs head to tail, leaving each junction at the tick of arrival." Walks over any drive function: the tick of
-- arrival on an arc that is left at a tick, or never.
use Rattle.std.specs.Prelude.{ℕ, ◌≤◌, ◌<◌, ◌≡◌, ◌⊎◌}
use Rattle.model.specs.Ticks.{last, never}

pub record Net : Type 0 where
  pub junctions : ℕ
  pub arcs : ℕ
  pub tail : ℕ → ℕ
  pub head : ℕ → ℕ
  pub drive : ℕ → ℕ → ℕ

-- What the theory asks of a net: arcs join its junctions; driving one takes time, and leaving no later arrives no later.
pub record Sound (N : Net) : Type 0 where
  pub tail_below : (a : ℕ) → a < N.arcs → N.tail a < N.junctions
  pub head_below : (a : ℕ) → a < N.arcs → N.head a < N.junctions
  pub later : (a t : ℕ) → a < N.arcs → t < never → t < N.drive a t
  pub monotone : (a s t : ℕ) → a < N.arcs → s ≤ t → N.drive a s ≤ N.drive a t
  -- An arc is driven by the last tick or never.
  pub driven : (a t : ℕ) → a < N.arcs → (N.drive a t ≤ last) ⊎ (N.drive a t ≡ never)

-- A walk from the source, left at the departure, stands at a junction at a tick. Each of its arcs arrives by the last tick.
pub data Arrives (N : Net) (source departure : ℕ) : ℕ → ℕ → Type 0 where
  start : Arrives N source departure source departure
  along : (a : ℕ) {t : ℕ} → a < N.arcs → Arrives N source departure (N.tail a) t → N.drive a t ≤ last → Arrives N source departure (N.head a) (N.drive a t)

-- The same, where the vehicle may wait at each junction before it goes on.
pub data ArrivesWaiting (N : Net) (source departure : ℕ) : ℕ → ℕ → Type 0 where
  start : ArrivesWaiting N source departure source departure
  along : (a : ℕ) {t : ℕ} (u : ℕ) → a < N.arcs → ArrivesWaiting N source departure (N.tail a) t → t ≤ u → N.drive a u ≤ last →
      ArrivesWaiting N source departure (N.head a) (N.drive a u)

-- "A junction's label is the least arrival over all walks from the source": of every junction of the net, and all walks. Any
-- label other than never is attained.
pub record Earliest (N : Net) (source departure : ℕ) (label : ℕ → ℕ) : Type 0 where
  pub attained : (j : ℕ) → j < N.junctions → (label j ≡ never → ⊥) → Arrives N source departure j (label j)
  pub no_sooner : (j t : ℕ) → Arrives N source departure j t → label j ≤ t
  pub no_sooner_waiting : (j t : ℕ) → ArrivesWaiting N source departure j t → label j ≤ t
  pub unreached : (j t : ℕ) → label j ≡ never → Arrives N source departure j t → ⊥

-- ---- What is proved of it

-- There is one such label for each junction of the net.
abbrev pub EarliestIsUnique : Type 0
EarliestIsUnique = (N : Net) (source departure : ℕ) (f g : ℕ → ℕ) → Earliest N source departure f → Earliest N source departure g → (j : ℕ) → j < N.junctions → f j ≡ g j
