-- What the passes find and leave in the tables of an accepted network.
use Rattle.std.specs.Prelude.{ℕ, suc, ◌≤◌, ◌<◌, ◌≡◌, Bool, true, false, List, length, get_or, Option, None, Some}
use Rattle.model.specs.Ticks.{never}
use Rattle.model.specs.Limits.{max_arcs, max_junctions}
use Rattle.model.specs.Walks.{Net}
use Rattle.model.specs.Labels.{no_arc, Attains}
use Rattle.model.specs.Network.{Network, arcs}
use Rattle.closed_arcs.specs.FromLabels.{TimedLabels, offered, OnArc}

-- The tick of what driving an arc comes to, which is kept for the predecessors.
abbrev pub tick_of : Option (ℕ × ℕ) → ℕ
tick_of (Some (tick, interval)) = tick
tick_of None = never

-- ---- Arcs that need not be driven again

-- The arc would lower no label, and at its place in a table stands the tick of what driving it came to.
pub record UpToDate (N : Network) (labels arrivals : List ℕ) (a : ℕ) : Type 0 where
  pub arrived : Option (ℕ × ℕ)
  pub on_arc : OnArc N labels a arrived
  pub tick_is : get_or arrivals a 0 ≡ tick_of arrived
  pub no_lower : get_or labels (get_or N.heads a 0) never ≤ offered N labels a

abbrev pub AllUpToDate : Network → List ℕ → List ℕ → ℕ → Type 0
AllUpToDate N labels arrivals k = (a : ℕ) → a < k → UpToDate N labels arrivals a

-- A table has for each junction the number of the pass that has lowered its label last. In the pass after so many made, before its arc k: an arc that this
-- pass has been at is up to date, unless this pass has lowered its tail's label; and so is any other, unless this pass or the one before it has.
pub record Current (N : Network) (labels arrivals latest : List ℕ) (made k : ℕ) : Type 0 where
  pub arrivals_long : length arrivals ≡ max_arcs
  pub latest_long : length latest ≡ max_junctions
  pub by_now : (j : ℕ) → get_or latest j 0 ≤ suc made
  pub seen : (a : ℕ) → a < k → a < arcs N → get_or latest (get_or N.tails a 0) 0 ≤ made → UpToDate N labels arrivals a
  pub ahead : (a : ℕ) → k ≤ a → a < arcs N → get_or latest (get_or N.tails a 0) 0 < made → UpToDate N labels arrivals a

-- This pass has lowered no label yet.
abbrev pub NoneLowered : List ℕ → ℕ → Type 0
NoneLowered latest made = (j : ℕ) → get_or latest j 0 ≤ made

-- ---- Arcs that lower labels

-- Whether labels have become others: one of them is lower, or all are the same.
pub data Tells (before after : List ℕ) : Bool → Type 0 where
  lowered : (j : ℕ) → get_or after j never < get_or before j never → Tells before after true
  same : after ≡ before → Tells before after false

-- What an arc or a pass leaves: the labels that it should, and it tells whether they have changed.
pub record LabelsBecome (N : Network) (before expected after intervals : List ℕ) (changed : Bool) : Type 0 where
  pub labels_are : after ≡ expected
  pub timed : TimedLabels N after intervals
  pub tells : Tells before after changed

-- ---- Predecessors

-- The lowest_numbered of the first k arcs that attains a junction's label, or none where none of them does.
pub data LowestOf (N : Net) (labels : List ℕ) (k j : ℕ) : ℕ → Type 0 where
  has_no_arc : ((a : ℕ) → a < k → Attains N labels j a → ⊥) → LowestOf N labels k j no_arc
  lowest : (a : ℕ) → a < k → Attains N labels j a → ((b : ℕ) → b < a → Attains N labels j b → ⊥) → LowestOf N labels k j a

-- Each junction has it.
pub record LowestAttaining (N : Net) (labels : List ℕ) (k : ℕ) (predecessors : List ℕ) : Type 0 where
  pub long : length predecessors ≡ N.junctions
  pub each : (j : ℕ) → j < N.junctions → LowestOf N labels k j (get_or predecessors j no_arc)
