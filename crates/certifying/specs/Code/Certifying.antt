-- What the check of sent tables looks at, junction by junction and arc by arc.
use Rattle.std.specs.Prelude.{ℕ, ◌≤◌, ◌<◌, ◌≡◌, Bool, true, false, not, List, leb, eqb, length, get_or, Option, None, Some}
use Rattle.model.specs.Ticks.{last, never}
use Rattle.model.specs.Limits.{max_arcs, max_intervals, max_junctions}
use Rattle.model.specs.Intervals.{FencesKept}
use Rattle.model.specs.Labels.{no_arc}
use Rattle.model.specs.Network.{Network}
use Rattle.closed_arcs.specs.FromLabels.{offered}

-- ---- A junction

-- The source has the departure and no predecessor. Any other junction is unreached with both marks, or has a tick up to the last and an arc into it.
pub data Stands (heads : List ℕ) (source departure j label predecessor : ℕ) : Type 0 where
  at_source : j ≡ source → label ≡ departure → predecessor ≡ no_arc → Stands heads source departure j label predecessor
  unreached : (j ≡ source → ⊥) → label ≡ never → predecessor ≡ no_arc → Stands heads source departure j label predecessor
  reached : (j ≡ source → ⊥) → label ≤ last → predecessor < length heads → get_or heads predecessor 0 ≡ j → Stands heads source departure j label predecessor

abbrev pub AllStand : List ℕ → ℕ → ℕ → List ℕ → List ℕ → ℕ → Type 0
AllStand heads source departure labels predecessors k =
    (j : ℕ) → j < k → Stands heads source departure j (get_or labels j never) (get_or predecessors j no_arc)

-- What a look at each junction rests on.
pub record Lookable (fences heads labels predecessors : List ℕ) : Type 0 where
  pub some_interval : 1 ≤ length fences
  pub few_intervals : length fences ≤ max_intervals
  pub fences_kept : FencesKept fences
  pub few_arcs : length heads ≤ max_arcs
  pub few_junctions : length labels ≤ max_junctions
  pub as_many : length predecessors ≡ length labels

-- ---- An arc

-- Whether an arrival goes with the head's label: it is the label, where the arc is the head's predecessor, the chosen one, and else no earlier.
abbrev pub meets? : ℕ → ℕ → Bool → Bool
meets? tick label true = eqb tick label
meets? tick label false = leb label tick

-- The same where the arc may not be driven: then it must not be the predecessor.
abbrev pub comes_to? : Option (ℕ × ℕ) → ℕ → Bool → Bool
comes_to? (Some (tick, interval)) label chosen = meets? tick label chosen
comes_to? None label chosen = not chosen

-- The arc keeps the labels at its ends: the arrival from the tail's label is no earlier than the head's label; and it is the label, by the last tick, where the
-- arc is the head's predecessor.
pub record Keeps (N : Network) (labels predecessors : List ℕ) (a : ℕ) : Type 0 where
  pub no_lower : get_or labels (get_or N.heads a 0) never ≤ offered N labels a
  pub attains : get_or predecessors (get_or N.heads a 0) no_arc ≡ a → (offered N labels a ≤ last) × (offered N labels a ≡ get_or labels (get_or N.heads a 0) never)

abbrev pub AllKeep : Network → List ℕ → List ℕ → ℕ → Type 0
AllKeep N labels predecessors k = (a : ℕ) → a < k → Keeps N labels predecessors a
