-- Demand 3 of the sheet: in a better network, left no later, no row has a later label, and no junction is reached by fewer departures.
-- Both networks are taken as the asker finds them.
use Rattle.std.specs.Prelude.{ℕ, ◌≤◌, ◌<◌, ◌≡◌, List, length, get_or}
use Rattle.model.specs.Ticks.{never}
use Rattle.model.specs.Network.{Network, network_for}
use Rattle.model.specs.Demands.{GetsBetter}
use Rattle.model.specs.Rules.{replied}
use Rattle.sheeting.specs.Figures.{figure_in}
use Rattle.sheeting.specs.Rows.{row}
use Rattle.sheeting.specs.Sheet.{sheet_answer, sheet_labels_after, sheet_figures_after}

-- Of the buffers of two sheets with as many departures.
pub record SheetNeverLater (A B : Network) (departures labels figures labels' figures' : List ℕ) : Type 0 where
  pub rows : (k j : ℕ) → k < length departures → j < A.junctions → get_or (row B k labels') j never ≤ get_or (row A k labels) j never
  pub counts : (j : ℕ) → j < A.junctions → figure_in figures j 0 ≤ figure_in figures' j 0

-- Two calls which both reply, the second in a network that is better, each departure no later than the one at its place in the first.
abbrev pub Demand3OfSheet : Type 0
Demand3OfSheet = (A B : Network) (asker source : ℕ) (early late labels figures labels' figures' : List ℕ) → length early ≡ length late →
    ((k : ℕ) → k < length late → GetsBetter (network_for A asker) (network_for B asker) (get_or early k 0) (get_or late k 0)) →
    sheet_answer A asker source late labels figures ≡ replied tt → sheet_answer B asker source early labels' figures' ≡ replied tt →
    SheetNeverLater A B late
    (sheet_labels_after A asker source late labels figures) (sheet_figures_after A asker source late labels figures)
    (sheet_labels_after B asker source early labels' figures') (sheet_figures_after B asker source early labels' figures')
