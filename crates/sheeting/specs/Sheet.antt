-- "The station plans with a list of departures, 1 to 96 of them, from one source." "30, the list is empty or above 96, after 9; 31,
-- either buffer has the wrong length, in place of 11, after 10, which now covers every departure." By order 5, 32 stands after 8, and by
-- orders 7 and 8, 36 to 39 after it. The network has the whole list of closures; the rows are those of the network as the asker finds it.
use Rattle.std.specs.Prelude.{ℕ, ◌*◌, ◌≤◌, ◌<◌, ◌≡◌, Bool, not, ◌&&◌, List, [], ◌∷◌, ◌++◌, ◌↔◌, eqb, leb, ltb, length, get_or}
use Rattle.model.specs.Ticks.{day, never}
use Rattle.model.specs.Closures.{ClosuresKept}
use Rattle.model.specs.Network.{Network, network_for, Accepted, arcs, net_of}
use Rattle.model.specs.Parties.{KnownAsker}
use Rattle.model.specs.Walks.{Earliest}
use Rattle.model.specs.Rules.{Outcome, replied, Rule, ◌if◌, first_broken, after, every}
use Rattle.checking.specs.ClosedNetwork.{closed_network_rules}
use Rattle.checking.specs.Question.{source_rules}
use Rattle.labelling.specs.Labels.{labels_answer, labels_after}
use Rattle.sheeting.specs.Figures.{figures_of, figure_in, FiguresMean}
use Rattle.sheeting.specs.Rows.{rows_of, row}

-- ---- The rules

-- "A list of departures, 1 to 96 of them."
abbrev pub max_departures : ℕ
max_departures = 96

abbrev pub list_rules : List ℕ → List Rule
list_rules departures = (30 if not (ltb 0 (length departures) && leb (length departures) max_departures)) ∷ []

abbrev pub in_day : ℕ → Bool
in_day departure = ltb departure day

abbrev pub departures_rules : List ℕ → List Rule
departures_rules departures = (10 if not (every in_day departures)) ∷ []

-- The rules on where and when the walks start, after those of the network with its closures and of the asker.
abbrev pub shift_rules : Network → ℕ → List ℕ → List Rule
shift_rules N source departures = source_rules N source ++ (list_rules departures ++ departures_rules departures)

abbrev pub sheet_buffer_rules : Network → List ℕ → List ℕ → List ℕ → List Rule
sheet_buffer_rules N departures labels figures =
    (31 if not (eqb (length labels) (length departures * N.junctions) && eqb (length figures) (4 * N.junctions))) ∷ []

unfoldable pub shift_check_lem : Network → ℕ → ℕ → List ℕ → Outcome (Unit {0})
shift_check_lem N asker source departures = first_broken (closed_network_rules N asker ++ shift_rules N source departures) tt

unfoldable pub sheet_answer : Network → ℕ → ℕ → List ℕ → List ℕ → List ℕ → Outcome (Unit {0})
sheet_answer N asker source departures labels figures =
    first_broken ((closed_network_rules N asker ++ shift_rules N source departures) ++ sheet_buffer_rules N departures labels figures) tt

-- ---- The buffers

abbrev pub sheet_labels_after : Network → ℕ → ℕ → List ℕ → List ℕ → List ℕ → List ℕ
sheet_labels_after N asker source departures labels figures =
    after (sheet_answer N asker source departures labels figures) (rows_of (network_for N asker) source departures) labels

abbrev pub sheet_figures_after : Network → ℕ → ℕ → List ℕ → List ℕ → List ℕ → List ℕ
sheet_figures_after N asker source departures labels figures =
    after (sheet_answer N asker source departures labels figures) (figures_of (network_for N asker) source departures) figures

-- ---- What is proved of it

-- The source and every departure of a list of 1 to 96 are taken.
pub record ShiftTaken (N : Network) (source : ℕ) (departures : List ℕ) : Type 0 where
  pub accepted : Accepted N
  pub closures_kept : ClosuresKept (arcs N) N.closures
  pub source_below : source < N.junctions
  pub some : 0 < length departures
  pub at_most : length departures ≤ max_departures
  pub departures_below : (k : ℕ) → k < length departures → get_or departures k 0 < day

-- What the sheet asks.
pub record Sheetable (N : Network) (source : ℕ) (departures labels figures : List ℕ) : Type 0 where
  pub taken : ShiftTaken N source departures
  pub labels_long : length labels ≡ length departures * N.junctions
  pub figures_long : length figures ≡ 4 * N.junctions

-- It replies exactly then, to an asker that is known.
abbrev pub SheetRepliesWhenSheetable : Type 0
SheetRepliesWhenSheetable = (N : Network) (asker source : ℕ) (departures labels figures : List ℕ) →
    (sheet_answer N asker source departures labels figures ≡ replied tt) ↔ (KnownAsker asker × Sheetable N source departures labels figures)

-- "A row holds exactly the labels that Labels gives for that departure": those that a call of Labels leaves, which are the earliest
-- arrivals over all walks. And the figures of each junction mean what they are called.
pub record SheetMeans (N : Network) (asker source : ℕ) (departures labels figures : List ℕ) : Type 0 where
  pub rows : (k : ℕ) → k < length departures → (buffer predecessors : List ℕ) → length buffer ≡ N.junctions → length predecessors ≡ N.junctions →
      (labels_answer N asker source (get_or departures k 0) buffer predecessors ≡ replied tt)
      × (row N k labels ≡ labels_after N asker source (get_or departures k 0) buffer predecessors)
  pub rows_earliest : (k : ℕ) → k < length departures → Earliest (net_of (network_for N asker)) source (get_or departures k 0) (λ j. get_or (row N k labels) j never)
  pub junction_figures : (j : ℕ) → j < N.junctions →
      FiguresMean (network_for N asker) source j departures (figure_in figures j 0) (figure_in figures j 1) (figure_in figures j 2) (figure_in figures j 3)

-- Of the buffers that a call which replies leaves.
abbrev pub SheetOfCallMeans : Type 0
SheetOfCallMeans = (N : Network) (asker source : ℕ) (departures labels figures : List ℕ) → sheet_answer N asker source departures labels figures ≡ replied tt →
    SheetMeans N asker source departures (sheet_labels_after N asker source departures labels figures) (sheet_figures_after N asker source departures labels figures)
