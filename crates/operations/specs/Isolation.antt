-- Document 02, order 8: "Keep all other input, and compare two closure lists that are both accepted and agree, in order, on the records of party 0
-- and 1. Party 1 gets the same labels, predecessors, routes and refusals from both. The limit of 64 and the tests of 37 and 38 are shared. The same
-- holds with the parties exchanged": one statement over the asker. Demands 2 and 3 say what the answers are, and this what they cannot depend on.
use Rattle.std.specs.Prelude.{ℕ, ◌≡◌, List, [], ◌∷◌}
use Rattle.model.specs.Closures.{ClosuresKept}
use Rattle.model.specs.Labels.{labels_of, predecessors_of}
use Rattle.model.specs.Network.{Network, closed_by, network_for, arcs, net_of}
use Rattle.model.specs.Parties.{Stops}
use Rattle.model.specs.Routes.{route_of}
use Rattle.model.specs.declared.closure.Closure.{Closure}
use Rattle.certifying.specs.TablesCheck.{tables_answer}
use Rattle.labelling.specs.Labels.{labels_answer, labels_after, predecessors_after}
use Rattle.passing.specs.Passes.{passes_answer}
use Rattle.routing.specs.Route.{route_answer, route_arrival, arcs_after}
use Rattle.sheeting.specs.Sheet.{sheet_answer, sheet_labels_after, sheet_figures_after}

-- The two lists have the same records that stop the asker, those of party 0 and of its own, in the same order. Others may stand before, between and
-- behind them in either list.
pub data SameRecords (asker : ℕ) : List Closure → List Closure → Type 0 where
  no_record : SameRecords asker [] []
  in_both : (c : Closure) {first second : List Closure} → SameRecords asker first second → SameRecords asker (c ∷ first) (c ∷ second)
  in_first : (c : Closure) {first second : List Closure} → (Stops asker c → ⊥) → SameRecords asker first second → SameRecords asker (c ∷ first) second
  in_second : (c : Closure) {first second : List Closure} → (Stops asker c → ⊥) → SameRecords asker first second → SameRecords asker first (c ∷ second)

-- Both lists keep 36, 37 and 38, and they agree so.
pub record Agree (asker arcs : ℕ) (first second : List Closure) : Type 0 where
  pub first_kept : ClosuresKept arcs first
  pub second_kept : ClosuresKept arcs second
  pub same_records : SameRecords asker first second

-- What the asker is told in one network it is told in the other.
pub record SameFor (asker : ℕ) (A B : Network) : Type 0 where
  -- By definition: the labels, the predecessors and the routes.
  pub labels : (source departure : ℕ) → labels_of (net_of (network_for A asker)) source departure ≡ labels_of (net_of (network_for B asker)) source departure
  pub predecessors : (source departure : ℕ) →
      predecessors_of (net_of (network_for A asker)) source departure ≡ predecessors_of (net_of (network_for B asker)) source departure
  pub routes : (source departure destination : ℕ) →
      route_of (net_of (network_for A asker)) source departure destination ≡ route_of (net_of (network_for B asker)) source departure destination
  -- Of each call: its answer, a refusal too, and what it leaves in each lent table.
  pub labels_call : (source departure : ℕ) (labels predecessors : List ℕ) →
      (labels_answer A asker source departure labels predecessors ≡ labels_answer B asker source departure labels predecessors)
      × (labels_after A asker source departure labels predecessors ≡ labels_after B asker source departure labels predecessors)
      × (predecessors_after A asker source departure labels predecessors ≡ predecessors_after B asker source departure labels predecessors)
  -- Of Passes its answer; in the buffers it leaves what Labels does.
  pub passes_call : (source departure : ℕ) (labels predecessors : List ℕ) →
      passes_answer A asker source departure labels predecessors ≡ passes_answer B asker source departure labels predecessors
  -- Of the check of sent tables its answer; it writes nothing.
  pub tables_call : (source departure : ℕ) (labels predecessors : List ℕ) →
      tables_answer A asker source departure labels predecessors ≡ tables_answer B asker source departure labels predecessors
  pub route_call : (source departure destination : ℕ) (arcs : List ℕ) →
      (route_answer A asker source departure destination arcs ≡ route_answer B asker source departure destination arcs)
      × (route_arrival A asker source departure destination arcs ≡ route_arrival B asker source departure destination arcs)
      × (arcs_after A asker source departure destination arcs ≡ arcs_after B asker source departure destination arcs)
  pub sheet_call : (source : ℕ) (departures labels figures : List ℕ) →
      (sheet_answer A asker source departures labels figures ≡ sheet_answer B asker source departures labels figures)
      × (sheet_labels_after A asker source departures labels figures ≡ sheet_labels_after B asker source departures labels figures)
      × (sheet_figures_after A asker source departures labels figures ≡ sheet_figures_after B asker source departures labels figures)

-- Of every network and every asker, known or not.
abbrev pub Isolation : Type 0
Isolation = (N : Network) (asker : ℕ) (first second : List Closure) → Agree asker (arcs N) first second →
    SameFor asker (closed_by N first) (closed_by N second)
