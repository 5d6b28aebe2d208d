-- Document 02, order 10, of a call: "It refuses as Labels does, 11 included, and changes nothing." Both tables are lent to be read. Otherwise it says
-- whether they are right, on the network as the asker finds it.
use Rattle.std.specs.Prelude.{ℕ, ◌≡◌, Bool, true, false, List, ◌↔◌}
use Rattle.model.specs.Network.{Network, network_for, net_of}
use Rattle.model.specs.Rules.{Outcome, refused, replied, replying}
use Rattle.model.specs.SentTables.{tables_right?, TablesRight}
use Rattle.labelling.specs.Labels.{labels_answer, labels_after, predecessors_after}

-- Labels' own refusal, or whether the tables are right.
abbrev pub tables_answer : Network → ℕ → ℕ → ℕ → List ℕ → List ℕ → Outcome Bool
tables_answer N asker source departure labels predecessors =
    replying (labels_answer N asker source departure labels predecessors) (tables_right? (net_of (network_for N asker)) source departure labels predecessors)

-- ---- What is proved of it

-- It is refused exactly where Labels is, with the same number.
abbrev pub TablesRefusedAsLabels : Type 0
TablesRefusedAsLabels = (N : Network) (asker source departure : ℕ) (labels predecessors : List ℕ) (number : ℕ) →
    (tables_answer N asker source departure labels predecessors ≡ refused number) ↔ (labels_answer N asker source departure labels predecessors ≡ refused number)

-- It says yes exactly where Labels replies and every label is the earliest arrival over all walks, every predecessor attains its junction's label, and
-- unreached junctions and the source carry the marks.
abbrev pub YesExactlyWhenRight : Type 0
YesExactlyWhenRight = (N : Network) (asker source departure : ℕ) (labels predecessors : List ℕ) →
    (tables_answer N asker source departure labels predecessors ≡ replied true)
    ↔ ((labels_answer N asker source departure labels predecessors ≡ replied tt) × TablesRight (net_of (network_for N asker)) source departure labels predecessors)

-- And no exactly where Labels replies and that is not so.
abbrev pub NoExactlyWhenWrong : Type 0
NoExactlyWhenWrong = (N : Network) (asker source departure : ℕ) (labels predecessors : List ℕ) →
    (tables_answer N asker source departure labels predecessors ≡ replied false)
    ↔ ((labels_answer N asker source departure labels predecessors ≡ replied tt) × (TablesRight (net_of (network_for N asker)) source departure labels predecessors → ⊥))

-- Labels that have a yes are those that Labels would leave in their place.
abbrev pub YesIsLabelsOwn : Type 0
YesIsLabelsOwn = (N : Network) (asker source departure : ℕ) (labels predecessors : List ℕ) →
    tables_answer N asker source departure labels predecessors ≡ replied true → labels ≡ labels_after N asker source departure labels predecessors

-- The tables that a call of Labels leaves have a yes.
abbrev pub LabelsTablesHaveYes : Type 0
LabelsTablesHaveYes = (N : Network) (asker source departure : ℕ) (labels predecessors : List ℕ) → labels_answer N asker source departure labels predecessors ≡ replied tt →
    tables_answer N asker source departure (labels_after N asker source departure labels predecessors) (predecessors_after N asker source departure labels predecessors) ≡ replied true
