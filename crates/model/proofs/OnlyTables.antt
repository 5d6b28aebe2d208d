-- The labels and the predecessors are certified and lowest, and no other two tables are: certified labels are the earliest
-- arrivals, of which there is one table, and the lowest attaining arcs are one table as well.
use Prim.Native.Nat.{ℕ, ◌≤◌, ◌<◌}
use mathlib.Core.Path.{◌≡◌, refl, ◌∙◌, ap}
use Rattle.model.specs.Ticks.{last}
use Rattle.model.specs.Walks.{Net, Sound}
use Rattle.model.specs.Labels.{labels_of, predecessors_of, Certified, Lowest, OnlyTables}
use Rattle.model.proofs.Least.{labels_length, labels_are_earliest}
use Rattle.model.proofs.Certificate.{certified_labels}
use Rattle.model.proofs.Predecessors.{predecessors_for, predecessors_lowest, certified_predecessors, earliest_certified}

-- The predecessors are those that go with the labels.
predecessors_of_labels : (N : Net) (source departure : ℕ) → predecessors_for N source (labels_of N source departure) ≡ predecessors_of N source departure
unfolding predecessors_of
predecessors_of_labels N source departure = refl

pub labels_lowest : (N : Net) (source departure : ℕ) → Lowest N source (labels_of N source departure) (predecessors_of N source departure)
labels_lowest N source departure = rw (← predecessors_of_labels) (predecessors_lowest N source (labels_of N source departure))

pub labels_certified : (N : Net) → Sound N → (source departure : ℕ) → source < N.junctions → departure ≤ last →
    Certified N source departure (labels_of N source departure) (predecessors_of N source departure)
labels_certified N sound source departure inside departs =
    rw (← predecessors_of_labels)
    (earliest_certified N sound source departure departs (labels_of N source departure)
    (labels_are_earliest N sound source departure inside departs) inside (labels_length N source departure))

pub only_tables : OnlyTables
only_tables N sound source departure inside departs labels predecessors = (only, are)
  where
    only : Certified N source departure labels predecessors × Lowest N source labels predecessors →
        (labels ≡ labels_of N source departure) × (predecessors ≡ predecessors_of N source departure)
    only (certified, lowest) =
        let same = certified_labels N sound source departure inside departs labels predecessors certified in
        (same, certified_predecessors N source labels certified lowest ∙ (ap (predecessors_for N source) same ∙ predecessors_of_labels N source departure))

    are : (labels ≡ labels_of N source departure) × (predecessors ≡ predecessors_of N source departure) →
        Certified N source departure labels predecessors × Lowest N source labels predecessors
    are (e, f) = rw (e, f) (labels_certified N sound source departure inside departs, labels_lowest N source departure)
