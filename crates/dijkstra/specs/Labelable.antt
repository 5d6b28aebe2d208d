-- What the labelling answers, a question that is taken, with a label and a predecessor for each junction; and what it leaves in the lent buffers.
use Rattle.std.specs.Prelude.{ℕ, ◌≡◌, List, length}
use Rattle.model.specs.Network.{Network, net_of}
use Rattle.model.specs.Labels.{labels_of, predecessors_of}
use Rattle.checking.specs.Question.{Taken}
use Rattle.index_bounds.specs.Fitting.{Fits}

pub record Labelable (N : Network) (source departure : ℕ) (labels predecessors : List ℕ) : Type 0 where
  pub taken : Taken N source departure
  pub labels_long : length labels ≡ N.junctions
  pub predecessors_long : length predecessors ≡ N.junctions

-- A buffer afterwards: the table, of a question that it answers; where what the indices rest on does not hold, what the buffer held before.
pub record Left (N : Network) (source departure : ℕ) (labels predecessors table before after : List ℕ) : Type 0 where
  pub when_labelable : Labelable N source departure labels predecessors → after ≡ table
  pub unless_fits : (Fits N source departure (length labels) (length predecessors) → ⊥) → after ≡ before

abbrev pub LabelsLeft : Network → ℕ → ℕ → List ℕ → List ℕ → List ℕ → Type 0
LabelsLeft N source departure labels predecessors after = Left N source departure labels predecessors (labels_of (net_of N) source departure) labels after

abbrev pub PredecessorsLeft : Network → ℕ → ℕ → List ℕ → List ℕ → List ℕ → Type 0
PredecessorsLeft N source departure labels predecessors after = Left N source departure labels predecessors (predecessors_of (net_of N) source departure) predecessors after
