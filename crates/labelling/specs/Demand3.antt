-- Demand 3, whole: the arrival never becomes later when things get better. It is one claim about two whole networks, all changes
-- together, and "holds of the arrivals defined in demand 2 and of the labels that Labels writes". Document 02, order 8: "For the improvement rule,
-- a tick is closed if it is closed to the asker": both networks are taken as the asker finds them.
use Rattle.std.specs.Prelude.{ℕ, ◌≤◌, ◌<◌, ◌≡◌, List, get_or}
use Rattle.model.specs.Ticks.{day, never}
use Rattle.model.specs.Network.{Network, network_for, net_of}
use Rattle.model.specs.Walks.{Arrives}
use Rattle.model.specs.Demands.{label, GetsBetter}
use Rattle.model.specs.Rules.{replied}
use Rattle.labelling.specs.Labels.{labels_answer, labels_after}

-- In the second network, left at the early tick, nothing arrives later than in the first, left at the late one.
pub record NeverLater (A B : Network) (asker source early late : ℕ) : Type 0 where
  -- Of arrivals: each walk in the first network has one in the second that arrives at the same junction at the same tick or before.
  pub arrivals : (j t : ℕ) → Arrives (net_of (network_for A asker)) source late j t → (t' : ℕ) × (t' ≤ t) × Arrives (net_of (network_for B asker)) source early j t'
  -- Of labels. `never` is the greatest: a junction that is reached in the first network is reached in the second.
  pub labels : source < A.junctions → late < day → (j : ℕ) → j < A.junctions →
      label (network_for B asker) source early j ≤ label (network_for A asker) source late j
  -- Of the buffers that two calls of Labels leave, one on each network, which both reply.
  pub calls : (labels predecessors labels' predecessors' : List ℕ) →
      labels_answer A asker source late labels predecessors ≡ replied tt → labels_answer B asker source early labels' predecessors' ≡ replied tt →
      (j : ℕ) → j < A.junctions →
      get_or (labels_after B asker source early labels' predecessors') j never ≤ get_or (labels_after A asker source late labels predecessors) j never

abbrev pub Demand3 : Type 0
Demand3 = (A B : Network) (asker source early late : ℕ) → GetsBetter (network_for A asker) (network_for B asker) early late → NeverLater A B asker source early late
