-- Document 02, order 9: "Our test staff want the reckoning by repeated passes over all arcs, lowering labels until a pass changes none. Input, refusals,
-- labels and predecessors are those of Labels, for every input." So a call leaves in both buffers what Labels leaves there, `labels_after` and
-- `predecessors_after`, and is refused as Labels is. It replies the number of passes.
use Rattle.std.specs.Prelude.{ℕ, ◌≤◌, ◌≡◌, List, ◌↔◌}
use Rattle.model.specs.Network.{Network, network_for, net_of}
use Rattle.model.specs.Passes.{after_passes, passes_of, IsFirstUnchanged}
use Rattle.model.specs.Rules.{Outcome, refused, replied, replying}
use Rattle.labelling.specs.Labels.{labels_answer, labels_after}

-- Labels' own answer, with the number of passes on the network as the asker finds it.
abbrev pub passes_answer : Network → ℕ → ℕ → ℕ → List ℕ → List ℕ → Outcome ℕ
passes_answer N asker source departure labels predecessors =
    replying (labels_answer N asker source departure labels predecessors) (passes_of (net_of (network_for N asker)) source departure)

-- ---- What is proved of it

-- It is refused exactly where Labels is, with the same number.
abbrev pub PassesRefusesAsLabels : Type 0
PassesRefusesAsLabels = (N : Network) (asker source departure : ℕ) (labels predecessors : List ℕ) (number : ℕ) →
    (passes_answer N asker source departure labels predecessors ≡ refused number) ↔ (labels_answer N asker source departure labels predecessors ≡ refused number)

-- It replies a number exactly where Labels replies and the number is that of the first pass that changes no label.
abbrev pub PassesRepliesFirstUnchanged : Type 0
PassesRepliesFirstUnchanged = (N : Network) (asker source departure : ℕ) (labels predecessors : List ℕ) (number : ℕ) →
    (passes_answer N asker source departure labels predecessors ≡ replied number)
    ↔ ((labels_answer N asker source departure labels predecessors ≡ replied tt) × IsFirstUnchanged (net_of (network_for N asker)) source departure number)

-- A number that is replied is at least 1 and "at most the junction count", so that with one junction it is 1; and so many passes leave the very
-- labels that the call leaves in the buffer.
abbrev pub PassesOfCall : Type 0
PassesOfCall = (N : Network) (asker source departure : ℕ) (labels predecessors : List ℕ) (number : ℕ) →
    passes_answer N asker source departure labels predecessors ≡ replied number →
    (1 ≤ number) × (number ≤ N.junctions)
    × (after_passes (net_of (network_for N asker)) source departure number ≡ labels_after N asker source departure labels predecessors)
