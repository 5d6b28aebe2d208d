-- "Labels (network, source, departure, lent labels and predecessors). 1 to 8; 9, source not below the junction count; 10,
-- departure 864,000 or above; 11, either lent buffer not exactly as long as the junction count. Otherwise both buffers hold
-- every junction's label and predecessor." By document 02, order 5, 32 stands after 8, and by orders 7 and 8, 36 to 39 after
-- it. The network has the whole list of closures; what is reckoned is reckoned on the network as the asker finds it.
use Rattle.std.specs.Prelude.{ℕ, ◌≡◌, not, ◌&&◌, List, [], ◌∷◌, ◌++◌, ◌↔◌, eqb, length, get_or}
use Rattle.model.specs.Ticks.{never}
use Rattle.model.specs.Closures.{Closed}
use Rattle.model.specs.Network.{Network, closed_by, network_for, net_of}
use Rattle.model.specs.Parties.{KnownAsker, closures_for}
use Rattle.model.specs.declared.closure.Closure.{Closure}
use Rattle.model.specs.Labels.{labels_of, predecessors_of, Certified, Lowest}
use Rattle.model.specs.Walks.{Earliest}
use Rattle.model.specs.Rules.{Outcome, replied, Rule, ◌if◌, first_broken, after}
use Rattle.checking.specs.Question.{question_rules}
use Rattle.dijkstra.specs.Labelable.{Labelable}

-- The rule on the buffers, after those of the question.
abbrev pub buffer_rules : Network → List ℕ → List ℕ → List Rule
buffer_rules N labels predecessors = (11 if not (eqb (length labels) N.junctions && eqb (length predecessors) N.junctions)) ∷ []

unfoldable pub labels_answer : Network → ℕ → ℕ → ℕ → List ℕ → List ℕ → Outcome (Unit {0})
labels_answer N asker source departure labels predecessors = first_broken (question_rules N asker source departure ++ buffer_rules N labels predecessors) tt

abbrev pub labels_after : Network → ℕ → ℕ → ℕ → List ℕ → List ℕ → List ℕ
labels_after N asker source departure labels predecessors =
    after (labels_answer N asker source departure labels predecessors) (labels_of (net_of (network_for N asker)) source departure) labels

abbrev pub predecessors_after : Network → ℕ → ℕ → ℕ → List ℕ → List ℕ → List ℕ
predecessors_after N asker source departure labels predecessors =
    after (labels_answer N asker source departure labels predecessors) (predecessors_of (net_of (network_for N asker)) source departure) predecessors

-- ---- What is proved of it

-- Labels replies exactly where the asker is known, the question is taken and the buffers have the right length.
abbrev pub LabelsRepliesWhenLabelable : Type 0
LabelsRepliesWhenLabelable = (N : Network) (asker source departure : ℕ) (labels predecessors : List ℕ) →
    (labels_answer N asker source departure labels predecessors ≡ replied tt) ↔ (KnownAsker asker × Labelable N source departure labels predecessors)

-- Demand 2 of the buffers that a call which replies leaves: the labels are the earliest arrivals over all walks, and the two
-- tables satisfy the conditions that no other tables do.
abbrev pub Demand2OfCall : Type 0
Demand2OfCall = (N : Network) (asker source departure : ℕ) (labels predecessors : List ℕ) → labels_answer N asker source departure labels predecessors ≡ replied tt →
    let net = net_of (network_for N asker) in
    let labels' = labels_after N asker source departure labels predecessors in
    let predecessors' = predecessors_after N asker source departure labels predecessors in
    Earliest net source departure (λ j. get_or labels' j never) × Certified net source departure labels' predecessors' × Lowest net source labels' predecessors'

-- Of two calls of one asker that both reply, on networks whose lists close the same ticks of the same arcs to it: they leave the same buffers.
abbrev pub SameClosedOfCall : Type 0
SameClosedOfCall = (N : Network) (closures : List Closure) (asker : ℕ) →
    ((a t : ℕ) → Closed (closures_for asker N.closures) a t ↔ Closed (closures_for asker closures) a t) → (source departure : ℕ) (labels predecessors : List ℕ) →
    let M = closed_by N closures in
    labels_answer N asker source departure labels predecessors ≡ replied tt → labels_answer M asker source departure labels predecessors ≡ replied tt →
    (labels_after N asker source departure labels predecessors ≡ labels_after M asker source departure labels predecessors)
    × (predecessors_after N asker source departure labels predecessors ≡ predecessors_after M asker source departure labels predecessors)
