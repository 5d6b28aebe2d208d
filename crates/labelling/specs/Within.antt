-- Labels into buffers that may be longer than a town has junctions: the first entries of each are lent, one for each junction, and the rest of
-- the buffer stays as it was.
use Rattle.std.specs.Prelude.{ℕ, List, take}
use Rattle.model.specs.Network.{Network}
use Rattle.model.specs.Rules.{Outcome, written}
use Rattle.labelling.specs.Labels.{labels_answer, labels_after, predecessors_after}

abbrev pub front : Network → List ℕ → List ℕ
front N buffer = take N.junctions buffer

abbrev pub answer_within : Network → ℕ → ℕ → ℕ → List ℕ → List ℕ → Outcome (Unit {0})
answer_within N asker source departure labels predecessors = labels_answer N asker source departure (front N labels) (front N predecessors)

-- What each buffer holds afterwards, whole: where the call is refused, what it held before.
abbrev pub labels_within_lem : Network → ℕ → ℕ → ℕ → List ℕ → List ℕ → List ℕ
labels_within_lem N asker source departure labels predecessors = written (labels_after N asker source departure (front N labels) (front N predecessors)) labels

abbrev pub predecessors_within : Network → ℕ → ℕ → ℕ → List ℕ → List ℕ → List ℕ
predecessors_within N asker source departure labels predecessors = written (predecessors_after N asker source departure (front N labels) (front N predecessors)) predecessors
