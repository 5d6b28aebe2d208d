-- What a program answers from a town file, a source and a departure: "Load's refusals with their town-file line, then 9 or 10 with line 0"; otherwise
-- every junction's label and predecessor.
use Rattle.std.specs.Prelude.{ℕ, List, length}
use Rattle.model.specs.Labels.{labels_of, predecessors_of}
use Rattle.model.specs.Network.{Network, net_of}
use Rattle.model.specs.Rules.{first_broken, written}
use Rattle.townfile.specs.FirstFault.{Reading, refused_at, accepted}
use Rattle.checking.specs.Question.{start_rules}
use Rattle.question_line.specs.Answers.{at_line_zero, in_town}

-- Both tables, a label and a predecessor for each junction.
pub record Labelling : Type 0 where
  pub labels : List ℕ
  pub predecessors : List ℕ

abbrev pub labelling_of : Network → ℕ → ℕ → Labelling
labelling_of N source departure = record { labels = labels_of (net_of N) source departure; predecessors = predecessors_of (net_of N) source departure }

-- "Then 9 or 10 with line 0."
unfoldable pub network_labelling : Network → ℕ → ℕ → Reading Labelling
network_labelling N source departure = at_line_zero (first_broken (start_rules N source departure) (labelling_of N source departure))

abbrev pub town_labelling : List ℕ → ℕ → ℕ → Reading Labelling
town_labelling text source departure = in_town (λ N. network_labelling N source departure) text

-- ---- As the code answers it

-- There is a label for each junction.
abbrev pub junction_count : Reading Labelling → Reading ℕ
junction_count (refused_at number line) = refused_at number line
junction_count (accepted labelling) = accepted (length labelling.labels)

-- What each buffer holds afterwards: the town's entries at its start, or, where the call is refused, what it held before.
abbrev pub labels_after : Reading Labelling → List ℕ → List ℕ
labels_after (refused_at number line) before = before
labels_after (accepted labelling) before = written labelling.labels before

abbrev pub predecessors_after : Reading Labelling → List ℕ → List ℕ
predecessors_after (refused_at number line) before = before
predecessors_after (accepted labelling) before = written labelling.predecessors before
