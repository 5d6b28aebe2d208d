-- `labels::labels` meets its definition: where all rules are kept, the labelling has written the two tables.
use Rattle.std.proofs.Common.{refl}
use Rattle.labelling.proofs.LabelRules.{stopping_rows, labelable_stopping}
use Rattle.labelling.proofs.labels.labels.Goals as goal

pub returns-clause-labels : goal.returns-clause-labels
returns-clause-labels c =
    let replies = c.in_ok-labels_check.ensures in
    let written = c.label_from.ensures.labels.when_labelable (labelable_stopping _ _ _ _ _ _ _ _ replies refl c.put_stopping-count.ensures.rows) in
    rw (← replies) (rw (stopping_rows _ _ _ _ _ _ _ _ replies refl c.put_stopping-count.ensures.rows) at written)

pub returns-clause-predecessors : goal.returns-clause-predecessors
returns-clause-predecessors c =
    let replies = c.in_ok-labels_check.ensures in
    let written = c.label_from.ensures.predecessors.when_labelable (labelable_stopping _ _ _ _ _ _ _ _ replies refl c.put_stopping-count.ensures.rows) in
    rw (← replies) (rw (stopping_rows _ _ _ _ _ _ _ _ replies refl c.put_stopping-count.ensures.rows) at written)
