-- `passes::passes` meets its definition: where all rules of Labels are kept, the passes have written both tables.
use Rattle.std.proofs.Common.{refl, ap}
use Rattle.model.specs.Rules.{replied}
use Rattle.labelling.proofs.LabelRules.{stopping_rows, labelable_stopping}
use Rattle.passing.proofs.passes.passes.Goals as goal

pub repeat_passes-requires : goal.repeat_passes-requires
repeat_passes-requires c = labelable_stopping _ _ _ _ _ _ _ _ c.in_ok-labels_check.ensures refl c.put_stopping-count.ensures.rows

pub returns-clause-answer : goal.returns-clause-answer
returns-clause-answer c =
    let replies = c.in_ok-labels_check.ensures in
    rw (← replies) (ap replied (rw (stopping_rows _ _ _ _ _ _ _ _ replies refl c.put_stopping-count.ensures.rows) at c.repeat_passes.ensures.number))

pub returns-clause-labels : goal.returns-clause-labels
returns-clause-labels c =
    let replies = c.in_ok-labels_check.ensures in
    rw (← replies) (rw (stopping_rows _ _ _ _ _ _ _ _ replies refl c.put_stopping-count.ensures.rows) at c.repeat_passes.ensures.labels)

pub returns-clause-predecessors : goal.returns-clause-predecessors
returns-clause-predecessors c =
    let replies = c.in_ok-labels_check.ensures in
    rw (← replies) (rw (stopping_rows _ _ _ _ _ _ _ _ replies refl c.put_stopping-count.ensures.rows) at c.repeat_passes.ensures.predecessors)
