-- `arc::Tables::arrival_on`: an arc that is left before its head's label is driven, and any other would lower no label.
use Rattle.closed_arcs.proofs.FromLabels.{none_lowered, on_driven_arc}
use Rattle.passing.proofs.tables.Tables.arrival_on.Goals as goal

pub returns-then-self-roads : goal.returns-then-self-roads
returns-then-self-roads c = none_lowered c.requires.timed_labels c.requires.arc_in_bounds c.if-self-roads.true

pub returns : goal.returns
returns c = on_driven_arc c.requires.timed_labels c.requires.arc_in_bounds c.if-self-roads.false c.drive.ensures.arrives_on
