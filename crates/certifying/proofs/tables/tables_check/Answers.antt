-- `tables::tables_check` meets its definition: where all rules of Labels are kept the certificate decides.
use Rattle.std.proofs.Common.{refl, ap}
use Rattle.model.specs.Rules.{replied}
use Rattle.labelling.proofs.LabelRules.{stopping_rows, labelable_stopping}
use Rattle.certifying.proofs.tables.tables_check.Goals as goal

pub certified-requires : goal.certified-requires
certified-requires c = labelable_stopping _ _ _ _ _ _ _ _ c.in_ok-labels_check.ensures refl c.put_stopping-count.ensures.rows

pub returns : goal.returns
returns c =
    let replies = c.in_ok-labels_check.ensures in
    rw (← replies) (ap replied (rw (stopping_rows _ _ _ _ _ _ _ _ replies refl c.put_stopping-count.ensures.rows) at c.certified.ensures))
