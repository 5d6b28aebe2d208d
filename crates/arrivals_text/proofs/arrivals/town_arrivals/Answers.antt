-- `arrivals::town_arrivals`: what the town's labelling refuses, or the table of the entries that it left at the buffers' start.
use mathlib.Core.Path.{sym, ap, ◌∙◌}
use Rattle.townfile.specs.Answers.{reading_of}
use Rattle.town_labels.proofs.Towns.{Labels, labels_refused, labels_found}
use Rattle.arrivals_text.proofs.Networks.{table_fits}
use Rattle.arrivals_text.proofs.arrivals.town_arrivals.Goals as goal
use Rattle.arrivals_text.proofs.arrivals.town_arrivals.Goals.{In-Ok}

pub returns-in-Err : goal.returns-in-Err
returns-in-Err c = rw (labels_refused _ _ _ (ap reading_of (sym c.in-Err.is) ∙ c.town_labels.ensures.answer)) c.refuse.ensures

-- What the call left in the buffers.
labels : (c : In-Ok) → Labels c.args.text.now c.args.source c.args.departure c.in-Ok.junctions c.town_labels.new.labels c.town_labels.new.predecessors
labels c =
    labels_found _ _ _ (λ i h. (c.type_inv.text i).fits) _ _ (ap reading_of (sym c.in-Ok.is) ∙ c.town_labels.ensures.answer)
    c.town_labels.ensures.labels c.town_labels.ensures.predecessors

pub put_table-requires : goal.put_table-requires
put_table-requires c =
    let found = labels (goal.at.put_table-requires c).In-Ok in
    rw (found.labels_start, found.predecessors_start) (table_fits found.network _ _ found.checked)

pub returns-in-Ok : goal.returns-in-Ok
returns-in-Ok c =
    let found = labels (goal.at.returns-in-Ok c).In-Ok in
    rw found.answers (rw (found.labels_start, found.predecessors_start) at c.put_table.ensures)
