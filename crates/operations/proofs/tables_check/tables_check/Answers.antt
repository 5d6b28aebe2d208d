-- `tables_check::tables_check`: the rows that are lent stand for the list, and give its answer.
use Rattle.std.proofs.Common.{[], ◌∙◌}
use Rattle.model.specs.Lent.{lent_network}
use Rattle.operations.proofs.Overlong.{answer_alike, tables_too_long}
use Rattle.operations.proofs.tables_check.tables_check.Goals as goal

pub returns : goal.returns
returns c =
    let args = c.args in
    let too_long = tables_too_long (lent_network args.network.now []) args.asker args.source args.departure.number args.labels.now args.predecessors.now in
    let same = answer_alike too_long c.read_closures-count.ensures.stand in
    let e = c.tables_check.ensures in
    e ∙ same
