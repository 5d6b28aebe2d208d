-- `labels::labels`: the rows that are lent stand for the list, and give its answer.
use Rattle.std.proofs.Common.{[], ◌∙◌}
use Rattle.model.specs.Lent.{lent_network}
use Rattle.operations.proofs.Overlong.{alike, labels_too_long}
use Rattle.operations.proofs.labels.labels.Goals as goal

pub returns : goal.returns
returns c =
    let args = c.args in
    let same = alike (labels_too_long (lent_network args.network.now []) args.asker args.source args.departure.number args.labels.now args.predecessors.now) c.read_closures-count.ensures.stand in
    let e = c.labels.ensures in
    record {
      answer = e.answer ∙ same.0;
      labels = e.labels ∙ same.1.0;
      predecessors = e.predecessors ∙ same.1.1;
    }
