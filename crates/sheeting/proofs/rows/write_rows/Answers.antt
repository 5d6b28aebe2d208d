-- `rows::write_rows`: the labelling writes the next row, since each departure of a list that is taken is.
use Rattle.std.proofs.Common.{◌≡◌, ◌≤◌, ◌*◌, length, ◌∙◌, arith}
use Rattle.std.proofs.Math.Seq.{length-take-le}
use Rattle.std.proofs.lemmas.Grind.{common_steps}
use Rattle.sheeting.proofs.RowByRow.{rows_go_on, rows_end}
use Rattle.sheeting.specs.Rows.{rows_of}
use Rattle.sheeting.proofs.SheetRules.{departure_taken}
use Rattle.sheeting.proofs.rows.write_rows.Goals as goal

pub loop-k-init : goal.loop-k-init
unfolding rows_of
loop-k-init c = let start : 0 * c.args.network.now.junctions ≡ 0 = omega arith in rw start

pub loop-k-preserved : goal.loop-k-preserved
loop-k-preserved c =
    let few : c.args.network.now.junctions ≤ length c.loop-k.predecessors = omega (arith, c.requires.taken.accepted.junctions_fit) in
    let first = c.label_from.ensures.labels.when_labelable (record {
      taken = departure_taken c.requires.taken c.loop-k-test.true;
      labels_long = grind (arith, common_steps);
      predecessors_long = length-take-le _ _ few;
    }) in
    rows_go_on _ _ _ _ _ c.loop-k.invariant (c.loop-k.auto.labels ∙ c.requires.labels_long) c.loop-k-test.true _ _ first

pub returns : goal.returns
returns c = rows_end _ _ _ _ _ c.loop-k.invariant (c.loop-k.auto.labels ∙ c.requires.labels_long) (omega arith)
