-- `stopping::put_stopping`: a row that stops the asker is put in the next place, and another leaves them as they are.
use Rattle.std.proofs.Common.{◌<◌, [], sym, ◌∙◌, arith, length-set, length-take}
use Rattle.std.proofs.lemmas.List.{get_or-take}
use Rattle.closures.proofs.StoppingRows.{row_put, row_passed}
use Rattle.closures.proofs.stopping.put_stopping.Goals as goal
use Rattle.closures.proofs.stopping.put_stopping.Goals.{then-stops, else-stops}

pub loop-row-preserved : goal.loop-row-preserved
loop-row-preserved c =
    let (long, few, so_far) = c.loop-row.invariant in
    let asker = c.args.asker in
    let table = c.args.closures.now in
    let rows = c.loop-row.rows in
    let count = c.loop-row.count in
    let k = c.loop-row.row-index in
    let before : k < c.min.result = omega (arith, length-take c.min.result table) in
    let here = get_or-take c.min.result table k [] before in
    let told = rw here at c.stops.ensures in
    elim c.if-stops.branch [
      | then-stops w ↦
          rw (w.rows-is, w.count-is, here)
          (rw length-set long, omega arith, row_put asker table k (omega arith) rows count (sym told ∙ w.if-stops.true) (omega (arith, long)) so_far)
      | else-stops w ↦ rw (w.rows-is, w.count-is) (long, omega arith, row_passed asker table k (omega arith) rows count (sym told ∙ w.if-stops.false) so_far)
    ]
