-- `store::put_row` writes place by place: one more is written, and at the end all are.
use Rattle.std.proofs.Common.{arith, length-set}
use Rattle.week.proofs.Trimming.{one_written}
use Rattle.week.proofs.store.put_row.Goals as goal

pub loop-place-preserved : goal.loop-place-preserved
loop-place-preserved c =
    let (long, so_far) = c.loop-place.invariant in
    (rw length-set long, rw c.mask_at.ensures (one_written c.args.masks.now c.loop-place.row c.loop-place.place c.requires.masks_len_bound long (omega arith) so_far))
