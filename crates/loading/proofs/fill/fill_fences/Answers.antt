-- `fill::fill_fences`: the first entries are the numbers taken so far.
use native.Mathlib.Omega.{arith}
use Rattle.loading.proofs.Taking.{alone, next_asked, one_taken, one_stored, all_taken}
use Rattle.loading.proofs.fill.fill_fences.Goals as goal

pub take_number-taken-requires-clause-at_value : goal.take_number-taken-requires-clause-at_value
take_number-taken-requires-clause-at_value c = (next_asked 0 (alone c.requires) c.loop-fence.invariant.0 c.loop-fence-test.true).0

pub loop-fence-preserved : goal.loop-fence-preserved
loop-fence-preserved c =
    let fill = alone c.requires in
    let (behind, same) = c.loop-fence.invariant in
    let more = c.loop-fence-test.true in
    let taken = c.take_number-taken.ensures in
    (one_taken 0 fill behind more taken, one_stored 0 fill behind more taken c.loop-fence.fences c.loop-fence.auto.fences same)

pub returns-clause-end : goal.returns-clause-end
returns-clause-end c = all_taken c.requires c.loop-fence.invariant.0 (omega arith)
