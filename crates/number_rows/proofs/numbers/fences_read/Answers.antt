-- `numbers::fences_read`: the loop over the numbers of a line, where a fence is tested by the one before it.
use Prim.Native.Nat.{◌+◌}
use mathlib.Core.Path.{refl, sym, ◌∙◌}
use Rattle.number_rows.proofs.NumberLoops.{left_malformed, left_goes_on, left_ends, fences_left_keep, fence_goes, no_fence}
use Rattle.number_rows.proofs.numbers.fences_read.Goals as goal

pub returns-in_default : goal.returns-in_default
returns-in_default c =
    left_malformed c.loop-k.invariant c.loop-k-test.true (sym c.in_default.ensures)

pub loop-k-preserved : goal.loop-k-preserved
loop-k-preserved c =
    let fence = c.in-Some.fence.value in
    let goes = fence_goes c.loop-k.k c.loop-k.before fence c.fence_keeps-within.ensures in
    let number = sym c.in-Some.ensures in
    left_goes_on c.loop-k.invariant c.loop-k-test.true c.fence_keeps-within.result (fences_left_keep (c.loop-k.k + 1) fence) number refl goes

pub returns : goal.returns
returns c = c.numbers_end.ensures ∙ left_ends c.loop-k.invariant c.loop-k-test.false (no_fence c.loop-k.k c.loop-k.before)
