-- `figures::column_figures`: at each turn the figures are those of the departures from k on (`Tallied`).
use Rattle.std.proofs.Common.{suc, ◌-◌}
use Rattle.sheeting.proofs.Columns.{Tallied, tally_starts, tally_before, tally_unreached, tally_reached}
use Rattle.sheeting.proofs.figures.column_figures.Goals as goal
use Rattle.sheeting.proofs.figures.column_figures.Goals.{In-loop-k}

tally : (c : In-loop-k) → let args = c.args in Tallied args.labels.now args.departures.now args.junctions args.junction (suc (c.loop-k.k - 1)) c.loop-k.figures
tally c = tally_before c.loop-k.invariant c.loop-k-test.true

pub loop-k-init : goal.loop-k-init
loop-k-init c = let h = c.default-figures.ensures in tally_starts _ _ _ _ _ h.0 h.1.0 h.1.1.0 h.1.1.1

pub loop-k-preserved-then-label : goal.loop-k-preserved-then-label
loop-k-preserved-then-label c =
    rw c.with_journey-figures.ensures (tally_reached c.requires _ (tally (goal.at.loop-k-preserved-then-label c).In-loop-k) c.if-label.true)

pub loop-k-preserved : goal.loop-k-preserved
loop-k-preserved c = tally_unreached c.requires _ (tally (goal.at.loop-k-preserved c).In-loop-k) c.if-label.false
