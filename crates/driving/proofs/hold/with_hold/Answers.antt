-- `hold::with_hold`: what driving the arc tells is the old arrival, and the hold is waited out from there.
use Rattle.std.proofs.Common.{sym, ap, ◌∙◌}
use Rattle.model.specs.Ticks.{arrived_at}
use Rattle.driving.proofs.Holds.{held_arrives, held_never}
use Rattle.driving.proofs.hold.with_hold.Goals as goal

pub returns-clause-result_value : goal.returns-clause-result_value
returns-clause-result_value c =
    λ kept v spans s old. held_arrives _ v spans _ s (sym (ap arrived_at c.in_ok-driven.was) ∙ old) (c.wait_out.ensures.result_value kept)

pub returns-in_err-driven-clause-result_value : goal.returns-in_err-driven-clause-result_value
returns-in_err-driven-clause-result_value c =
    λ kept v spans s old. rw c.from_residual.ensures (held_never _ v spans c.args.road.now.hold s (sym (ap arrived_at c.in_err-driven.was) ∙ old))
