-- `pass::Tables::make_pass` keeps `SoFar` and `Current` from arc to arc.
use mathlib.Core.Bool.{true≢false}
use Rattle.std.proofs.Common.{refl, ◌∙◌}
use Rattle.passing.proofs.Lowering.{pass_starts, pass_lowers, pass_keeps}
use Rattle.passing.proofs.tables.Tables.make_pass.Goals as goal
use Rattle.passing.proofs.tables.Tables.make_pass.Goals.{then-lower_head, else-lower_head}

pub loop-arc-init : goal.loop-arc-init
loop-arc-init c = record {
  so_far = pass_starts c.requires.timed_labels;
  current = c.requires.current_2;
  none_lowered = λ _. c.requires.none_lowered;
  same_reference = refl;
}

pub loop-arc-preserved : goal.loop-arc-preserved
loop-arc-preserved c =
    let so_far = c.loop-arc.invariant.so_far in
    let step = c.lower_head.ensures.labels in
    let current = c.lower_head.ensures.current in
    let same_reference = c.lower_head.ensures.same_reference ∙ c.loop-arc.invariant.same_reference in
    elim c.if-lower_head.branch [
      | then-lower_head w ↦ rw w.changed-is record {
        so_far = pass_lowers _ so_far (rw w.if-lower_head.true at step);
        current = current;
        none_lowered = λ e. absurd (true≢false e);
        same_reference = same_reference;
      }
      | else-lower_head w ↦ rw w.changed-is record {
        so_far = pass_keeps _ so_far (rw w.if-lower_head.false at step);
        current = current;
        none_lowered = λ e. rw (c.lower_head.ensures.latest w.if-lower_head.false) (c.loop-arc.invariant.none_lowered e);
        same_reference = same_reference;
      }
    ]
