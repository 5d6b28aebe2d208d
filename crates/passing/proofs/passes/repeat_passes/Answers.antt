-- `passes::repeat_passes` keeps `Repeating` from pass to pass, of which there are at most as many as junctions.
use Rattle.std.proofs.Common.{refl, ap, ◌∙◌, arith}
use lib.ListN.{set, replicate}
use Rattle.model.specs.Ticks.{never}
use Rattle.model.specs.Intervals.{time_of_day_lem, interval_of_lem}
use Rattle.model.proofs.Passed.{passed_at_most}
use Rattle.passing.proofs.Attaining.{are_predecessors}
use Rattle.passing.proofs.Current.{current_starts, none_lowered, current_next, all_up_to_date}
use Rattle.passing.proofs.Repeating.{repeating_starts, at_most_junctions, goes_on, ends}
use Rattle.passing.proofs.passes.repeat_passes.Goals as goal

pub overflow_cast-intervals : goal.overflow_cast-intervals
unfolding interval_of_lem
overflow_cast-intervals c =
    let few = passed_at_most c.args.network.now.fences.now (time_of_day_lem c.args.departure) in
    omega (arith, c.interval_of.ensures, few, c.requires.taken.accepted.intervals_fit)

pub loop-roads-init : goal.loop-roads-init
loop-roads-init c =
    let no-labels = c.fill.ensures.after (λ y e. e) ∙ ap (λ n. replicate n never) c.requires.labels_long in
    record {
      repeating = repeating_starts c.requires.taken (ap (λ labels. set labels c.args.source c.args.departure) no-labels) c.interval_of.ensures refl;
      current = current_starts refl;
      none_lowered = none_lowered;
      few = omega (arith, c.requires.taken.accepted.some_junction);
      same_reference = refl;
    }

-- a pass that has changed a label leads to the next
pub loop-roads-preserved : goal.loop-roads-preserved
loop-roads-preserved c =
    let q = c.requires.taken in
    let next = goes_on q c.loop-roads.invariant.repeating c.loop-roads-test.ensures.labels in
    let (current, none_lowered) = current_next c.make_pass.ensures.current in
    record {
      repeating = next;
      current = current;
      none_lowered = none_lowered;
      few = omega (arith, at_most_junctions q next);
      same_reference = c.make_pass.ensures.same_reference ∙ c.loop-roads.invariant.same_reference;
    }

pub returns-clause-number : goal.returns-clause-number
returns-clause-number c = (ends c.requires.taken c.loop-roads.invariant.repeating c.loop-roads-test.ensures.labels).0

pub returns-clause-labels : goal.returns-clause-labels
returns-clause-labels c =
    let left = (ends c.requires.taken c.loop-roads.invariant.repeating c.loop-roads-test.ensures.labels).1 in
    let same = c.make_pass.ensures.same_reference ∙ c.loop-roads.invariant.same_reference in
    grind arith

pub returns-clause-predecessors : goal.returns-clause-predecessors
returns-clause-predecessors c =
    let q = c.requires.taken in
    let left = c.loop-roads-test.ensures.labels in
    let up-to-date = rw (← q.accepted.heads_long) at (all_up_to_date c.make_pass.ensures.current (c.loop-roads-test.ensures.latest refl)) in
    let all = rw q.accepted.heads_long at (c.put_predecessors.ensures.lowest _ _ refl left.timed up-to-date) in
    are_predecessors q (ends q c.loop-roads.invariant.repeating left).1 all
