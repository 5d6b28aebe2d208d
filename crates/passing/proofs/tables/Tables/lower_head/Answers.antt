-- `pass::Tables::lower_head`: an earlier arrival is the new label, and any other leaves the labels; either way the arc is up to date then.
use Rattle.std.proofs.Common.{arith}
use Rattle.closed_arcs.proofs.FromLabels.{head_label}
use Rattle.passing.proofs.Current.{was_up_to_date, current_keeps, current_lowers}
use Rattle.passing.proofs.Lowering.{in_plan, arrival_is, no_sooner, none_sooner, lowers, keeps}
use Rattle.passing.proofs.tables.Tables.lower_head.Goals as goal

-- the arc is up to date
pub returns-then-self-roads-clause-labels : goal.returns-then-self-roads-clause-labels
returns-then-self-roads-clause-labels c =
    let p = c.requires.timed_labels in
    let is_arc = c.requires.arc_in_bounds in
    keeps p is_arc (was_up_to_date p is_arc c.requires.current_2 c.if-self-roads.true).no_lower

-- there is none
pub returns-in_default-clause-labels : goal.returns-in_default-clause-labels
returns-in_default-clause-labels c =
    let p = c.requires.timed_labels in
    let is_arc = c.requires.arc_in_bounds in
    keeps p is_arc (none_sooner p is_arc (rw c.in_default.is at c.arrival_on.ensures))

pub returns-in_default-clause-current : goal.returns-in_default-clause-current
returns-in_default-clause-current c =
    let p = c.requires.timed_labels in
    let is_arc = c.requires.arc_in_bounds in
    let on = rw c.in_default.is at c.arrival_on.ensures in
    current_keeps p is_arc c.requires.current_2 on (none_sooner p is_arc on)

-- it is no earlier
pub returns-then-self-head-clause-labels : goal.returns-then-self-head-clause-labels
returns-then-self-head-clause-labels c =
    let p = c.requires.timed_labels in
    let is_arc = c.requires.arc_in_bounds in
    keeps p is_arc (no_sooner p is_arc c.in-Some.ensures c.if-self-head.true)

pub returns-then-self-head-clause-current : goal.returns-then-self-head-clause-current
returns-then-self-head-clause-current c =
    let p = c.requires.timed_labels in
    let is_arc = c.requires.arc_in_bounds in
    let on = c.in-Some.ensures in
    current_keeps p is_arc c.requires.current_2 on (no_sooner p is_arc on c.if-self-head.true)

-- it is earlier
pub overflow_cast-self : goal.overflow_cast-self
overflow_cast-self c = omega (arith, in_plan c.requires.timed_labels c.requires.arc_in_bounds c.in-Some.ensures)

pub returns-clause-labels : goal.returns-clause-labels
returns-clause-labels c = lowers c.requires.timed_labels c.requires.arc_in_bounds c.in-Some.ensures c.if-self-head.false

pub returns-clause-current : goal.returns-clause-current
returns-clause-current c =
    let p = c.requires.timed_labels in
    let is_arc = c.requires.arc_in_bounds in
    let on = c.in-Some.ensures in
    current_lowers p is_arc c.requires.current_2 on (arrival_is p is_arc on) (omega (arith, head_label p is_arc, c.if-self-head.false))
