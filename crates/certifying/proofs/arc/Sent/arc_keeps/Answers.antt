-- `arc::Sent::arc_keeps`: what driving the arc came to decides; one whose head's label is no later than its tail's comes to nothing.
use Rattle.closed_arcs.proofs.FromLabels.{none_lowered, on_driven_arc}
use Rattle.certifying.proofs.Deciding.{arc_decides}
use Rattle.certifying.proofs.arc.Sent.arc_keeps.Goals as goal

pub returns-then-label-tick : goal.returns-then-label-tick
returns-then-label-tick c =
    let timed = c.requires.timed_labels in
    let is_arc = c.requires.arc_in_bounds in
    arc_decides timed is_arc _ c.args.self.now.as_many (none_lowered timed is_arc c.if-label-tick.true)

pub returns-in-Some : goal.returns-in-Some
returns-in-Some c =
    let timed = c.requires.timed_labels in
    let is_arc = c.requires.arc_in_bounds in
    rw c.meets.ensures (arc_decides timed is_arc _ c.args.self.now.as_many (on_driven_arc timed is_arc c.if-label-tick.false c.in-Some.ensures.arrives_on))

pub returns-in-None : goal.returns-in-None
returns-in-None c =
    let timed = c.requires.timed_labels in
    let is_arc = c.requires.arc_in_bounds in
    arc_decides timed is_arc _ c.args.self.now.as_many (on_driven_arc timed is_arc c.if-label-tick.false c.in-None.ensures.arrives_on)
