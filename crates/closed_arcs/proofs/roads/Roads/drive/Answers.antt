-- `roads::Roads::drive` lends the engine the arc's part of the speeds, and its part of the closures. An arc that has none is closed at no tick, so that
-- the engine without closures comes to the same.
use Rattle.std.proofs.Common.{◌≡◌, length, ◌⊎◌, inl, inr, refl, sym, ap, ◌∙◌, eqb-true}
use native.Mathlib.Nat.{add-sub_cancel_left}
use Rattle.model.specs.Intervals.{tick_and_interval?}
use Rattle.closed_arcs.specs.Marks.{end_of, mark_of}
use Rattle.closed_arcs.proofs.Marks.{part_drive, open_drive}
use Rattle.closed_arcs.proofs.roads.Roads.drive.Goals as goal
use Rattle.closed_arcs.proofs.roads.Roads.drive.Goals.{then-not-is_empty+else-end-ne0, else-not-is_empty}

-- the records of the arc's part decide
pub returns-then-end-ne0-clause-arrives_on : goal.returns-then-end-ne0-clause-arrives_on
returns-then-end-ne0-clause-arrives_on c =
    let roads = c.args.self.now in
    let drives = rw add-sub_cancel_left at c.drive_closed_with_hold.ensures.result_value in
    λ few kept. drives kept ∙ ap (tick_and_interval? _) (part_drive _ roads.closures.now roads.marked few c.args.arc c.requires.few_arcs refl c.args.tick)

-- without any the plan does
pub returns-clause-arrives_on : goal.returns-clause-arrives_on
returns-clause-arrives_on c =
    let roads = c.args.self.now in
    let none : (end_of (mark_of roads.marks.now c.args.arc) ≡ 0) ⊎ (length roads.closures.now ≡ 0) =
    elim c.if-not-is_empty.branch [ then-not-is_empty+else-end-ne0 w ↦ inl w.if-end-ne0.false | else-not-is_empty w ↦ inr (eqb-true _ 0 (sym w.if-not-is_empty.ensures)) ] in
    let drives = rw add-sub_cancel_left at c.drive_with_hold.ensures.result_value in
    λ few kept. drives kept ∙ ap (tick_and_interval? _) (open_drive _ roads.closures.now roads.marked few c.args.arc c.requires.few_arcs refl none c.args.tick)
