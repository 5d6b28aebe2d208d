-- `planning::week_plan`: the place is within the version's list, which has at most seven masks.
use mathlib.Core.Path.{◌≡◌, ap, ◌∙◌}
use native.Mathlib.Omega.{arith}
use Rattle.week.specs.WeekList.{place_of_lem}
use Rattle.week.specs.Store.{list_in_lem}
use Rattle.week.proofs.Places.{place_short}
use Rattle.week.proofs.Trimming.{list_short}
use Rattle.week.proofs.planning.week_plan.Goals as goal

pub overflow_cast-result : goal.overflow_cast-result
overflow_cast-result c =
    let stored = list_in_lem c.args.lists.now c.slot_of.result in
    let place : c.place_of.result ≡ place_of_lem c.args.day stored = c.place_of.ensures ∙ ap (place_of_lem c.args.day) c.list_in-list.ensures in
    record { fits = omega (arith, place, place_short c.args.day stored, list_short c.args.lists.now c.slot_of.result) }
