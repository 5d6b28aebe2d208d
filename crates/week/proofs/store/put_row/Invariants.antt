-- `store::put_row` writes place by place: the row is written up to a place.
use Rattle.std.proofs.Common.{◌≡◌, length, take}
use Rattle.week.specs.WeekList.{weekdays}
use Rattle.week.specs.Store.{row}
use Rattle.week.proofs.store.put_row.Given as goal

abbrev pub invariant-loop-place : goal.invariant-loop-place
invariant-loop-place l = (length l.row ≡ weekdays) × (take l.place l.row ≡ take l.place (row l.masks))
