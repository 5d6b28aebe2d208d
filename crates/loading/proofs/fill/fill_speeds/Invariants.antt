-- `fill::fill_speeds`: the first entries are the numbers taken so far.
use mathlib.Core.Path.{◌≡◌}
use lib.ListN.{take}
use Rattle.fields.specs.Fields.{numbers_from}
use Rattle.loading.specs.Code.Filling.{Behind}
use Rattle.loading.proofs.fill.fill_speeds.Given as goal

abbrev pub invariant-loop-speed : goal.invariant-loop-speed
invariant-loop-speed l =
    Behind l.speed-index l.text l.at l.i × (take l.speed-index l.speeds ≡ take l.speed-index (numbers_from l.text l.at))
