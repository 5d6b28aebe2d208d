-- `fill::fill_fences`: the first entries are the numbers taken so far.
use mathlib.Core.Path.{◌≡◌}
use lib.ListN.{take}
use Rattle.fields.specs.Fields.{numbers_from}
use Rattle.loading.specs.Code.Filling.{Behind}
use Rattle.loading.proofs.fill.fill_fences.Given as goal

abbrev pub invariant-loop-fence : goal.invariant-loop-fence
invariant-loop-fence l =
    Behind l.fence-index l.text l.at l.i × (take l.fence-index l.fences ≡ take l.fence-index (numbers_from l.text l.at))
