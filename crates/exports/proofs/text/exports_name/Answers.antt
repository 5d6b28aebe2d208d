-- `text::exports_name`: the code fits, since the text is short where there is a name.
use Rattle.std.proofs.Common.{◌+◌, ◌≤◌, arith}
use Rattle.exports.proofs.Fits.{place_fits}
use Rattle.exports.proofs.text.exports_name.Goals as goal
use Rattle.exports.proofs.text.exports_name.Goals.{After-name_place-place}

fits : (c : After-name_place-place) → c.name_place-place.result.start + c.name_place-place.result.length ≤ 65536
fits c = rw c.name_place-place.ensures (place_fits _ _)

pub overflow_mul-result : goal.overflow_mul-result
overflow_mul-result c = omega (arith, fits (goal.at.overflow_mul-result c).After-name_place-place)

pub overflow_add-result : goal.overflow_add-result
overflow_add-result c = omega (arith, fits (goal.at.overflow_add-result c).After-name_place-place)
