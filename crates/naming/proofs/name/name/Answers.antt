-- `name::name`: the part at the name's place is the name, and lies inside the text.
use Prim.Native.Nat.{◌+◌, ◌-◌}
use mathlib.Core.Path.{◌≡◌}
use native.Mathlib.Omega.{arith}
use Rattle.townfile.specs.Name.{name_of, StandsAt}
use Rattle.townfile.proofs.NamePlace.{name_stands_at_place}
use Rattle.naming.proofs.name.name.Goals as goal
use mathlib.Core.List.{List}
use Prim.Native.Nat.{ℕ}
use Rattle.townfile.specs.Name.{name_place_lem}
use Rattle.townfile.specs.declared.part.Part.{Part}

stands : (text : List ℕ) (junction : ℕ) {place : Part} → place ≡ name_place_lem text junction → StandsAt text place (name_of text junction)
stands text junction e = rw e (name_stands_at_place text junction)

pub overflow_add-end : goal.overflow_add-end
overflow_add-end c = omega (arith, (stands _ _ c.name_place-place.ensures).inside)

pub slice_bounds-result-end : goal.slice_bounds-result-end
slice_bounds-result-end c = omega (arith, (stands _ _ c.name_place-place.ensures).inside)

pub returns : goal.returns
returns c =
    let place = c.name_place-place.result in
    let size : place.start + place.length - place.start ≡ place.length = omega arith in
    rw size (stands _ _ c.name_place-place.ensures).bytes
