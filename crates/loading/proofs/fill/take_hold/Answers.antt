-- `fill::take_hold`: no number is left, or one, which is the hold.
use mathlib.Core.Path.{◌≡◌, refl}
use mathlib.Core.Bool.{Bool, true, false, cond}
use mathlib.Core.List.{List}
use Prim.Native.Nat.{ℕ}
use Rattle.loading.specs.Code.Filling.{NumbersFill}
use Rattle.loading.proofs.Taking.{number_asked, taking, none_filled, behind_ends}
use Rattle.loading.proofs.fill.take_hold.Goals as goal

unheld : (text : List ℕ) (at : ℕ) {held : Bool} → NumbersFill (cond held 1 0) text at → held ≡ false → NumbersFill 0 text at
unheld text at fill e = rw e at fill

some_held : (text : List ℕ) (at : ℕ) {held : Bool} → NumbersFill (cond held 1 0) text at → held ≡ true → NumbersFill 1 text at
some_held text at fill e = rw e at fill

pub take_number-requires : goal.take_number-requires
take_number-requires c =
    let asked = number_asked _ _ 0 (some_held _ _ c.requires c.if-held.true) in
    record { at_value = asked.0; ends_inside = asked.1 }

pub returns-then-held : goal.returns-then-held
returns-then-held c =
    let took = taking _ _ _ _ c.take_number.ensures (some_held _ _ c.requires c.if-held.true) in
    record { value = rw took.number refl; end = behind_ends _ took.still_fill took.same_end }

pub returns-else-held : goal.returns-else-held
returns-else-held c =
    let fill = unheld _ _ c.requires c.if-held.false in
    record { value = rw (none_filled _ _ fill) refl; end = behind_ends _ fill refl }
