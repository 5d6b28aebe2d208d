-- `store::newest_kept` looks at slot after slot: the invariant is that all before keep.
use mathlib.Core.Path.{◌≡◌, refl, sym, ap, ◌∙◌}
use mathlib.Core.Bool.{Bool}
use mathlib.Core.List.{List}
use Prim.Native.Nat.{ℕ}
use Rattle.week.specs.WeekList.{list_keeps_lem}
use Rattle.week.specs.Store.{store, trimmed, newest_of_lem, last_in_lem, below}
use Rattle.week.proofs.Below.{below_next}
use Rattle.week.proofs.StoreTest.{other_version, broken_list, empty_slot, good_slot, slot_breaks}
use Rattle.week.proofs.store.newest_kept.Goals as goal
use Rattle.week.proofs.store.newest_kept.Goals.{else-version-ne0-via-then-version-ne0+else-not-stored_keeps, else-version-ne0-via-else-version-ne0}

-- Whether masks hold a list that keeps the rules.
abbrev list_of : List ℕ → Bool
list_of masks = list_keeps_lem (trimmed masks)

pub loop-slot-init : goal.loop-slot-init
unfolding below
loop-slot-init c = refl

pub returns-then-version-last_in : goal.returns-then-version-last_in
returns-then-version-last_in c =
    let S = store c.args.versions.now c.args.lists.now in
    let due : c.last_in.result ≡ last_in_lem (newest_of_lem S) c.loop-slot.slot = c.last_in.ensures ∙ rw c.newest_of-newest.ensures refl in
    slot_breaks S _ c.loop-slot-test.true (other_version S _ (λ is. c.if-version-last_in.true (is ∙ sym due)))

pub returns-then-not-stored_keeps : goal.returns-then-not-stored_keeps
returns-then-not-stored_keeps c =
    let S = store c.args.versions.now c.args.lists.now in
    let breaks = ap list_of (sym c.masks_in.ensures) ∙ sym c.stored_keeps.ensures ∙ c.if-not-stored_keeps.true in
    slot_breaks S _ c.loop-slot-test.true (broken_list S _ c.if-version-ne0.true breaks)

pub loop-slot-preserved : goal.loop-slot-preserved
loop-slot-preserved c =
    let S = store c.args.versions.now c.args.lists.now in
    let due : c.last_in.result ≡ last_in_lem (newest_of_lem S) c.loop-slot.slot = c.last_in.ensures ∙ rw c.newest_of-newest.ensures refl in
    let is = c.if-version-last_in.false ∙ due in
    below_next _ _ c.loop-slot.invariant
    (elim c.else-version-ne0.branch [
      | else-version-ne0-via-then-version-ne0+else-not-stored_keeps w ↦
          good_slot S _ is (ap list_of (sym w.masks_in.ensures) ∙ sym w.stored_keeps.ensures ∙ w.if-not-stored_keeps.false)
      | else-version-ne0-via-else-version-ne0 w ↦ empty_slot S _ is w.if-version-ne0.false
    ])
