-- A version put into its slot: the slot holds it and its list, and every other slot holds what it held.
use Prim.Native.Nat.{ℕ, ◌+◌, ◌-◌, ◌*◌, ◌≤◌, ◌<◌, min}
use mathlib.Core.Path.{◌≡◌, refl, sym, ap, ◌∙◌}
use mathlib.Core.List.{List, ◌++◌, append_assoc}
use mathlib.Core.Logic.{by_cases}
use native.Mathlib.Decide.{dec_lt}
use native.Mathlib.Omega.{arith}
use lib.ListN.{length, get_or, take, drop, length-append, length-take, length-drop, length-set, get_or-append}
use lib.Seq.{length-take-le, take_at, drop_at, get_or-take, get_or-drop, get_or-append-add, get_or-set_same, get_or-set_other, ext_get_or}
use Rattle.week.specs.WeekList.{weekdays, WeekList}
use Rattle.week.specs.Store.{Store, Sized, slots, slot_of_lem, version_at, trimmed, masks_in_lem, list_in_lem, list_at, row, with_list, with_version, OwnSlotAlone}
use Rattle.week.proofs.Trimming.{row_length, row_trimmed}
use Rattle.week.proofs.Slots.{slot_inside}

-- ---- The lists

module _ (slot : ℕ) (masks lists : List ℕ) (few : length masks ≤ weekdays) (sized : length lists ≡ slots * weekdays) (inside : slot < slots) where
  abbrev at : ℕ
  at = slot * weekdays

  front : length (take at lists) ≡ at
  front = length-take-le at lists (omega (arith, sized, inside))

  front_and_row : length (take at lists ++ row masks) ≡ at + weekdays
  front_and_row = length-append (take at lists) (row masks) ∙ rw (front, row_length masks few) refl

  pub length_stays : length (with_list slot masks lists) ≡ length lists
  length_stays =
      length-append (take at lists ++ row masks) (drop (at + weekdays) lists)
      ∙ rw (front_and_row, length-drop (at + weekdays) lists) (omega (arith, sized, inside))

  pub row_there : masks_in_lem (with_list slot masks lists) slot ≡ row masks
  row_there =
      ap (λ (l : List ℕ). take weekdays (drop at l)) (append_assoc (take at lists) (row masks) (drop (at + weekdays) lists))
      ∙ ap (take weekdays) (drop_at (take at lists) (row masks ++ drop (at + weekdays) lists) at front)
      ∙ take_at (row masks) (drop (at + weekdays) lists) weekdays (row_length masks few)

  before_row : (k : ℕ) → k < at → get_or (with_list slot masks lists) k 0 ≡ get_or lists k 0
  before_row k less =
      get_or-append (take at lists ++ row masks) (drop (at + weekdays) lists) 0 k (omega (arith, less, front_and_row))
      ∙ get_or-append (take at lists) (row masks) 0 k (omega (arith, less, front))
      ∙ get_or-take at lists k 0 less

  behind_row : (k : ℕ) → at + weekdays ≤ k → get_or (with_list slot masks lists) k 0 ≡ get_or lists k 0
  behind_row k behind =
      let i = k - (at + weekdays) in
      let there : length (take at lists ++ row masks) + i ≡ k = omega (arith, front_and_row, behind) in
      let same : at + weekdays + i ≡ k = omega (arith, behind) in
      ap (λ n. get_or (with_list slot masks lists) n 0) (sym there)
      ∙ get_or-append-add (take at lists ++ row masks) (drop (at + weekdays) lists) i 0
      ∙ get_or-drop (at + weekdays) lists i 0
      ∙ ap (λ n. get_or lists n 0) same

  pub list_written : ((k : ℕ) → k < length masks → 1 ≤ get_or masks k 0) → list_in_lem (with_list slot masks lists) slot ≡ masks
  list_written some = ap trimmed row_there ∙ row_trimmed masks some

  pub row_stays : (other : ℕ) → (other ≡ slot → ⊥) → masks_in_lem (with_list slot masks lists) other ≡ masks_in_lem lists other
  row_stays other apart = ext_get_or 0 _ _ same_length at_each
    where
      after : List ℕ
      after = with_list slot masks lists

      sizes : (l : List ℕ) → length (take weekdays (drop (other * weekdays) l)) ≡ min weekdays (length l - other * weekdays)
      sizes l = length-take weekdays (drop (other * weekdays) l) ∙ rw (length-drop (other * weekdays) l) refl

      same_length : length (take weekdays (drop (other * weekdays) after)) ≡ length (take weekdays (drop (other * weekdays) lists))
      same_length = sizes after ∙ rw length_stays (sym (sizes lists))

      outside : (i : ℕ) → i < weekdays → get_or after (other * weekdays + i) 0 ≡ get_or lists (other * weekdays + i) 0
      outside i less =
          by_cases (dec_lt other slot)
          (λ before. before_row (other * weekdays + i) (omega (arith, before, less)))
          (λ not-before. behind_row (other * weekdays + i) (omega (arith, not-before, apart)))

      at_each : (i : ℕ) → i < length (take weekdays (drop (other * weekdays) after)) →
          get_or (take weekdays (drop (other * weekdays) after)) i 0 ≡ get_or (take weekdays (drop (other * weekdays) lists)) i 0
      at_each i less =
          let few' : i < weekdays = omega (arith, less, sizes after) in
          get_or-take weekdays (drop (other * weekdays) after) i 0 few'
          ∙ get_or-drop (other * weekdays) after i 0
          ∙ outside i few'
          ∙ sym (get_or-take weekdays (drop (other * weekdays) lists) i 0 few' ∙ get_or-drop (other * weekdays) lists i 0)

-- ---- The store

pub own_slot_alone : OwnSlotAlone
own_slot_alone S sized version masks few =
    let slot = slot_of_lem version in (
      get_or-set_same S.versions slot version 0 (omega (arith, slot_inside version, sized.0)),
      row_there slot masks S.lists few sized.1 (slot_inside version),
      λ other apart. (get_or-set_other S.versions slot other version 0 apart, row_stays slot masks S.lists few sized.1 (slot_inside version) other apart),
    )

module _ (version : ℕ) (masks : List ℕ) (S : Store) (sized : Sized S) (good : WeekList masks) where
  abbrev after : Store
  after = with_version version masks S

  pub sized_after : Sized after
  sized_after = (
    length-set S.versions (slot_of_lem version) version ∙ sized.0,
    length_stays (slot_of_lem version) masks S.lists good.few sized.1 (slot_inside version) ∙ sized.1,
  )

  pub version_there : version_at after (slot_of_lem version) ≡ version
  version_there = (own_slot_alone S sized version masks good.few).0

  pub version_stays : (slot : ℕ) → (slot ≡ slot_of_lem version → ⊥) → version_at after slot ≡ version_at S slot
  version_stays slot apart = ((own_slot_alone S sized version masks good.few).2 slot apart).0

  pub list_there : list_at after (slot_of_lem version) ≡ masks
  list_there = list_written (slot_of_lem version) masks S.lists good.few sized.1 (slot_inside version) good.not_0

  pub other_list_stays : (slot : ℕ) → (slot ≡ slot_of_lem version → ⊥) → list_at after slot ≡ list_at S slot
  other_list_stays slot apart = ap trimmed ((own_slot_alone S sized version masks good.few).2 slot apart).1
