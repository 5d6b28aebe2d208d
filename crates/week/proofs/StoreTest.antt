-- The test of a store, slot by slot.
use Prim.Native.Nat.{ℕ, ◌<◌}
use mathlib.Core.Path.{◌≡◌, refl}
use mathlib.Core.Bool.{true, false, and-false, or-true, cond}
use Rattle.std.specs.Prelude.{Some, None}
use lib.Dec.{eqb, ltb}
use borrow.Author.Tests.{eq-eqb, ne_eqb}
use Rattle.refusals.proofs.Rules.{both_true}
use Rattle.week.specs.WeekList.{list_keeps_lem}
use Rattle.week.specs.Store.{Store, slots, version_at, list_at, newest_of_lem, last_in_lem, slot_keeps, store_keeps}
use Rattle.week.proofs.Below.{below_breaks}

-- ---- A slot

module _ (S : Store) (slot : ℕ) where
  pub other_version : (version_at S slot ≡ last_in_lem (newest_of_lem S) slot → ⊥) → slot_keeps S slot ≡ false
  other_version other = rw (ne_eqb (version_at S slot) (last_in_lem (newest_of_lem S) slot) other) refl

  pub broken_list : (version_at S slot ≡ 0 → ⊥) → list_keeps_lem (list_at S slot) ≡ false → slot_keeps S slot ≡ false
  broken_list not_0 breaks = rw (ne_eqb (version_at S slot) 0 not_0, breaks) (and-false (eqb (version_at S slot) (last_in_lem (newest_of_lem S) slot)))

  pub empty_slot : version_at S slot ≡ last_in_lem (newest_of_lem S) slot → version_at S slot ≡ 0 → slot_keeps S slot ≡ true
  empty_slot is empty = both_true (eq-eqb (version_at S slot) (last_in_lem (newest_of_lem S) slot) is) (rw (eq-eqb (version_at S slot) 0 empty) refl)

  pub good_slot : version_at S slot ≡ last_in_lem (newest_of_lem S) slot → list_keeps_lem (list_at S slot) ≡ true → slot_keeps S slot ≡ true
  good_slot is keeps = both_true (eq-eqb (version_at S slot) (last_in_lem (newest_of_lem S) slot) is) (rw keeps (or-true (eqb (version_at S slot) 0)))

-- ---- The store

module _ (S : Store) where
  pub slot_breaks : (slot : ℕ) → slot < slots → slot_keeps S slot ≡ false → None ≡ cond (store_keeps S) (Some (newest_of_lem S)) None
  slot_breaks slot less breaks = rw (below_breaks slots (slot_keeps S) slot less breaks, and-false (ltb 0 (newest_of_lem S))) refl
