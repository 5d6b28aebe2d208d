-- The greatest number in the slots, found slot by slot; which versions are kept, and the slot of each.
use Prim.Native.Nat.{ℕ, ◌+◌, ◌-◌, ◌*◌, ◌/◌, ◌%◌, ◌≤◌, ◌<◌, max}
use mathlib.Core.Path.{◌≡◌, sym, ap, ◌∙◌}
use mathlib.Core.Bool.{true}
use mathlib.Core.List.{List, [], ◌∷◌}
use Rattle.std.specs.List.{fold}
use native.Mathlib.Omega.{arith}
use native.Mathlib.Nat.{mod-lt, div-add-mod'}
use lib.Arith.{digits_mod}
use lib.Dec.{leb, ltb}
use borrow.Author.Tests.{ltb-true, leb-true, lt-ltb, le-leb}
use Rattle.refusals.proofs.Rules.{both_true, true_three}
use Rattle.week.specs.Store.{slots, slot_of_lem, greatest, last_in_lem, Kept, kept, KeptTested}

-- ---- The greatest number

-- It is the greater of two numbers at each version, from 0 on.
folded : (first : ℕ) (versions : List ℕ) → fold max first versions ≡ max first (greatest versions)
unfolding greatest
folded first [] = omega arith
folded first (version ∷ versions) = omega (arith, folded (max first version) versions)

pub greatest_is : (versions : List ℕ) → fold max 0 versions ≡ greatest versions
greatest_is versions = omega (arith, folded 0 versions)

-- ---- The versions that are kept

pub kept_true : (newest version : ℕ) → kept newest version ≡ true → Kept newest version
kept_true newest version e =
    let parts = true_three (ltb 0 version) (leb version newest) (ltb newest (version + slots)) e in
    (ltb-true 0 version parts.0, leb-true version newest parts.1, ltb-true newest (version + slots) parts.2)

pub true_kept : (newest version : ℕ) → Kept newest version → kept newest version ≡ true
true_kept newest version (some, made, stays) =
    both_true (both_true (lt-ltb 0 version some) (le-leb version newest made)) (lt-ltb newest (version + slots) stays)

pub kept_tested : KeptTested
kept_tested newest version = (kept_true newest version, true_kept newest version)

-- ---- A version and its slot

-- A number in two parts, the second below 16.
mod_is : (n q r : ℕ) → r < slots → n ≡ q * slots + r → n % slots ≡ r
mod_is n q r less is = ap (λ (k : ℕ). k % slots) is ∙ digits_mod q less

pub slot_inside : (version : ℕ) → slot_of_lem version < slots
slot_inside version = mod-lt (version - 1) (omega arith)

-- A version that is kept is the last whose slot its own is.
pub last_in_own : (newest version : ℕ) → Kept newest version → last_in_lem newest (slot_of_lem version) ≡ version
last_in_own newest version (some, made, stays) =
    let slot = slot_of_lem version in
    let q = (version - 1) / slots in
    let whole : q * slots + slot ≡ version - 1 = div-add-mod' (version - 1) slots in
    let rest : (newest - 1 - slot) % slots ≡ newest - version = mod_is (newest - 1 - slot) q (newest - version) (omega arith) (omega (arith, whole)) in
    let before : slot < newest = omega (arith, whole) in
    rw (lt-ltb slot newest before, rest) (omega arith)

-- The last version whose slot this is is kept.
pub own_slot : (newest slot : ℕ) → slot < slots → slot < newest → Kept newest (last_in_lem newest slot) × (slot_of_lem (last_in_lem newest slot) ≡ slot)
own_slot newest slot inside before = rw (lt-ltb slot newest before) go
  where
    go : Kept newest (newest - (newest - 1 - slot) % slots) × (slot_of_lem (newest - (newest - 1 - slot) % slots) ≡ slot)
    go =
        let r = (newest - 1 - slot) % slots in
        let q = (newest - 1 - slot) / slots in
        let whole : q * slots + r ≡ newest - 1 - slot = div-add-mod' (newest - 1 - slot) slots in
        let less : r < slots = mod-lt (newest - 1 - slot) (omega arith) in
        ((omega (arith, whole), omega (arith, whole), omega (arith, whole, less)), mod_is (newest - r - 1) q slot inside (omega (arith, whole)))

-- Two versions that are kept have two slots.
pub one_slot : (newest version other : ℕ) → Kept newest version → Kept newest other → slot_of_lem version ≡ slot_of_lem other → version ≡ other
one_slot newest version other stays stays' same = sym (last_in_own newest version stays) ∙ ap (last_in_lem newest) same ∙ last_in_own newest other stays'

-- A slot that no version has come to is empty.
pub not_yet : (newest slot version : ℕ) → slot < slots → newest ≤ slot → Kept newest version → slot_of_lem version ≡ slot → ⊥
not_yet newest slot version inside later (some, made, stays) same =
    let own : slot_of_lem version ≡ version - 1 = mod_is (version - 1) 0 (version - 1) (omega arith) (omega arith) in
    omega (arith, own, same)

-- Sixteen versions later the slot is used again.
pub one_round : (version : ℕ) → 1 ≤ version → slot_of_lem (version + slots) ≡ slot_of_lem version
one_round version some =
    let q = (version - 1) / slots in
    let whole : q * slots + slot_of_lem version ≡ version - 1 = div-add-mod' (version - 1) slots in
    mod_is (version + slots - 1) (q + 1) (slot_of_lem version) (slot_inside version) (omega (arith, whole))
