-- The test of a list and its plain statement: the masks have each day once exactly where one place has it.
use Prim.Native.Nat.{ℕ, zero, suc, ◌≤◌, ◌<◌}
use mathlib.Core.Path.{◌≡◌, refl, ap}
use mathlib.Core.Bool.{true}
use mathlib.Core.List.{List, [], ◌∷◌}
use mathlib.Core.Logic.{by_cases}
use native.Mathlib.Decide.{ℕ_discrete}
use native.Mathlib.Omega.{arith}
use lib.Dec.{leb, ltb}
use lib.Count.{ones}
use lib.ListN.{length, get_or}
use borrow.Author.Tests.{ltb-true, leb-true, eqb-true, lt-ltb, le-leb, eq-eqb, ne_eqb}
use Rattle.refusals.specs.Rules.{every}
use Rattle.refusals.proofs.Rules.{both_true, true_both, true_three, every_at, at_every}
use Rattle.week.specs.WeekList.{weekdays, all_days, bit, OnlyPlace, WeekList, mask_keeps, together, total, list_keeps_lem, place_of_lem, ListTested, PlaceIsOnly}
use Rattle.week.proofs.Columns.{bit_fits, column, EachOnce, by_ones, once_together, once_ones}

-- ---- A day that stands in one mask

nowhere : (day : ℕ) (masks : List ℕ) → column day masks ≡ 0 → (k : ℕ) → k < length masks → bit day (get_or masks k 0) ≡ 1 → ⊥
nowhere day [] none k less has = absurd (omega arith)
nowhere day (mask ∷ masks) none zero less has = omega (arith, none, has)
nowhere day (mask ∷ masks) none (suc k) less has = nowhere day masks (omega (arith, none)) k (omega arith) has

nowhere_none : (day : ℕ) (masks : List ℕ) → ((k : ℕ) → k < length masks → bit day (get_or masks k 0) ≡ 1 → ⊥) → column day masks ≡ 0
nowhere_none day [] none = refl
nowhere_none day (mask ∷ masks) none =
    let here = none 0 (omega arith) in
    let rest = nowhere_none day masks (λ k less. none (suc k) (omega arith)) in
    omega (arith, bit_fits day mask, here, rest)

pub once_only : (day : ℕ) (masks : List ℕ) → column day masks ≡ 1 → OnlyPlace day masks (place_of_lem day masks)
unfolding place_of_lem
once_only day [] once = absurd (omega arith)
once_only day (mask ∷ masks) once =
    by_cases (ℕ_discrete (bit day mask) 1)
    (λ has. rw (eq-eqb (bit day mask) 1 has) (omega arith, has, alone (nowhere day masks (omega (arith, once, has)))))
    (λ lacks. rw (ne_eqb (bit day mask) 1 lacks)
    (let none : bit day mask ≡ 0 = omega (arith, bit_fits day mask, lacks) in
    let rest = once_only day masks (omega (arith, once, none)) in
    (omega (arith, rest.0), rest.1, behind lacks rest.2)))
  where
    alone : ((k : ℕ) → k < length masks → bit day (get_or masks k 0) ≡ 1 → ⊥) → (other : ℕ) → other < suc (length masks) → bit day (get_or (mask ∷ masks) other 0) ≡ 1 →
        other ≡ 0
    alone none zero less has = refl
    alone none (suc k) less has = absurd (none k (omega arith) has)

    behind : (bit day mask ≡ 1 → ⊥) → ((other : ℕ) → other < length masks → bit day (get_or masks other 0) ≡ 1 → other ≡ place_of_lem day masks) →
        (other : ℕ) → other < suc (length masks) → bit day (get_or (mask ∷ masks) other 0) ≡ 1 → other ≡ suc (place_of_lem day masks)
    behind lacks only zero less has = absurd (lacks has)
    behind lacks only (suc k) less has = ap suc (only k (omega arith) has)

only_once : (day : ℕ) (masks : List ℕ) (place : ℕ) → OnlyPlace day masks place → column day masks ≡ 1
only_once day [] place only = absurd (omega (arith, only.0))
only_once day (mask ∷ masks) zero only =
    let others : column day masks ≡ 0 = nowhere_none day masks (λ k less has. let same = only.2 (suc k) (omega arith) has in omega (arith, same)) in
    omega (arith, only.1, others)
only_once day (mask ∷ masks) (suc place) only =
    let lacks : bit day mask ≡ 1 → ⊥ = λ has. let same = only.2 0 (omega arith) has in omega (arith, same) in
    let rest = only_once day masks place (omega (arith, only.0), only.1, λ k less has. let same = only.2 (suc k) (omega arith) has in omega (arith, same)) in
    omega (arith, bit_fits day mask, lacks, rest)

-- ---- The test

module _ (masks : List ℕ) where
  pub each_once : WeekList masks → EachOnce masks
  each_once kept day less = let only = kept.each_day day less in only_once day masks only.0 only.1

  pub from_once : 1 ≤ length masks → length masks ≤ weekdays → every mask_keeps masks ≡ true → EachOnce masks → WeekList masks
  from_once some few keep once =
      record {
        some = some;
        few = few;
        not_0 = λ place less. ltb-true 0 (get_or masks place 0) (at place less).0;
        fits = λ place less. leb-true (get_or masks place 0) all_days (at place less).1;
        each_day = λ day less. (place_of_lem day masks, once_only day masks (once day less));
      }
    where
      at : (place : ℕ) → place < length masks → (ltb 0 (get_or masks place 0) ≡ true) × (leb (get_or masks place 0) all_days ≡ true)
      at place less = true_both (ltb 0 (get_or masks place 0)) (leb (get_or masks place 0) all_days) (every_at mask_keeps 0 masks keep place less)

  masks_keep : WeekList masks → every mask_keeps masks ≡ true
  masks_keep kept =
      at_every mask_keeps 0 masks (λ place less. both_true (lt-ltb 0 (get_or masks place 0) (kept.not_0 place less)) (le-leb (get_or masks place 0) all_days (kept.fits place less)))

  tested : list_keeps_lem masks ≡ true → WeekList masks
  tested e =
      let counted = true_both _ _ e in
      let covered = true_both _ _ counted.0 in
      let rules = true_three _ _ _ covered.0 in
      let all = eqb-true (together 0 masks) all_days covered.1 in
      let make = eqb-true (total ones 0 masks) weekdays counted.1 in
      from_once (ltb-true 0 (length masks) rules.0) (leb-true (length masks) weekdays rules.1) rules.2 (by_ones masks all make)

  keeps : WeekList masks → list_keeps_lem masks ≡ true
  keeps kept =
      let once = each_once kept in
      rw (
        lt-ltb 0 (length masks) kept.some,
        le-leb (length masks) weekdays kept.few,
        masks_keep kept,
        eq-eqb (together 0 masks) all_days (once_together masks kept.fits once),
        eq-eqb (total ones 0 masks) weekdays (once_ones masks kept.fits once),
      ) refl

pub list_tested : ListTested
list_tested masks = (tested masks, keeps masks)

pub place_is_only : PlaceIsOnly
place_is_only masks kept day less = once_only day masks (each_once masks kept day less)
