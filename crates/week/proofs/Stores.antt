-- The test of a store and its plain statement: each slot holds the last version whose slot it is exactly where the versions that are kept stand in their
-- slots and no other stands in any.
use Prim.Native.Nat.{ℕ, zero, suc, ◌≤◌, ◌<◌}
use mathlib.Core.Path.{◌≡◌, refl, sym, ap, ◌∙◌}
use mathlib.Core.Bool.{Bool, true, false, ◌||◌}
use mathlib.Core.List.{List, [], ◌∷◌}
use mathlib.Core.Logic.{by_cases}
use native.Mathlib.Decide.{ℕ_discrete, dec_lt}
use native.Mathlib.Omega.{arith}
use lib.Dec.{ltb, eqb}
use lib.ListN.{length, get_or}
use borrow.Author.Tests.{ltb-true, lt-ltb, le-ltb, eqb-true, ne_eqb}
use Rattle.refusals.proofs.Rules.{both_true, true_both}
use Rattle.week.specs.WeekList.{WeekList, list_keeps_lem}
use Rattle.week.specs.Store.{Store, Sized, slots, slot_of_lem, version_at, list_at, Kept, Keeps, greatest, newest_of_lem, last_in_lem, slot_keeps, below, store_keeps, StoreTested, NewestIsGreatest}
use Rattle.week.proofs.Below.{below_at, all_below}
use Rattle.week.proofs.WeekList.{list_tested}
use Rattle.week.proofs.Slots.{slot_inside, last_in_own, own_slot, not_yet}
use Rattle.week.proofs.StoreTest.{empty_slot, good_slot}

-- ---- The greatest number

no_less : (xs : List ℕ) (k : ℕ) → k < length xs → get_or xs k 0 ≤ greatest xs
unfolding greatest
no_less [] k less = absurd (omega arith)
no_less (x ∷ xs) zero less = omega arith
no_less (x ∷ xs) (suc k) less = omega (arith, no_less xs k (omega arith))

no_more : (xs : List ℕ) (n : ℕ) → ((k : ℕ) → k < length xs → get_or xs k 0 ≤ n) → greatest xs ≤ n
unfolding greatest
no_more [] n all = omega arith
no_more (x ∷ xs) n all = omega (arith, all 0 (omega arith), no_more xs n (λ k less. all (suc k) (omega arith)))

pub newest_is_greatest : NewestIsGreatest
newest_is_greatest S sized newest kept =
    let there = kept.each newest (kept.some, omega arith, omega arith) in
    let own = no_less S.versions (slot_of_lem newest) (omega (arith, slot_inside newest, sized.0)) in
    let all = no_more S.versions newest (λ k less. within k (omega (arith, less, sized.0))) in
    omega (arith, there, own, all)
  where
    within : (k : ℕ) → k < slots → version_at S k ≤ newest
    within k less =
        by_cases (ℕ_discrete (version_at S k) 0) (λ empty. omega (arith, empty)) (λ some. omega (arith, (kept.no_other k less (omega (arith, some))).0))

-- ---- The test

or_right : (a b : Bool) → a ≡ false → (a || b) ≡ true → b ≡ true
or_right true b off e = absurd (let z : ◌≡◌ {A = ℕ} 0 1 = cc in omega arith)
or_right false b off e = e

tested : (S : Store) → store_keeps S ≡ true → Keeps S (newest_of_lem S)
tested S e =
    record {
      some = some;
      each = λ version stays. at (slot_of_lem version) (slot_inside version) ∙ last_in_own newest version stays;
      lists = λ version stays. good version stays (at (slot_of_lem version) (slot_inside version) ∙ last_in_own newest version stays);
      no_other = λ slot inside there. no_other slot inside there (at slot inside);
    }
  where
    newest : ℕ
    newest = newest_of_lem S

    some : 1 ≤ newest
    some = ltb-true 0 newest (true_both (ltb 0 newest) (below slots (slot_keeps S)) e).0

    both : (slot : ℕ) → slot < slots → (eqb (version_at S slot) (last_in_lem newest slot) ≡ true) × ((eqb (version_at S slot) 0 || list_keeps_lem (list_at S slot)) ≡ true)
    both slot inside =
        true_both (eqb (version_at S slot) (last_in_lem newest slot)) (eqb (version_at S slot) 0 || list_keeps_lem (list_at S slot))
        (below_at slots (slot_keeps S) (true_both (ltb 0 newest) (below slots (slot_keeps S)) e).1 slot inside)

    at : (slot : ℕ) → slot < slots → version_at S slot ≡ last_in_lem newest slot
    at slot inside = eqb-true (version_at S slot) (last_in_lem newest slot) (both slot inside).0

    good : (version : ℕ) → Kept newest version → version_at S (slot_of_lem version) ≡ version → WeekList (list_at S (slot_of_lem version))
    good version stays is =
        (list_tested (list_at S (slot_of_lem version))).0
        (or_right (eqb (version_at S (slot_of_lem version)) 0) (list_keeps_lem (list_at S (slot_of_lem version)))
        (ne_eqb (version_at S (slot_of_lem version)) 0 (λ empty. omega (arith, empty, is, stays.0))) (both (slot_of_lem version) (slot_inside version)).1)

    no_other : (slot : ℕ) → slot < slots → 1 ≤ version_at S slot → version_at S slot ≡ last_in_lem newest slot → Kept newest (version_at S slot) × (slot_of_lem (version_at S slot) ≡ slot)
    no_other slot inside there is =
        by_cases (dec_lt slot newest)
        (λ before. rw is (own_slot newest slot inside before))
        (λ later. let empty : last_in_lem newest slot ≡ 0 = rw (le-ltb slot newest (omega (arith, later))) refl in absurd (omega (arith, there, is, empty)))

keeps : (S : Store) → Sized S → (newest : ℕ) → Keeps S newest → store_keeps S ≡ true
keeps S sized newest kept = both_true (lt-ltb 0 (newest_of_lem S) (omega (arith, is, kept.some))) (all_below slots (slot_keeps S) at)
  where
    is : newest_of_lem S ≡ newest
    is = newest_is_greatest S sized newest kept

    at : (slot : ℕ) → slot < slots → slot_keeps S slot ≡ true
    at slot inside =
        by_cases (dec_lt slot newest)
        (λ before.
        let own = own_slot newest slot inside before in
        let there : version_at S slot ≡ last_in_lem newest slot = ap (version_at S) (sym own.1) ∙ kept.each (last_in_lem newest slot) own.0 in
        let list : list_keeps_lem (list_at S slot) ≡ true = ap (λ s. list_keeps_lem (list_at S s)) (sym own.1) ∙ (list_tested _).1 (kept.lists (last_in_lem newest slot) own.0) in
        good_slot S slot (there ∙ ap (λ n. last_in_lem n slot) (sym is)) list)
        (λ later.
        let none : last_in_lem (newest_of_lem S) slot ≡ 0 = rw (is, le-ltb slot newest (omega (arith, later))) refl in
        let empty : version_at S slot ≡ 0 = by_cases (ℕ_discrete (version_at S slot) 0) (λ e. e)
        (λ some. let there = kept.no_other slot inside (omega (arith, some)) in absurd (not_yet newest slot (version_at S slot) inside (omega (arith, later)) there.0 there.1)) in
        empty_slot S slot (empty ∙ sym none) empty)

pub store_tested : StoreTested
store_tested S sized = ((λ e. (newest_of_lem S, tested S e)), (λ (newest, kept). keeps S sized newest kept))
