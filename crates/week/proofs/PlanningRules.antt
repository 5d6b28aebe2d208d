-- The question in plain words, and what a change leaves of its replies.
use Prim.Native.Nat.{ℕ, ◌+◌, ◌<◌}
use mathlib.Core.Path.{◌≡◌, refl, sym, ◌∙◌}
use mathlib.Core.Bool.{Bool, true, ◌&&◌, cond}
use mathlib.Core.List.{List}
use mathlib.Core.Logic.{◌↔◌}
use native.Mathlib.Omega.{arith}
use lib.Dec.{ltb}
use borrow.Author.Tests.{ltb-true, lt-ltb}
use Rattle.refusals.specs.Rules.{refused, replied}
use Rattle.refusals.proofs.Rules.{both_true, true_both}
use Rattle.week.specs.WeekList.{weekdays, WeekList, OnlyPlace, place_of_lem}
use Rattle.week.specs.Store.{Store, Sized, slot_of_lem, list_at, Kept, Keeps, newest_of_lem, store_keeps, kept, no_versions}
use Rattle.week.specs.Making.{new_leaves, change_leaves}
use Rattle.week.specs.Planning.{plan_answer, PlanBroken, PlanRefused, PlanReplied, PlanNumbers, EarlierStay, FallenOut, JustMade, FirstMade}
use Rattle.week.proofs.Answers.{only_two, plainly, second_decides}
use Rattle.week.proofs.WeekList.{place_is_only}
use Rattle.week.proofs.Slots.{kept_true, true_kept}
use Rattle.week.proofs.Stores.{store_tested, newest_is_greatest}
use Rattle.week.proofs.NextVersion.{up_to, earlier}
use Rattle.week.proofs.MakingRules.{Changed, changed_so, change_keeps, new_replied, new_keeps, none_sized}
use Rattle.week.proofs.Writing.{list_there, other_list_stays}

module _ (S : Store) (sized : Sized S) (version day : ℕ) where
  abbrev Asked : ℕ → Type 0
  Asked newest = Kept newest version × (day < weekdays)

  abbrev fits : Bool
  fits = kept (newest_of_lem S) version && ltb day weekdays

  is_asked : (newest : ℕ) → Keeps S newest → (fits ≡ true) ↔ Asked newest
  is_asked newest held =
      let is = newest_is_greatest S sized newest held in (
        (λ e.
            let parts = true_both (kept (newest_of_lem S) version) (ltb day weekdays) e in
            (rw⁻¹ is (kept_true (newest_of_lem S) version parts.0), ltb-true day weekdays parts.1)),
        (λ (stays, less). both_true (true_kept (newest_of_lem S) version (rw is stays)) (lt-ltb day weekdays less)),
      )

  abbrev list : List ℕ
  list = list_at S (slot_of_lem version)

  is_place : (newest : ℕ) → Keeps S newest → Asked newest → (place : ℕ) → (place_of_lem day list ≡ place) ↔ OnlyPlace day list place
  is_place newest held (stays, less) place =
      let only = place_is_only list (held.lists version stays) day less in
      ((λ e. rw (sym e) only), (λ here. here.2 (place_of_lem day list) only.0 only.1))

  -- In a good store the version and the day decide.
  pub answered : (newest : ℕ) → Keeps S newest → plan_answer S version day ≡ cond (kept newest version && ltb day weekdays) (replied (place_of_lem day list)) (refused 41)
  answered newest held =
      second_decides 42 41 (place_of_lem day list) (store_keeps S) fits ((store_tested S sized).1 (newest, held)) ∙ rw (newest_is_greatest S sized newest held) refl

  plain : ((plan_answer S version day ≡ refused 42) ↔ ((newest : ℕ) → Keeps S newest → ⊥))
      × ((plan_answer S version day ≡ refused 41) ↔ ((newest : ℕ) × Keeps S newest × (Asked newest → ⊥)))
      × ((place : ℕ) → (plan_answer S version day ≡ replied place) ↔ ((newest : ℕ) × Keeps S newest × Asked newest × OnlyPlace day list place))
  plain =
      plainly 42 41 (place_of_lem day list) (λ e. omega (arith, e)) (store_keeps S) fits (Keeps S) Asked (λ newest. OnlyPlace day list) (store_tested S sized) is_asked is_place

pub plan_broken : PlanBroken
plan_broken S sized version day = (plain S sized version day).0

pub plan_refused : PlanRefused
plan_refused S sized version day = (plain S sized version day).1

pub plan_replied : PlanReplied
plan_replied S sized version day = (plain S sized version day).2

pub plan_numbers : PlanNumbers
plan_numbers S version day = only_two 42 41 (place_of_lem day (list_at S (slot_of_lem version))) (store_keeps S) (kept (newest_of_lem S) version && ltb day weekdays)

-- ---- After a change

pub fallen_out : FallenOut
fallen_out S sized masks made e version out day =
    let after = change_keeps S sized masks made e in
    (plan_refused (change_leaves masks S) after.0 version day).1 (made, after.1, λ (stays, less). omega (arith, stays.2, out))

pub earlier_stay : EarlierStay
earlier_stay S sized masks made e version stays before day = go (changed_so S sized masks made e) (change_keeps S sized masks made e)
  where
    go : Changed S masks made → Sized (change_leaves masks S) × Keeps (change_leaves masks S) made → plan_answer (change_leaves masks S) version day ≡ plan_answer S version day
    go change (sized', kept') =
        let newest = change.newest in
        let next = newest + 1 in
        let was = earlier S newest sized (up_to S newest change.kept) masks change.good version (rw change.next_is stays) (λ same. omega (arith, same, change.next_is, before)) in
        let same-list : list_at (change_leaves masks S) (slot_of_lem version) ≡ list_at S (slot_of_lem version) =
        rw change.leaves (other_list_stays next masks S sized change.good (slot_of_lem version) was.1) in
        let reply = cond (ltb day weekdays) (replied (place_of_lem day (list_at S (slot_of_lem version)))) (refused 41) in
        let now : plan_answer (change_leaves masks S) version day ≡ reply =
        answered (change_leaves masks S) sized' version day made kept' ∙ rw (true_kept made version stays, same-list) refl in
        let then : plan_answer S version day ≡ reply = answered S sized version day newest change.kept ∙ rw (true_kept newest version was.0) refl in
        now ∙ sym then

-- The newest version is answered by the list that was put into its slot.
newest_list : (S : Store) → Sized S → (newest : ℕ) → Keeps S newest → (masks : List ℕ) → WeekList masks → list_at S (slot_of_lem newest) ≡ masks → (day : ℕ) → day < weekdays →
    (plan_answer S newest day ≡ replied (place_of_lem day masks)) × OnlyPlace day masks (place_of_lem day masks)
newest_list S sized newest held masks good there day less = (
  answered S sized newest day newest held ∙ rw (true_kept newest newest (held.some, omega arith, omega arith), lt-ltb day weekdays less, there) refl,
  place_is_only masks good day less,
)

pub just_made : JustMade
just_made S sized masks made e day less = go (changed_so S sized masks made e) (change_keeps S sized masks made e)
  where
    go : Changed S masks made → Sized (change_leaves masks S) × Keeps (change_leaves masks S) made →
        (plan_answer (change_leaves masks S) made day ≡ replied (place_of_lem day masks)) × OnlyPlace day masks (place_of_lem day masks)
    go change (sized', kept') =
        let there : list_at (change_leaves masks S) (slot_of_lem made) ≡ masks =
        rw (change.leaves, sym change.next_is) (list_there (change.newest + 1) masks S sized change.good) in
        newest_list (change_leaves masks S) sized' made kept' masks change.good there day less

pub first_made : FirstMade
first_made S masks made e day less = go ((new_replied masks made).0 e) (new_keeps masks S made e)
  where
    go : (made ≡ 1) × WeekList masks → Sized (new_leaves masks S) × Keeps (new_leaves masks S) made →
        (plan_answer (new_leaves masks S) made day ≡ replied (place_of_lem day masks)) × OnlyPlace day masks (place_of_lem day masks)
    go (first, good) (sized', kept') =
        let there : list_at (new_leaves masks S) (slot_of_lem made) ≡ masks = rw (e, first) (list_there 1 masks no_versions none_sized good) in
        newest_list (new_leaves masks S) sized' made kept' masks good there day less
