-- A store from its making on: the invariant is that each version that is kept has the list that was accepted as that version.
use Prim.Native.Nat.{ℕ, ◌+◌, ◌-◌, ◌<◌}
use mathlib.Core.Path.{◌≡◌, refl, sym, ◌∙◌}
use mathlib.Core.List.{List, [], ◌∷◌, ◌++◌, append-nil}
use mathlib.Core.Logic.{by_cases}
use native.Mathlib.Decide.{ℕ_discrete}
use native.Mathlib.Omega.{arith}
use lib.ListN.{length, get_or, length-append, get_or-append}
use lib.Seq.{get_or_at, append_snoc}
use Rattle.refusals.specs.Rules.{Outcome, refused, replied}
use Rattle.week.specs.WeekList.{weekdays, WeekList, OnlyPlace, place_of_lem}
use Rattle.week.specs.Store.{Store, Sized, slot_of_lem, list_at, Kept, Keeps, kept, with_version, no_versions}
use Rattle.week.specs.Making.{new_leaves, change_answer, change_leaves}
use Rattle.week.specs.Planning.{plan_answer}
use Rattle.week.specs.History.{store_after, if_replied, accepted, AnsweredByHistory}
use Rattle.week.proofs.WeekList.{place_is_only}
use Rattle.week.proofs.Stores.{newest_is_greatest}
use Rattle.week.proofs.NextVersion.{up_to, earlier}
use Rattle.week.proofs.MakingRules.{Changed, changed_so, change_keeps, new_replied, new_keeps, none_sized}
use Rattle.week.proofs.PlanningRules.{plan_refused, plan_replied}
use Rattle.week.proofs.Writing.{list_there, other_list_stays}

record Holds (S : Store) (history : List (List ℕ)) : Type 0 where
  sized : Sized S
  keeps : Keeps S (length history)
  lists : (version : ℕ) → Kept (length history) version → list_at S (slot_of_lem version) ≡ get_or history (version - 1) []

-- An accepted change adds its list at the end.
added : (S : Store) (history : List (List ℕ)) (masks : List ℕ) (version : ℕ) → Holds S history → change_answer masks S ≡ replied version →
    Holds (change_leaves masks S) (history ++ masks ∷ [])
added S history masks version held e = go (changed_so S held.sized masks version e) (change_keeps S held.sized masks version e)
  where
    lists : (newest : ℕ) → Keeps S newest → newest ≡ length history → WeekList masks → newest + 1 ≡ version → change_leaves masks S ≡ with_version (newest + 1) masks S →
        (v : ℕ) → Kept version v → list_at (change_leaves masks S) (slot_of_lem v) ≡ get_or (history ++ masks ∷ []) (v - 1) []
    lists newest kept is good next leaves v stays =
        rw (leaves)
        (by_cases (ℕ_discrete v (newest + 1))
        (λ own. rw own (list_there (newest + 1) masks S held.sized good ∙ sym (get_or_at history masks [] [] (newest + 1 - 1) (omega (arith, is)))))
        (λ other.
        let was = earlier S newest held.sized (up_to S newest kept) masks good v (rw next stays) other in
        other_list_stays (newest + 1) masks S held.sized good (slot_of_lem v) was.1
        ∙ held.lists v (rw⁻¹ is was.0)
        ∙ sym (get_or-append history (masks ∷ []) [] (v - 1) (omega (arith, is, was.0)))))

    go : Changed S masks version → Sized (change_leaves masks S) × Keeps (change_leaves masks S) version → Holds (change_leaves masks S) (history ++ masks ∷ [])
    go change (sized', kept') =
        let newest = change.newest in
        let is : newest ≡ length history =
        sym (newest_is_greatest S held.sized newest change.kept) ∙ newest_is_greatest S held.sized (length history) held.keeps in
        let long : length (history ++ masks ∷ []) ≡ version = length-append history (masks ∷ []) ∙ omega (arith, is, change.next_is) in
        record { sized = sized'; keeps = rw long kept'; lists = rw long (lists newest change.kept is change.good change.next_is change.leaves) }

-- A refused one leaves everything.
same : (S : Store) (masks : List ℕ) (number : ℕ) → change_answer masks S ≡ refused number → change_leaves masks S ≡ S
same S masks number e = rw e refl

all_changes : (S : Store) (history : List (List ℕ)) (changes : List (List ℕ)) → Holds S history → Holds (store_after S changes) (history ++ accepted S changes)
unfolding store_after accepted
all_changes S history [] held = rw (append-nil history) held
all_changes S history (masks ∷ changes) held = go (change_answer masks S) refl (λ S' history'. all_changes S' history' changes)
  where
    go : (answer : Outcome ℕ) → change_answer masks S ≡ answer →
        ((S' : Store) (history' : List (List ℕ)) → Holds S' history' → Holds (store_after S' changes) (history' ++ accepted S' changes)) →
        Holds (store_after (change_leaves masks S) changes) (history ++ if_replied answer masks (accepted (change_leaves masks S) changes))
    go (refused number) e rest = rw (same S masks number e) (rest S history held)
    go (replied version) e rest =
        rw⁻¹ (append_snoc history masks (accepted (change_leaves masks S) changes))
        (rest (change_leaves masks S) (history ++ masks ∷ []) (added S history masks version held e))

pub answered_by_history : AnsweredByHistory
answered_by_history S first changes e = ((after.sized, after.keeps), reply, other)
  where
    made : Store
    made = new_leaves first S

    good : WeekList first
    good = ((new_replied first 1).0 e).1

    there : list_at made (slot_of_lem 1) ≡ first
    there = rw e (list_there 1 first no_versions none_sized good)

    after : Holds (store_after made changes) (first ∷ accepted made changes)
    after =
        all_changes made (first ∷ []) changes
        record {
          sized = (new_keeps first S 1 e).0;
          keeps = (new_keeps first S 1 e).1;
          lists = λ version stays. let only : version ≡ 1 = omega (arith, stays) in rw only there;
        }

    number : ℕ
    number = length (first ∷ accepted made changes)

    reply : (version day : ℕ) → Kept number version → day < weekdays →
        (place : ℕ) × (plan_answer (store_after made changes) version day ≡ replied place) × OnlyPlace day (get_or (first ∷ accepted made changes) (version - 1) []) place
    reply version day stays less =
        let list = list_at (store_after made changes) (slot_of_lem version) in
        let only = place_is_only list (after.keeps.lists version stays) day less in (
          place_of_lem day list,
          (plan_replied (store_after made changes) after.sized version day (place_of_lem day list)).1 (number, after.keeps, (stays, less), only),
          rw (sym (after.lists version stays)) only,
        )

    other : (version day : ℕ) → (Kept number version × (day < weekdays) → ⊥) → plan_answer (store_after made changes) version day ≡ refused 41
    other version day not = (plan_refused (store_after made changes) after.sized version day).1 (number, after.keeps, not)
