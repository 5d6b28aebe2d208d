-- Document 02, order 11, of the question: "A question by version and day, 0 to 6 as the bits, gives the place, from 0, of that day's plan in that version's
-- list. A change leaves the replies for earlier versions still kept the same." "41, a version not kept or a day above 6; 42, a store that has no
-- version, (..) tested first."
use Rattle.std.specs.Prelude.{ℕ, ◌+◌, ◌≤◌, ◌<◌, ◌≡◌, not, ◌&&◌, List, [], ◌∷◌, ◌↔◌, ◌⊎◌, ltb}
use Rattle.refusals.specs.Rules.{Outcome, refused, replied, ◌if◌, first_broken}
use Rattle.week.specs.WeekList.{weekdays, OnlyPlace, place_of_lem}
use Rattle.week.specs.Store.{Store, Sized, slots, slot_of_lem, list_at, Kept, Keeps, newest_of_lem, store_keeps, kept}
use Rattle.week.specs.Making.{new_answer, new_leaves, change_answer, change_leaves}

abbrev pub plan_answer : Store → ℕ → ℕ → Outcome ℕ
plan_answer S version day =
    first_broken ((42 if not (store_keeps S)) ∷ (41 if not (kept (newest_of_lem S) version && ltb day weekdays)) ∷ []) (place_of_lem day (list_at S (slot_of_lem version)))

-- ---- What is proved of it

-- It is 42 exactly where the store is not a good one; 41 where it is, and the version is not kept or the day is above 6; and else it replies the only
-- place in the version's list whose mask has the day. It has no other number.
abbrev pub PlanBroken : Type 0
PlanBroken = (S : Store) → Sized S → (version day : ℕ) → (plan_answer S version day ≡ refused 42) ↔ ((newest : ℕ) → Keeps S newest → ⊥)

abbrev pub PlanRefused : Type 0
PlanRefused = (S : Store) → Sized S → (version day : ℕ) →
    (plan_answer S version day ≡ refused 41) ↔ ((newest : ℕ) × Keeps S newest × (Kept newest version × (day < weekdays) → ⊥))

abbrev pub PlanReplied : Type 0
PlanReplied = (S : Store) → Sized S → (version day place : ℕ) →
    (plan_answer S version day ≡ replied place)
    ↔ ((newest : ℕ) × Keeps S newest × (Kept newest version × (day < weekdays)) × OnlyPlace day (list_at S (slot_of_lem version)) place)

abbrev pub PlanNumbers : Type 0
PlanNumbers = (S : Store) (version day number : ℕ) → plan_answer S version day ≡ refused number → (number ≡ 42) ⊎ (number ≡ 41)

-- A change leaves the replies for earlier versions still kept the same, for every day; a version that fell out is 41.
abbrev pub EarlierStay : Type 0
EarlierStay = (S : Store) → Sized S → (masks : List ℕ) (made : ℕ) → change_answer masks S ≡ replied made → (version : ℕ) → Kept made version → version < made →
    (day : ℕ) → plan_answer (change_leaves masks S) version day ≡ plan_answer S version day

abbrev pub FallenOut : Type 0
FallenOut = (S : Store) → Sized S → (masks : List ℕ) (made : ℕ) → change_answer masks S ≡ replied made → (version : ℕ) → version + slots ≤ made →
    (day : ℕ) → plan_answer (change_leaves masks S) version day ≡ refused 41

-- A question about the version just made gives the place in the list just given, the only one that has the day.
abbrev pub JustMade : Type 0
JustMade = (S : Store) → Sized S → (masks : List ℕ) (made : ℕ) → change_answer masks S ≡ replied made → (day : ℕ) → day < weekdays →
    (plan_answer (change_leaves masks S) made day ≡ replied (place_of_lem day masks)) × OnlyPlace day masks (place_of_lem day masks)

abbrev pub FirstMade : Type 0
FirstMade = (S : Store) (masks : List ℕ) (made : ℕ) → new_answer masks ≡ replied made → (day : ℕ) → day < weekdays →
    (plan_answer (new_leaves masks S) made day ≡ replied (place_of_lem day masks)) × OnlyPlace day masks (place_of_lem day masks)
