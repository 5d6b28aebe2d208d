-- Document 02, order 11, of a call that makes a store or changes it: "Both reply the version made; a refused one changes nothing." "New numbers: 40, a
-- list that breaks these rules, or a change at version 65,535; (..) 42, a store that has no version, or whose kept versions are not the consecutive
-- last ones, 16 or as many as were made, or hold a broken list, tested first."
use Rattle.std.specs.Prelude.{ℕ, ◌+◌, ◌<◌, ◌≡◌, not, ◌&&◌, List, [], ◌∷◌, ◌↔◌, ◌⊎◌, ltb}
use Rattle.refusals.specs.Rules.{Outcome, refused, replied, ◌if◌, first_broken, after}
use Rattle.week.specs.WeekList.{WeekList, list_keeps_lem}
use Rattle.week.specs.Store.{Store, Sized, Keeps, newest_of_lem, store_keeps, with_version, no_versions}

-- Making looks at the list alone. Accepted, it leaves nothing of what the tables held; refused, all of it.
abbrev pub new_answer : List ℕ → Outcome ℕ
new_answer masks = first_broken ((40 if not (list_keeps_lem masks)) ∷ []) 1

abbrev pub new_leaves : List ℕ → Store → Store
new_leaves masks S = after (new_answer masks) (with_version 1 masks no_versions) S

abbrev pub last_version : ℕ
last_version = 65535

abbrev pub change_answer : List ℕ → Store → Outcome ℕ
change_answer masks S =
    first_broken ((42 if not (store_keeps S)) ∷ (40 if not (list_keeps_lem masks && ltb (newest_of_lem S) last_version)) ∷ []) (newest_of_lem S + 1)

abbrev pub change_leaves : List ℕ → Store → Store
change_leaves masks S = after (change_answer masks S) (with_version (newest_of_lem S + 1) masks S) S

-- ---- What is proved of them

-- Making is refused exactly where the list breaks the rules, and only with 40; else it replies version 1, and leaves a good store with this version alone.
abbrev pub NewRefused : Type 0
NewRefused = (masks : List ℕ) (number : ℕ) → (new_answer masks ≡ refused number) ↔ ((number ≡ 40) × (WeekList masks → ⊥))

abbrev pub NewReplied : Type 0
NewReplied = (masks : List ℕ) (version : ℕ) → (new_answer masks ≡ replied version) ↔ ((version ≡ 1) × WeekList masks)

abbrev pub NewKeeps : Type 0
NewKeeps = (masks : List ℕ) (S : Store) (version : ℕ) → new_answer masks ≡ replied version → Sized (new_leaves masks S) × Keeps (new_leaves masks S) version

-- A change is 42 exactly where the store is not a good one; 40 where it is, and the list breaks the rules or the newest version is the last; and else it
-- replies the next version, and leaves a good store with that as its newest. It has no other number.
abbrev pub ChangeBroken : Type 0
ChangeBroken = (S : Store) → Sized S → (masks : List ℕ) → (change_answer masks S ≡ refused 42) ↔ ((newest : ℕ) → Keeps S newest → ⊥)

abbrev pub ChangeRefused : Type 0
ChangeRefused = (S : Store) → Sized S → (masks : List ℕ) →
    (change_answer masks S ≡ refused 40) ↔ ((newest : ℕ) × Keeps S newest × (WeekList masks × (newest < last_version) → ⊥))

abbrev pub ChangeReplied : Type 0
ChangeReplied = (S : Store) → Sized S → (masks : List ℕ) (version : ℕ) →
    (change_answer masks S ≡ replied version) ↔ ((newest : ℕ) × Keeps S newest × (WeekList masks × (newest < last_version)) × (newest + 1 ≡ version))

abbrev pub ChangeNumbers : Type 0
ChangeNumbers = (S : Store) (masks : List ℕ) (number : ℕ) → change_answer masks S ≡ refused number → (number ≡ 42) ⊎ (number ≡ 40)

abbrev pub ChangeKeeps : Type 0
ChangeKeeps = (S : Store) → Sized S → (masks : List ℕ) (version : ℕ) → change_answer masks S ≡ replied version →
    Sized (change_leaves masks S) × Keeps (change_leaves masks S) version
