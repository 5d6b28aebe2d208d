-- A store from its making on, whatever changes were asked of it: the accepted lists are its versions, in the order in which they were accepted, and a question is
-- answered by the list that was accepted as that version. Questions write nothing and have no part in it; another making begins anew.
use Rattle.std.specs.Prelude.{ℕ, ◌-◌, ◌<◌, ◌≡◌, List, [], ◌∷◌, length, get_or}
use Rattle.refusals.specs.Rules.{Outcome, refused, replied}
use Rattle.week.specs.WeekList.{weekdays, OnlyPlace}
use Rattle.week.specs.Store.{Store, Sized, Kept, Keeps}
use Rattle.week.specs.Making.{new_answer, new_leaves, change_answer, change_leaves}
use Rattle.week.specs.Planning.{plan_answer}

-- The store after a list of changes, one after the other.
unfoldable pub store_after : Store → List (List ℕ) → Store
store_after S [] = S
store_after S (masks ∷ changes) = store_after (change_leaves masks S) changes

-- The lists of those that were accepted: a list goes in front of the later ones where its change was replied to.
abbrev pub if_replied : Outcome ℕ → List ℕ → List (List ℕ) → List (List ℕ)
if_replied (refused number) masks later = later
if_replied (replied version) masks later = masks ∷ later

unfoldable pub accepted : Store → List (List ℕ) → List (List ℕ)
accepted S [] = []
accepted S (masks ∷ changes) = if_replied (change_answer masks S) masks (accepted (change_leaves masks S) changes)

-- After an accepted making and any changes, of which k were accepted, the store is a good one whose newest version is k + 1. A question about a version that is
-- still kept, for a day from 0 to 6, is answered by the list that was accepted as that version, the first being the one that the store was made with: by the
-- only place there that has the day. Every other question is 41.
abbrev pub AnsweredByHistory : Type 0
AnsweredByHistory = (S : Store) (first : List ℕ) (changes : List (List ℕ)) → new_answer first ≡ replied 1 →
    let made = new_leaves first S in
    let now = store_after made changes in
    let lists = first ∷ accepted made changes in
    (Sized now × Keeps now (length lists))
    × ((version day : ℕ) → Kept (length lists) version → day < weekdays →
    (place : ℕ) × (plan_answer now version day ≡ replied place) × OnlyPlace day (get_or lists (version - 1) []) place)
    × ((version day : ℕ) → (Kept (length lists) version × (day < weekdays) → ⊥) → plan_answer now version day ≡ refused 41)
