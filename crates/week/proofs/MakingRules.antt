-- Making and changing in plain words, and the good store that they leave.
use Prim.Native.Nat.{ℕ, ◌+◌, ◌<◌}
use mathlib.Core.Path.{◌≡◌, refl, sym}
use mathlib.Core.Bool.{true, ◌&&◌}
use mathlib.Core.List.{List}
use mathlib.Core.Logic.{◌↔◌}
use native.Mathlib.Omega.{arith}
use lib.Dec.{ltb}
use borrow.Author.Tests.{ltb-true, lt-ltb}
use Rattle.refusals.specs.Rules.{refused, replied}
use Rattle.refusals.proofs.Rules.{both_true, true_both}
use Rattle.week.specs.WeekList.{WeekList, list_keeps_lem}
use Rattle.week.specs.Store.{Store, Sized, Keeps, newest_of_lem, store_keeps, with_version, no_versions}
use Rattle.week.specs.Making.{last_version, change_answer, change_leaves, NewRefused, NewReplied, NewKeeps, ChangeBroken, ChangeRefused, ChangeReplied, ChangeNumbers, ChangeKeeps}
use Rattle.week.proofs.Answers.{only_two, is_refused, is_replied, plainly}
use Rattle.week.proofs.WeekList.{list_tested}
use Rattle.week.proofs.Stores.{store_tested, newest_is_greatest}
use Rattle.week.proofs.NextVersion.{up_to, no_versions_law, next_keeps}
use Rattle.week.proofs.Writing.{sized_after}

-- ---- Making

pub new_refused : NewRefused
new_refused masks = is_refused 40 1 (list_keeps_lem masks) (WeekList masks) (list_tested masks)

pub new_replied : NewReplied
new_replied masks = is_replied 40 1 (list_keeps_lem masks) (WeekList masks) (list_tested masks)

pub none_sized : Sized no_versions
none_sized = (refl, refl)

pub new_keeps : NewKeeps
new_keeps masks S version e =
    let (first, good) = (new_replied masks version).0 e in
    rw (e, first) (sized_after 1 masks no_versions none_sized good, next_keeps no_versions 0 none_sized no_versions_law masks good)

-- ---- Changing

module _ (S : Store) (sized : Sized S) (masks : List ℕ) where
  abbrev Next : ℕ → Type 0
  Next newest = WeekList masks × (newest < last_version)

  list_and_next : (newest : ℕ) → Keeps S newest → ((list_keeps_lem masks && ltb (newest_of_lem S) last_version) ≡ true) ↔ Next newest
  list_and_next newest kept =
      let is = newest_is_greatest S sized newest kept in (
        (λ e.
            let parts = true_both (list_keeps_lem masks) (ltb (newest_of_lem S) last_version) e in
            ((list_tested masks).0 parts.0, omega (arith, is, ltb-true (newest_of_lem S) last_version parts.1))),
        (λ (good, less). both_true ((list_tested masks).1 good) (lt-ltb (newest_of_lem S) last_version (omega (arith, is, less)))),
      )

  next : (newest : ℕ) → Keeps S newest → Next newest → (version : ℕ) → (newest_of_lem S + 1 ≡ version) ↔ (newest + 1 ≡ version)
  next newest kept fits version =
      let is = newest_is_greatest S sized newest kept in
      ((λ e. omega (arith, is, e)), (λ e. omega (arith, is, e)))

  plain : ((change_answer masks S ≡ refused 42) ↔ ((newest : ℕ) → Keeps S newest → ⊥))
      × ((change_answer masks S ≡ refused 40) ↔ ((newest : ℕ) × Keeps S newest × (Next newest → ⊥)))
      × ((version : ℕ) → (change_answer masks S ≡ replied version) ↔ ((newest : ℕ) × Keeps S newest × Next newest × (newest + 1 ≡ version)))
  plain =
      plainly 42 40 (newest_of_lem S + 1) (λ e. omega (arith, e)) (store_keeps S) (list_keeps_lem masks && ltb (newest_of_lem S) last_version) (Keeps S) Next
      (λ newest version. newest + 1 ≡ version) (store_tested S sized) list_and_next next

pub change_broken : ChangeBroken
change_broken S sized masks = (plain S sized masks).0

pub change_refused : ChangeRefused
change_refused S sized masks = (plain S sized masks).1

pub change_replied : ChangeReplied
change_replied S sized masks = (plain S sized masks).2

pub change_numbers : ChangeNumbers
change_numbers S masks = only_two 42 40 (newest_of_lem S + 1) (store_keeps S) (list_keeps_lem masks && ltb (newest_of_lem S) last_version)

-- What an accepted change leaves.
pub record Changed (S : Store) (masks : List ℕ) (version : ℕ) : Type 0 where
  pub newest : ℕ
  pub kept : Keeps S newest
  pub good : WeekList masks
  pub next_is : newest + 1 ≡ version
  pub leaves : change_leaves masks S ≡ with_version (newest + 1) masks S

pub changed_so : (S : Store) → Sized S → (masks : List ℕ) (version : ℕ) → change_answer masks S ≡ replied version → Changed S masks version
changed_so S sized masks version e =
    let (newest, kept, (good, less), is) = (change_replied S sized masks version).0 e in
    record { newest = newest; kept = kept; good = good; next_is = is; leaves = rw (e, newest_is_greatest S sized newest kept) refl }

pub change_keeps : ChangeKeeps
change_keeps S sized masks version e = go (changed_so S sized masks version e)
  where
    go : Changed S masks version → Sized (change_leaves masks S) × Keeps (change_leaves masks S) version
    go made =
        rw (made.leaves, sym made.next_is)
        (sized_after (made.newest + 1) masks S sized made.good, next_keeps S made.newest sized (up_to S made.newest made.kept) masks made.good)
