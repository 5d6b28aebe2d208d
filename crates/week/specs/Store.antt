-- Document 02, order 11: "A store of these lists starts at version 1 with the list given, and each accepted change brings a whole new list as the next
-- version. (..) The last 16 versions are kept, and space of older ones is used again." A store lies in two lent tables: 16 slots, each with a
-- version's number, or 0 where it is empty, and the seven masks of each.
use Rattle.std.specs.Prelude.{ℕ, zero, suc, ◌+◌, ◌-◌, ◌*◌, ◌%◌, ◌≤◌, ◌<◌, max, ◌≡◌, Bool, true, ◌&&◌, ◌||◌, cond, List, [], ◌∷◌, ◌++◌, ◌↔◌, leb, ltb, eqb, length, get_or, take, drop, set, replicate}
use Rattle.week.specs.WeekList.{weekdays, WeekList, list_keeps_lem}

pub record Store : Type 0 where
  pub versions : List ℕ
  pub lists : List ℕ

abbrev pub store : List ℕ → List ℕ → Store
store versions lists = record { versions = versions; lists = lists }

abbrev pub slots : ℕ
slots = 16

-- The tables have their size.
abbrev pub Sized : Store → Type 0
Sized S = (length S.versions ≡ slots) × (length S.lists ≡ slots * weekdays)

-- "Space of older ones is used again": version 1 stands in slot 0, 16 in slot 15, and 17 in slot 0 again.
abbrev pub slot_of_lem : ℕ → ℕ
slot_of_lem version = (version - 1) % slots

abbrev pub version_at : Store → ℕ → ℕ
version_at S slot = get_or S.versions slot 0

-- A mask before a list; a 0 before an empty one is left out.
abbrev pub with_first : ℕ → List ℕ → List ℕ
with_first zero [] = []
with_first (suc mask) [] = suc mask ∷ []
with_first mask (next ∷ masks) = mask ∷ next ∷ masks

-- A list without the zeros at its end.
unfoldable pub trimmed : List ℕ → List ℕ
trimmed [] = []
trimmed (mask ∷ masks) = with_first mask (trimmed masks)

-- The seven masks of a slot, and its list: these less the zeros at their end.
abbrev pub masks_in_lem : List ℕ → ℕ → List ℕ
masks_in_lem lists slot = take weekdays (drop (slot * weekdays) lists)

abbrev pub list_in_lem : List ℕ → ℕ → List ℕ
list_in_lem lists slot = trimmed (masks_in_lem lists slot)

abbrev pub list_at : Store → ℕ → List ℕ
list_at S slot = list_in_lem S.lists slot

-- ---- A good store

-- "The consecutive last ones, 16 or as many as were made."
abbrev pub Kept : ℕ → ℕ → Type 0
Kept newest version = (1 ≤ version) × (version ≤ newest) × (newest < version + slots)

-- The store holds the versions up to the newest: each that is kept stands in its slot with a list that keeps the rules, and every other slot is empty, its masks
-- not looked at. A version that stands in another's slot is none of these.
pub record Keeps (S : Store) (newest : ℕ) : Type 0 where
  pub some : 1 ≤ newest
  pub each : (version : ℕ) → Kept newest version → version_at S (slot_of_lem version) ≡ version
  pub lists : (version : ℕ) → Kept newest version → WeekList (list_at S (slot_of_lem version))
  pub no_other : (slot : ℕ) → slot < slots → 1 ≤ version_at S slot → Kept newest (version_at S slot) × (slot_of_lem (version_at S slot) ≡ slot)

-- ---- The test

unfoldable pub greatest : List ℕ → ℕ
greatest [] = 0
greatest (version ∷ versions) = max version (greatest versions)

abbrev pub newest_of_lem : Store → ℕ
newest_of_lem S = greatest S.versions

-- The last version up to the newest whose slot this is, or 0 where no version has come to this slot yet.
abbrev pub last_in_lem : ℕ → ℕ → ℕ
last_in_lem newest slot = cond (ltb slot newest) (newest - (newest - 1 - slot) % slots) 0

abbrev pub slot_keeps : Store → ℕ → Bool
slot_keeps S slot = eqb (version_at S slot) (last_in_lem (newest_of_lem S) slot) && (eqb (version_at S slot) 0 || list_keeps_lem (list_at S slot))

-- The test holds at every number below the bound.
unfoldable pub below : ℕ → (ℕ → Bool) → Bool
below zero test = true
below (suc n) test = below n test && test n

abbrev pub store_keeps : Store → Bool
store_keeps S = ltb 0 (newest_of_lem S) && below slots (slot_keeps S)

abbrev pub kept : ℕ → ℕ → Bool
kept newest version = ltb 0 version && leb version newest && ltb newest (version + slots)

-- ---- What is written

-- The seven masks of a list: its own, and zeros behind them.
abbrev pub row : List ℕ → List ℕ
row masks = masks ++ replicate (weekdays - length masks) 0

abbrev pub with_list : ℕ → List ℕ → List ℕ → List ℕ
with_list slot masks lists = take (slot * weekdays) lists ++ row masks ++ drop (slot * weekdays + weekdays) lists

-- The store with a version in its slot; all other slots stay.
abbrev pub with_version : ℕ → List ℕ → Store → Store
with_version version masks S = store (set S.versions (slot_of_lem version) version) (with_list (slot_of_lem version) masks S.lists)

abbrev pub no_versions : Store
no_versions = store (replicate slots 0) (replicate (slots * weekdays) 0)

-- ---- What is proved of them

-- The test takes good stores, and no other, whatever the tables hold.
abbrev pub StoreTested : Type 0
StoreTested = (S : Store) → Sized S → (store_keeps S ≡ true) ↔ ((newest : ℕ) × Keeps S newest)

abbrev pub KeptTested : Type 0
KeptTested = (newest version : ℕ) → (kept newest version ≡ true) ↔ Kept newest version

-- The newest version is the greatest number in the slots.
abbrev pub NewestIsGreatest : Type 0
NewestIsGreatest = (S : Store) → Sized S → (newest : ℕ) → Keeps S newest → newest_of_lem S ≡ newest

-- A version is put into its slot, and no number of any other slot is touched.
abbrev pub OwnSlotAlone : Type 0
OwnSlotAlone = (S : Store) → Sized S → (version : ℕ) (masks : List ℕ) → length masks ≤ weekdays →
    let after = with_version version masks S in
    (version_at after (slot_of_lem version) ≡ version)
    × (masks_in_lem after.lists (slot_of_lem version) ≡ row masks)
    × ((slot : ℕ) → (slot ≡ slot_of_lem version → ⊥) → (version_at after slot ≡ version_at S slot) × (masks_in_lem after.lists slot ≡ masks_in_lem S.lists slot))
