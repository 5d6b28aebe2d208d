-- Document 02, order 11: "A town keeps 1 to 7 plans. Each has a mask of seven bits, bit 0 for Monday, not 0 and at most 127. Every weekday stands in
-- exactly one mask, so the ones counted over all masks make 7." In plain words, and as the test that a call makes.
use Rattle.std.specs.Prelude.{ℕ, suc, ◌+◌, ◌/◌, ◌%◌, ◌^◌, ◌≤◌, ◌<◌, ◌≡◌, Bool, true, ◌&&◌, cond, List, [], ◌∷◌, ◌↔◌, leb, ltb, eqb, length, get_or}
use Rattle.std.specs.Int.Bits.{bit_or}
use Rattle.std.specs.Int.Count.{ones}
use Rattle.refusals.specs.Rules.{every}

-- The days of the week, Monday being 0, and a mask that has them all.
abbrev pub weekdays : ℕ
weekdays = 7

abbrev pub all_days : ℕ
all_days = 127

-- A day's bit of a mask, 0 or 1.
abbrev pub bit : ℕ → ℕ → ℕ
bit day mask = mask / 2 ^ day % 2

-- The mask at this place of the list has the day, and no other mask has it.
abbrev pub OnlyPlace : ℕ → List ℕ → ℕ → Type 0
OnlyPlace day masks place =
    (place < length masks) × (bit day (get_or masks place 0) ≡ 1) × ((other : ℕ) → other < length masks → bit day (get_or masks other 0) ≡ 1 → other ≡ place)

-- A list that keeps these rules.
pub record WeekList (masks : List ℕ) : Type 0 where
  pub some : 1 ≤ length masks
  pub few : length masks ≤ weekdays
  pub not_0 : (place : ℕ) → place < length masks → 1 ≤ get_or masks place 0
  pub fits : (place : ℕ) → place < length masks → get_or masks place 0 ≤ all_days
  pub each_day : (day : ℕ) → day < weekdays → (place : ℕ) × OnlyPlace day masks place

-- ---- The test

abbrev pub mask_keeps : ℕ → Bool
mask_keeps mask = ltb 0 mask && leb mask all_days

-- The days that stand in one mask or more: those of the list, and those before it.
unfoldable pub together : ℕ → List ℕ → ℕ
together before [] = before
together before (mask ∷ masks) = together (bit_or before mask) masks

-- A number for each mask, added up: those of the list, and what was added before.
unfoldable pub total : (ℕ → ℕ) → ℕ → List ℕ → ℕ
total number before [] = before
total number before (mask ∷ masks) = total number (before + number mask) masks

-- "The ones counted over all masks make 7", and together the masks have all seven days.
abbrev pub list_keeps_lem : List ℕ → Bool
list_keeps_lem masks = ltb 0 (length masks) && leb (length masks) weekdays && every mask_keeps masks && eqb (together 0 masks) all_days && eqb (total ones 0 masks) weekdays

-- The first place whose mask has the day, or the number of masks where none has it.
unfoldable pub place_of_lem : ℕ → List ℕ → ℕ
place_of_lem day [] = 0
place_of_lem day (mask ∷ masks) = cond (eqb (bit day mask) 1) 0 (suc (place_of_lem day masks))

-- ---- What is proved of them

-- The test takes the lists that keep the rules, and no other.
abbrev pub ListTested : Type 0
ListTested = (masks : List ℕ) → (list_keeps_lem masks ≡ true) ↔ WeekList masks

-- In such a list the first place that has the day is the only one.
abbrev pub PlaceIsOnly : Type 0
PlaceIsOnly = (masks : List ℕ) → WeekList masks → (day : ℕ) → day < weekdays → OnlyPlace day masks (place_of_lem day masks)
