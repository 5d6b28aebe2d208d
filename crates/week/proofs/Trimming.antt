-- The masks of a slot without the zeros at their end, looked for from behind, and a list written with zeros behind it.
use Prim.Native.Nat.{ℕ, zero, suc, ◌+◌, ◌-◌, ◌*◌, ◌≤◌, ◌<◌}
use mathlib.Core.Path.{◌≡◌, refl, sym, ap, ◌∙◌}
use mathlib.Core.List.{List, [], ◌∷◌, ◌++◌}
use native.Mathlib.Numerals.{add-one}
use native.Mathlib.Omega.{arith}
use lib.ListN.{length, get_or, set, take, drop, replicate, length-append, length-replicate, length-take}
use lib.Seq.{take-suc, take-suc-set, take-length}
use Rattle.week.specs.WeekList.{weekdays}
use Rattle.week.specs.Store.{with_first, trimmed, masks_in_lem, list_in_lem, row}

zero_off : (masks : List ℕ) → trimmed (masks ++ 0 ∷ []) ≡ trimmed masks
unfolding trimmed
zero_off [] = refl
zero_off (mask ∷ masks) = ap (with_first mask) (zero_off masks)

ahead : (mask next : ℕ) (masks : List ℕ) → with_first mask (masks ++ suc next ∷ []) ≡ mask ∷ masks ++ suc next ∷ []
ahead zero next [] = refl
ahead zero next (m ∷ masks) = refl
ahead (suc mask) next [] = refl
ahead (suc mask) next (m ∷ masks) = refl

none_off : (masks : List ℕ) (last : ℕ) → (last ≡ 0 → ⊥) → trimmed (masks ++ last ∷ []) ≡ masks ++ last ∷ []
unfolding trimmed
none_off masks zero not_0 = absurd (not_0 refl)
none_off [] (suc last) not_0 = refl
none_off (mask ∷ masks) (suc last) not_0 = rw (none_off masks (suc last) not_0) (ahead mask last masks)

-- ---- From behind

-- The masks behind these are zeros.
abbrev pub Left : List ℕ → ℕ → Type 0
Left masks count = (count ≤ length masks) × (trimmed (take count masks) ≡ trimmed masks)

pub all_left : (masks : List ℕ) → Left masks (length masks)
all_left masks = (omega arith, ap trimmed (take-length masks))

module _ (masks : List ℕ) where
  one_off : (count : ℕ) → 0 < count → Left masks count → get_or masks (count - 1) 0 ≡ 0 → Left masks (count - 1)
  one_off zero some left is = absurd (omega arith)
  one_off (suc count) some left is =
      let before : suc count - 1 ≡ count = omega arith in
      let last : get_or masks count 0 ≡ 0 = rw⁻¹ before is in
      rw before (omega (arith, left.0), sym (rw (take-suc masks count 0 left.0, last) (zero_off (take count masks))) ∙ left.1)

  down : (place rest count : ℕ) → rest + place ≡ count → Left masks count → ((k : ℕ) → place ≤ k → k < count → get_or masks k 0 ≡ 0) → Left masks place
  down place zero count is left zeros = let same : place ≡ count = omega (arith, is) in rw same left
  down place (suc rest) count is left zeros =
      down place rest (count - 1) (omega (arith, is)) (one_off count (omega (arith, is)) left (zeros (count - 1) (omega (arith, is)) (omega (arith, is))))
      (λ k first less. zeros k first (omega (arith, less)))

  -- All that is behind is 0.
  pub zeros_left : (place : ℕ) → place ≤ length masks → ((k : ℕ) → place ≤ k → k < length masks → get_or masks k 0 ≡ 0) → Left masks place
  zeros_left place inside zeros = down place (length masks - place) (length masks) (omega (arith, inside)) (all_left masks) zeros

  pub last_is : (last : ℕ) → last < length masks → (get_or masks last 0 ≡ 0 → ⊥) → ((k : ℕ) → last < k → k < length masks → get_or masks k 0 ≡ 0) →
      take (last + 1) masks ≡ trimmed masks
  last_is last inside not_0 zeros =
      rw (add-one last)
      (sym (rw (take-suc masks last 0 inside) (none_off (take last masks) (get_or masks last 0) not_0))
      ∙ (zeros_left (suc last) (omega (arith, inside)) (λ k first. zeros k (omega (arith, first)))).1)

  pub none_is : ((k : ℕ) → k < length masks → get_or masks k 0 ≡ 0) → [] ≡ trimmed masks
  unfolding trimmed
  none_is zeros = (zeros_left 0 (omega arith) (λ k first. zeros k)).1

-- ---- With zeros behind

abbrev zeros : ℕ → List ℕ
zeros n = replicate n 0

pub row_length : (masks : List ℕ) → length masks ≤ weekdays → length (row masks) ≡ weekdays
row_length masks few =
    let rest = weekdays - length masks in
    length-append masks (zeros rest) ∙ rw (length-replicate {A = ℕ} rest 0) (omega (arith, few))

zeros_at : (n place : ℕ) → get_or (zeros n) place 0 ≡ 0
zeros_at zero place = refl
zeros_at (suc n) zero = refl
zeros_at (suc n) (suc place) = zeros_at n place

behind : (n : ℕ) (masks : List ℕ) (place : ℕ) → get_or (masks ++ zeros n) place 0 ≡ get_or masks place 0
behind n [] place = zeros_at n place
behind n (mask ∷ masks) zero = refl
behind n (mask ∷ masks) (suc place) = behind n masks place

pub row_at : (masks : List ℕ) (place : ℕ) → get_or (row masks) place 0 ≡ get_or masks place 0
row_at masks place = behind (weekdays - length masks) masks place

-- One place more of a row is written.
pub one_written : (masks written : List ℕ) (place : ℕ) → length masks ≤ weekdays → length written ≡ weekdays → place < weekdays →
    take place written ≡ take place (row masks) → take (place + 1) (set written place (get_or masks place 0)) ≡ take (place + 1) (row masks)
one_written masks written place few long less so_far =
    let room : place < length (row masks) = omega (arith, row_length masks few, less) in
    rw (add-one place, take-suc-set written place (get_or masks place 0) (omega (arith, long, less)), take-suc (row masks) place 0 room, so_far, row_at masks place) refl

-- ---- A stored list

first_length : (mask : ℕ) (masks : List ℕ) → length (with_first mask masks) ≤ suc (length masks)
first_length zero [] = omega arith
first_length zero (next ∷ masks) = omega arith
first_length (suc mask) [] = omega arith
first_length (suc mask) (next ∷ masks) = omega arith

trimmed_length : (masks : List ℕ) → length (trimmed masks) ≤ length masks
unfolding trimmed
trimmed_length [] = omega arith
trimmed_length (mask ∷ masks) = omega (arith, first_length mask (trimmed masks), trimmed_length masks)

pub masks_short : (lists : List ℕ) (slot : ℕ) → length (masks_in_lem lists slot) ≤ weekdays
masks_short lists slot = omega (arith, length-take weekdays (drop (slot * weekdays) lists))

pub list_short : (lists : List ℕ) (slot : ℕ) → length (list_in_lem lists slot) ≤ weekdays
list_short lists slot = omega (arith, trimmed_length (masks_in_lem lists slot), masks_short lists slot)

zeros_off : (n : ℕ) (masks : List ℕ) → trimmed (masks ++ zeros n) ≡ trimmed masks
unfolding trimmed
zeros_off n (mask ∷ masks) = ap (with_first mask) (zeros_off n masks)
zeros_off zero [] = refl
zeros_off (suc n) [] = rw (zeros_off n []) refl

pub none_zero : (masks : List ℕ) → ((k : ℕ) → k < length masks → 1 ≤ get_or masks k 0) → trimmed masks ≡ masks
unfolding trimmed
none_zero [] some = refl
none_zero (zero ∷ masks) some = absurd (omega (arith, some 0 (omega arith)))
none_zero (suc mask ∷ masks) some = rw (none_zero masks (λ k less. some (suc k) (omega arith))) (first mask masks)
  where
    first : (mask : ℕ) (masks : List ℕ) → with_first (suc mask) masks ≡ suc mask ∷ masks
    first mask [] = refl
    first mask (next ∷ masks) = refl

-- A list without a mask of 0 is read back as it was written.
pub row_trimmed : (masks : List ℕ) → ((k : ℕ) → k < length masks → 1 ≤ get_or masks k 0) → trimmed (row masks) ≡ masks
row_trimmed masks some = zeros_off (weekdays - length masks) masks ∙ none_zero masks some
