-- The masks of a list by days: how many masks have a day. Together they have a day where one of them has it; their ones are as many as those of all days
-- together, and they add up to so many for each day. So with all seven days there, the ones make 7, and the masks make 127, exactly where each day
-- stands in one mask.
use Prim.Native.Nat.{ℕ, zero, suc, ◌+◌, ◌*◌, ◌/◌, ◌%◌, ◌^◌, ◌≤◌, ◌<◌, min, max}
use mathlib.Core.Path.{◌≡◌, refl, sym, ap, ◌∙◌}
use mathlib.Core.List.{List, [], ◌∷◌}
use native.Mathlib.Nat.{mod-lt}
use native.Mathlib.Omega.{arith}
use lib.Dec.{eqb}
use lib.Bits.{bit_or, bit_and, or_shr, or_mod, or_lt, or_add_and, and_le_l, and_le_r}
use lib.Count.{ones}
use lib.ListN.{length, get_or}
use borrow.Author.Tests.{eqb-true}
use Rattle.week.specs.WeekList.{weekdays, all_days, bit, together, total}
use Rattle.week.specs.Store.{below}
use Rattle.week.proofs.Below.{below_at}

-- ---- Bits

pub bit_fits : (day mask : ℕ) → bit day mask ≤ 1
bit_fits day mask = omega (arith, mod-lt (mask / 2 ^ day) {m = 2} (omega arith))

either : (a b : ℕ) → a ≤ 1 → b ≤ 1 → bit_or a b ≡ max a b
either zero zero p q = refl
either zero (suc zero) p q = refl
either (suc zero) zero p q = refl
either (suc zero) (suc zero) p q = refl
either zero (suc (suc b)) p q = absurd (omega arith)
either (suc zero) (suc (suc b)) p q = absurd (omega arith)
either (suc (suc a)) b p q = absurd (omega arith)

or_bit : (day a b : ℕ) → bit day (bit_or a b) ≡ max (bit day a) (bit day b)
or_bit day a b = ap (λ (n : ℕ). n % 2) (or_shr a b day) ∙ or_mod (a / 2 ^ day) (b / 2 ^ day) 1 ∙ either (bit day a) (bit day b) (bit_fits day a) (bit_fits day b)

abbrev sum : (ℕ → ℕ) → ℕ
sum c = c 0 + c 1 + c 2 + c 3 + c 4 + c 5 + c 6

abbrev weighed : (ℕ → ℕ) → ℕ
weighed c = c 0 + 2 * c 1 + 4 * c 2 + 8 * c 3 + 16 * c 4 + 32 * c 5 + 64 * c 6

ones_are : (mask : ℕ) → mask ≤ all_days → ones mask ≡ sum (λ day. bit day mask)
unfolding ones below
ones_are mask fits = eqb-true _ _ (below_at 128 (λ m. eqb (ones m) (sum (λ day. bit day m))) refl mask (omega arith))

mask_is : (mask : ℕ) → mask ≤ all_days → mask ≡ weighed (λ day. bit day mask)
unfolding below
mask_is mask fits = eqb-true _ _ (below_at 128 (λ m. eqb m (weighed (λ day. bit day m))) refl mask (omega arith))

-- ---- Days

-- How many masks have the day.
abbrev pub column : ℕ → List ℕ → ℕ
column day [] = 0
column day (mask ∷ masks) = bit day mask + column day masks

-- Together with those before, the masks have a day where one of them has it.
has_day : (day before : ℕ) (masks : List ℕ) → bit day (together before masks) ≡ max (bit day before) (min 1 (column day masks))
unfolding together
has_day day before [] = none (bit day before)
  where
    none : (a : ℕ) → a ≡ max a (min 1 0)
    none a = omega arith
has_day day before (mask ∷ masks) =
    has_day day (bit_or before mask) masks ∙ rw (or_bit day before mask) (one (bit day before) (bit day mask) (column day masks) (bit_fits day mask))
  where
    one : (a b c : ℕ) → b ≤ 1 → max (max a b) (min 1 c) ≡ max a (min 1 (b + c))
    one a b c fits = omega arith

-- No mask has a day that they do not have together.
inside : (before : ℕ) (masks : List ℕ) → (before ≤ together before masks) × ((k : ℕ) → k < length masks → get_or masks k 0 ≤ together before masks)
unfolding together
inside before [] = (omega arith, λ k less. absurd (omega arith))
inside before (mask ∷ masks) =
    let rest = inside (bit_or before mask) masks in
    let both = or_add_and before mask in
    (omega (arith, rest.0, both, and_le_r before mask), each rest both)
  where
    each : (bit_or before mask ≤ together (bit_or before mask) masks) × ((k : ℕ) → k < length masks → get_or masks k 0 ≤ together (bit_or before mask) masks) →
        bit_or before mask + bit_and before mask ≡ before + mask → (k : ℕ) → k < suc (length masks) → get_or (mask ∷ masks) k 0 ≤ together (bit_or before mask) masks
    each rest both zero less = omega (arith, rest.0, both, and_le_l before mask)
    each rest both (suc k) less = rest.1 k (omega arith)

abbrev Fit : List ℕ → Type 0
Fit masks = (k : ℕ) → k < length masks → get_or masks k 0 ≤ all_days

pub all_fit : (masks : List ℕ) → together 0 masks ≡ all_days → Fit masks
all_fit masks all k less = omega (arith, (inside 0 masks).1 k less, all)

together_fits : (before : ℕ) (masks : List ℕ) → before ≤ all_days → Fit masks → together before masks ≤ all_days
unfolding together
together_fits before [] fits fit = fits
together_fits before (mask ∷ masks) fits fit =
    together_fits (bit_or before mask) masks (omega (arith, or_lt 7 before mask (omega arith) (omega (arith, fit 0 (omega arith))))) (λ k less. fit (suc k) (omega arith))

-- Their ones are those of all days, and they add up to so many for each day.
counted : (before : ℕ) (masks : List ℕ) → Fit masks → total ones before masks ≡ before + sum (λ day. column day masks)
unfolding total
counted before [] fit = omega arith
counted before (mask ∷ masks) fit =
    let rest = counted (before + ones mask) masks (λ k less. fit (suc k) (omega arith)) in
    omega (arith, rest, ones_are mask (fit 0 (omega arith)))

added : (before : ℕ) (masks : List ℕ) → Fit masks → total (λ mask. mask) before masks ≡ before + weighed (λ day. column day masks)
unfolding total
added before [] fit = omega arith
added before (mask ∷ masks) fit =
    let rest = added (before + mask) masks (λ k less. fit (suc k) (omega arith)) in
    omega (arith, rest, mask_is mask (fit 0 (omega arith)))

-- ---- Each day once

-- What holds of seven numbers holds of every weekday.
pub each_day : (P : ℕ → Type 0) → P 0 → P 1 → P 2 → P 3 → P 4 → P 5 → P 6 → (day : ℕ) → day < weekdays → P day
each_day P a b c d e f g zero less = a
each_day P a b c d e f g (suc zero) less = b
each_day P a b c d e f g (suc (suc zero)) less = c
each_day P a b c d e f g (suc (suc (suc zero))) less = d
each_day P a b c d e f g (suc (suc (suc (suc zero)))) less = e
each_day P a b c d e f g (suc (suc (suc (suc (suc zero))))) less = f
each_day P a b c d e f g (suc (suc (suc (suc (suc (suc zero)))))) less = g
each_day P a b c d e f g (suc (suc (suc (suc (suc (suc (suc day))))))) less = absurd (omega arith)

abbrev pub EachOnce : List ℕ → Type 0
EachOnce masks = (day : ℕ) → day < weekdays → column day masks ≡ 1

-- All seven days are there.
abbrev Covered : List ℕ → Type 0
Covered masks = (1 ≤ column 0 masks) × (1 ≤ column 1 masks) × (1 ≤ column 2 masks) × (1 ≤ column 3 masks) × (1 ≤ column 4 masks) × (1 ≤ column 5 masks) × (1 ≤ column 6 masks)

abbrev AllOnce : List ℕ → Type 0
AllOnce masks = (column 0 masks ≡ 1) × (column 1 masks ≡ 1) × (column 2 masks ≡ 1) × (column 3 masks ≡ 1) × (column 4 masks ≡ 1) × (column 5 masks ≡ 1) × (column 6 masks ≡ 1)

module _ (masks : List ℕ) where
  bits : (day : ℕ) → bit day 0 ≡ 0 → bit day (together 0 masks) ≡ min 1 (column day masks)
  bits day none = has_day day 0 masks ∙ rw none (omega arith)

  covered : together 0 masks ≡ all_days → Covered masks
  covered all = (seen 0 refl refl, seen 1 refl refl, seen 2 refl refl, seen 3 refl refl, seen 4 refl refl, seen 5 refl refl, seen 6 refl refl)
    where
      seen : (day : ℕ) → bit day 0 ≡ 0 → bit day all_days ≡ 1 → 1 ≤ column day masks
      seen day none set = let is : min 1 (column day masks) ≡ 1 = sym (bits day none) ∙ ap (bit day) all ∙ set in omega (arith, is)

  every_day : AllOnce masks → EachOnce masks
  every_day (a, b, c, d, e, f, g) = each_day (λ day. column day masks ≡ 1) a b c d e f g

  all_once : EachOnce masks → AllOnce masks
  all_once once =
      (once 0 (omega arith), once 1 (omega arith), once 2 (omega arith), once 3 (omega arith), once 4 (omega arith), once 5 (omega arith), once 6 (omega arith))

  pub by_ones : together 0 masks ≡ all_days → total ones 0 masks ≡ weekdays → EachOnce masks
  by_ones all make = every_day (omega (arith, covered all, counted 0 masks (all_fit masks all), make))

  pub by_sum : together 0 masks ≡ all_days → total (λ mask. mask) 0 masks ≡ all_days → EachOnce masks
  by_sum all make = every_day (omega (arith, covered all, added 0 masks (all_fit masks all), make))

  module _ (fit : Fit masks) (once : EachOnce masks) where
    pub once_together : together 0 masks ≡ all_days
    once_together =
        let whole = mask_is (together 0 masks) (together_fits 0 masks (omega arith) fit) in
        omega (
          arith,
          whole,
          seen 0 refl (omega arith),
          seen 1 refl (omega arith),
          seen 2 refl (omega arith),
          seen 3 refl (omega arith),
          seen 4 refl (omega arith),
          seen 5 refl (omega arith),
          seen 6 refl (omega arith),
        )
      where
        seen : (day : ℕ) → bit day 0 ≡ 0 → day < weekdays → bit day (together 0 masks) ≡ 1
        seen day none less = bits day none ∙ rw (once day less) refl

    pub once_ones : total ones 0 masks ≡ weekdays
    once_ones = omega (arith, counted 0 masks fit, all_once once)

    pub once_sum : total (λ mask. mask) 0 masks ≡ all_days
    once_sum = omega (arith, added 0 masks fit, all_once once)
