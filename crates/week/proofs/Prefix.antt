-- Masks looked at from the front: up to the first 0 they are the list, if no mask stands behind it; and if one does, the list has a mask of 0, and
-- all seven make more than those before the 0, which make 127 if they have all days.
use Prim.Native.Nat.{ℕ, zero, suc, ◌+◌, ◌-◌, ◌≤◌, ◌<◌}
use mathlib.Core.Path.{◌≡◌, refl, sym, ap, ◌∙◌}
use mathlib.Core.Bool.{true, false, ◌&&◌}
use mathlib.Core.List.{List, [], ◌∷◌, ◌++◌}
use mathlib.Core.Logic.{by_cases}
use native.Mathlib.Decide.{ℕ_discrete}
use native.Mathlib.Numerals.{add-one}
use native.Mathlib.Omega.{arith}
use lib.Dec.{eqb, ltb}
use lib.Bits.{bit_or, or_add_and}
use lib.ListN.{length, get_or, take, drop, length-drop, take-append-drop}
use lib.Seq.{get_or-take, get_or-drop, length-take-le, take-suc}
use borrow.Author.Tests.{lt-ltb, eq-eqb, ne_eqb}
use Rattle.std.specs.List.{fold, sum as list_sum}
use Rattle.refusals.proofs.Rules.{at_every}
use Rattle.week.specs.WeekList.{weekdays, all_days, together, total, list_keeps_lem}
use Rattle.week.specs.Store.{with_first, trimmed}
use Rattle.week.proofs.ListTest.{refuted, days_missing, adds_up}
use Rattle.week.proofs.WeekList.{list_tested}
use Rattle.week.proofs.Trimming.{zeros_left, none_zero}

-- ---- One mask more

together_last : (before : ℕ) (masks : List ℕ) (mask : ℕ) → together before (masks ++ mask ∷ []) ≡ bit_or (together before masks) mask
unfolding together
together_last before [] mask = refl
together_last before (m ∷ masks) mask = together_last (bit_or before m) masks mask

-- ---- Sums

shifted : (before : ℕ) (masks : List ℕ) → total (λ mask. mask) before masks ≡ before + total (λ mask. mask) 0 masks
unfolding total
shifted before [] = omega arith
shifted before (mask ∷ masks) = omega (arith, shifted (before + mask) masks, shifted (0 + mask) masks)

total_append : (masks more : List ℕ) → total (λ mask. mask) 0 (masks ++ more) ≡ total (λ mask. mask) 0 masks + total (λ mask. mask) 0 more
unfolding total
total_append [] more = omega arith
total_append (mask ∷ masks) more = omega (arith, shifted (0 + mask) (masks ++ more), total_append masks more, shifted (0 + mask) masks)

sum_none : (masks : List ℕ) → total (λ mask. mask) 0 masks ≡ 0 → (k : ℕ) → k < length masks → get_or masks k 0 ≡ 0
unfolding total
sum_none [] none k less = refl
sum_none (mask ∷ masks) none zero less = omega (arith, none, shifted (0 + mask) masks)
sum_none (mask ∷ masks) none (suc k) less = sum_none masks (omega (arith, none, shifted (0 + mask) masks)) k (omega arith)

sum_some : (masks : List ℕ) → (total (λ mask. mask) 0 masks ≡ 0 → ⊥) → (k : ℕ) × (k < length masks) × (get_or masks k 0 ≡ 0 → ⊥)
unfolding total
sum_some [] some = absurd (some refl)
sum_some (mask ∷ masks) some =
    by_cases (ℕ_discrete mask 0)
    (λ none. let (k, less, not_0) = sum_some masks (λ rest. some (omega (arith, none, rest, shifted (0 + mask) masks))) in (suc k, omega (arith, less), not_0))
    (λ here. (0, omega arith, here))

-- The masks added up from 0 are the library's sum.
folded : (before : ℕ) (masks : List ℕ) → fold (λ sum mask. sum + mask) before masks ≡ total (λ mask. mask) before masks
unfolding total
folded before [] = refl
folded before (mask ∷ masks) = folded (before + mask) masks

pub sum_total : (masks : List ℕ) → list_sum masks ≡ total (λ mask. mask) 0 masks
sum_total masks = folded 0 masks

-- Together masks have no more than they make.
no_more_days : (days before : ℕ) (masks : List ℕ) → days ≤ before → together days masks ≤ total (λ mask. mask) before masks
unfolding together total
no_more_days days before [] less = less
no_more_days days before (mask ∷ masks) less = no_more_days (bit_or days mask) (before + mask) masks (omega (arith, or_add_and days mask, less))

-- The masks before the place are not 0, and have these days together.
pub record Prefix (masks : List ℕ) (days place : ℕ) : Type 0 where
  pub inside : place ≤ length masks
  pub not_0 : (k : ℕ) → k < place → 1 ≤ get_or masks k 0
  pub days_are : together 0 (take place masks) ≡ days

abbrev sum : List ℕ → ℕ
sum masks = total (λ mask. mask) 0 masks

-- ---- A mask behind a 0

stays_first : (mask k : ℕ) (masks : List ℕ) → k < length masks → with_first mask masks ≡ mask ∷ masks
stays_first mask k [] less = absurd (omega arith)
stays_first zero k (next ∷ masks) less = refl
stays_first (suc mask) k (next ∷ masks) less = refl

up_to_it : (masks : List ℕ) (k : ℕ) → k < length masks → (get_or masks k 0 ≡ 0 → ⊥) →
    (k < length (trimmed masks)) × ((j : ℕ) → j ≤ k → get_or (trimmed masks) j 0 ≡ get_or masks j 0)
unfolding trimmed
up_to_it [] k less some = absurd (omega arith)
up_to_it (zero ∷ masks) zero less some = absurd (some refl)
up_to_it (suc mask ∷ masks) zero less some = here (trimmed masks)
  where
    here : (rest : List ℕ) → (0 < length (with_first (suc mask) rest)) × ((j : ℕ) → j ≤ 0 → get_or (with_first (suc mask) rest) j 0 ≡ get_or (suc mask ∷ masks) j 0)
    here [] = (omega arith, first)
      where
        first : (j : ℕ) → j ≤ 0 → get_or (suc mask ∷ []) j 0 ≡ get_or (suc mask ∷ masks) j 0
        first zero none = refl
        first (suc j) none = absurd (omega arith)
    here (next ∷ rest) = (omega arith, first)
      where
        first : (j : ℕ) → j ≤ 0 → get_or (suc mask ∷ next ∷ rest) j 0 ≡ get_or (suc mask ∷ masks) j 0
        first zero none = refl
        first (suc j) none = absurd (omega arith)
up_to_it (mask ∷ masks) (suc k) less some =
    let rest = up_to_it masks k (omega arith) some in
    rw (stays_first mask k (trimmed masks) rest.0) (omega (arith, rest.0), behind rest.1)
  where
    behind : ((j : ℕ) → j ≤ k → get_or (trimmed masks) j 0 ≡ get_or masks j 0) → (j : ℕ) → j ≤ suc k → get_or (mask ∷ trimmed masks) j 0 ≡ get_or (mask ∷ masks) j 0
    behind same zero low = refl
    behind same (suc j) low = same j (omega arith)

zero_inside : (masks : List ℕ) (place : ℕ) → get_or masks place 0 ≡ 0 → (k : ℕ) → place ≤ k → k < length masks → (get_or masks k 0 ≡ 0 → ⊥) →
    list_keeps_lem (trimmed masks) ≡ false
zero_inside masks place empty k first less some =
    refuted (list_keeps_lem (trimmed masks)) (λ keep.
    let found = up_to_it masks k less some in
    let positive = ((list_tested (trimmed masks)).0 keep).not_0 place (omega (arith, first, found.0)) in
    let is : get_or (trimmed masks) place 0 ≡ 0 = found.1 place first ∙ empty in
    omega (arith, positive, is))

-- ---- From the front

module _ (masks : List ℕ) where
  pub empty : Prefix masks 0 0
  unfolding together
  empty = record { inside = omega arith; not_0 = λ k less. absurd (omega arith); days_are = refl }

  module _ {days place : ℕ} (so_far : Prefix masks days place) where
    pub longer : place < length masks → (get_or masks place 0 ≡ 0 → ⊥) → Prefix masks (bit_or days (get_or masks place 0)) (place + 1)
    longer less some =
        record {
          inside = omega (arith, less);
          not_0 = λ k less'. by_cases (ℕ_discrete k place) (λ same. rw same (omega (arith, some))) (λ other. so_far.not_0 k (omega (arith, less', other)));
          days_are = rw (add-one place, take-suc masks place 0 less) (together_last 0 (take place masks) (get_or masks place 0) ∙ rw so_far.days_are refl);
        }

    long : length (take place masks) ≡ place
    long = length-take-le place masks so_far.inside

    each : (k : ℕ) → k < length (take place masks) → 1 ≤ get_or (take place masks) k 0
    each k less = let less' : k < place = omega (arith, less, long) in rw (get_or-take place masks k 0 less') (so_far.not_0 k less')

    is_list : ((k : ℕ) → place ≤ k → k < length masks → get_or masks k 0 ≡ 0) → trimmed masks ≡ take place masks
    is_list zeros = sym (zeros_left masks place so_far.inside zeros).1 ∙ none_zero (take place masks) each

    by_prefix : length masks ≤ weekdays → trimmed masks ≡ take place masks → (eqb days all_days && eqb (sum (take place masks)) all_days) ≡ list_keeps_lem (trimmed masks)
    by_prefix few is =
        rw is
        (by_cases (ℕ_discrete days all_days)
        (λ all. rw (eq-eqb days all_days all)
        (adds_up (take place masks) (omega (arith, long, so_far.inside, few)) (at_every (ltb 0) 0 (take place masks) positive_each, so_far.days_are, refl) all))
        (λ other. rw (ne_eqb days all_days other) (sym (days_missing (take place masks) so_far.days_are other))))
      where
        positive_each : (k : ℕ) → k < length (take place masks) → ltb 0 (get_or (take place masks) k 0) ≡ true
        positive_each k less = lt-ltb 0 (get_or (take place masks) k 0) (each k less)

    -- What stands behind the masks.
    abbrev rest : List ℕ
    rest = drop place masks

    all_make : sum masks ≡ sum (take place masks) + sum rest
    all_make = ap sum (sym (take-append-drop place masks)) ∙ total_append (take place masks) rest

    rest_long : length rest ≡ length masks - place
    rest_long = length-drop place masks

    pub decides : length masks ≤ weekdays → (place < length masks → get_or masks place 0 ≡ 0) → (eqb days all_days && eqb (sum masks) all_days) ≡ list_keeps_lem (trimmed masks)
    decides few zero-here = by_cases (ℕ_discrete (sum rest) 0) none_behind some_behind
      where
        zeros : sum rest ≡ 0 → (k : ℕ) → place ≤ k → k < length masks → get_or masks k 0 ≡ 0
        zeros none k first less =
            let there : place + (k - place) ≡ k = omega (arith, first) in
            ap (λ n. get_or masks n 0) (sym there) ∙ sym (get_or-drop place masks (k - place) 0) ∙ sum_none rest none (k - place) (omega (arith, rest_long, first, less))

        none_behind : sum rest ≡ 0 → (eqb days all_days && eqb (sum masks) all_days) ≡ list_keeps_lem (trimmed masks)
        none_behind none =
            let same : sum masks ≡ sum (take place masks) = all_make ∙ omega (arith, none) in
            rw same (by_prefix few (is_list (zeros none)))

        too_many : (sum rest ≡ 0 → ⊥) → (eqb days all_days && eqb (sum masks) all_days) ≡ false
        too_many some =
            by_cases (ℕ_discrete days all_days)
            (λ all. rw (
              eq-eqb days all_days all,
              ne_eqb (sum masks) all_days (λ make. some (omega (arith, make, all_make, no_more_days 0 0 (take place masks) (omega arith), so_far.days_are, all))),
            ) refl)
            (λ other. rw (ne_eqb days all_days other) refl)

        some_behind : (sum rest ≡ 0 → ⊥) → (eqb days all_days && eqb (sum masks) all_days) ≡ list_keeps_lem (trimmed masks)
        some_behind some =
            let (k, less, not_0) = sum_some rest some in
            let before : place + k < length masks = omega (arith, less, rest_long) in
            let breaks = zero_inside masks place (zero-here (omega (arith, before))) (place + k) (omega arith) before (λ none. not_0 (get_or-drop place masks k 0 ∙ none)) in
            too_many some ∙ sym breaks
