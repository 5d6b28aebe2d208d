-- What the code finds of a list, mask by mask, and the test: of a given list its ones are counted, and the masks of a stored one are added up.
use Prim.Native.Nat.{ℕ, ◌≤◌, ◌<◌}
use mathlib.Core.Path.{◌≡◌, refl, sym, ◌∙◌}
use mathlib.Core.Bool.{Bool, true, false, ◌&&◌}
use mathlib.Core.List.{List}
use mathlib.Core.Logic.{by_cases}
use native.Mathlib.Decide.{ℕ_discrete}
use native.Mathlib.Omega.{arith}
use lib.Dec.{ltb, eqb}
use lib.Count.{ones, ones-le}
use lib.ListN.{length, get_or}
use borrow.Author.Tests.{lt-ltb, le-leb, eq-eqb, ne_eqb}
use Rattle.refusals.specs.Rules.{every}
use Rattle.refusals.proofs.Rules.{both_true, every_at, at_every}
use Rattle.week.specs.WeekList.{weekdays, all_days, WeekList, mask_keeps, together, total, list_keeps_lem}
use Rattle.week.proofs.Columns.{EachOnce, all_fit, by_sum, once_together, once_sum}
use Rattle.week.proofs.WeekList.{once_only, list_tested, each_once, from_once}

pub refuted : (a : Bool) → (a ≡ true → ⊥) → a ≡ false
refuted true not = absurd (not refl)
refuted false not = refl

-- ---- A mask

pub mask_keeps_law : (mask : ℕ) → (mask ≡ 0 → ⊥) → mask ≤ all_days → mask_keeps mask ≡ true
mask_keeps_law mask not_0 fits = both_true (lt-ltb 0 mask (omega (arith, not_0))) (le-leb mask all_days fits)

pub few_ones : (mask : ℕ) → mask ≤ all_days → ones mask ≤ weekdays
few_ones mask fits = ones-le weekdays mask (omega arith)

-- ---- A given list

module _ (masks : List ℕ) where
  pub two_tests_left : {days sum : ℕ} → 1 ≤ length masks → length masks ≤ weekdays →
      (every mask_keeps masks ≡ true) × (together 0 masks ≡ days) × (total ones 0 masks ≡ sum) → list_keeps_lem masks ≡ (eqb days all_days && eqb sum weekdays)
  two_tests_left some few (keep, days, sum) = rw (lt-ltb 0 (length masks) some, le-leb (length masks) weekdays few, keep, days, sum) refl

  -- ---- A stored list

  kept : list_keeps_lem masks ≡ true → WeekList masks
  kept = (list_tested masks).0

  pub days_missing : {days : ℕ} → together 0 masks ≡ days → (days ≡ all_days → ⊥) → list_keeps_lem masks ≡ false
  days_missing is missing = refuted (list_keeps_lem masks) (λ keep. missing (sym is ∙ once_together masks (kept keep).fits (each_once masks (kept keep))))

  pub adds_up : {days sum : ℕ} → length masks ≤ weekdays → (every (ltb 0) masks ≡ true) × (together 0 masks ≡ days) × (total (λ mask. mask) 0 masks ≡ sum) → days ≡ all_days →
      eqb sum all_days ≡ list_keeps_lem masks
  adds_up {days} {sum} few (some, days_are, sum_is_lem) all =
      by_cases (ℕ_discrete sum all_days)
      (λ make. eq-eqb sum all_days make ∙ sym ((list_tested masks).1 (good (by_sum masks whole (sum_is_lem ∙ make)))))
      (λ other. ne_eqb sum all_days other ∙ sym (refuted (list_keeps_lem masks) (λ keep. other (sym sum_is_lem ∙ once_sum masks (kept keep).fits (each_once masks (kept keep))))))
    where
      whole : together 0 masks ≡ all_days
      whole = days_are ∙ all

      at : (place : ℕ) → place < length masks → mask_keeps (get_or masks place 0) ≡ true
      at place less = both_true (every_at (ltb 0) 0 masks some place less) (le-leb (get_or masks place 0) all_days (all_fit masks whole place less))

      good : EachOnce masks → WeekList masks
      good once = from_once masks (omega (arith, (once_only 0 masks (once 0 (omega arith))).0)) few (at_every mask_keeps 0 masks at) once
