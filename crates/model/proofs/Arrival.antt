-- The laws of the arrival. The search keeps that no tick before it covered the spans, so it ends in `IsArrival`; two such
-- numbers are equal; and the laws are read off `IsArrival`: who leaves later or is slower has covered no more by the same tick.
use Prim.Native.Nat.{ℕ, zero, suc, ◌+◌, ◌-◌, ◌≤◌, ◌<◌}
use mathlib.Core.Path.{◌≡◌, refl, sym, subst}
use mathlib.Core.Logic.{◌⊎◌, inl, inr, ⊎_elim}
use native.Mathlib.Nat.{le_refl, le_antisymm, eq-or-lt_of_le}
use native.Mathlib.Omega.{arith}
use Rattle.model.specs.Ticks.{last, never}
use Rattle.model.specs.Flow.{covered, first_tick, arrival, IsArrival, ArrivalIsLeast, ArrivalIsLater, ArrivalIsMonotone, NonPassing}
use Rattle.model.proofs.Tests.{leb_cases}
use Rattle.model.proofs.Covered.{covered_earlier}

-- What holds before n and at n holds before the next.
one_more : {P : ℕ → Type 0} (n : ℕ) → ((m : ℕ) → m < n → P m) → P n → (m : ℕ) → m < suc n → P m
one_more n before here m h = ⊎_elim (λ q. let same : m ≡ n = omega arith in rw same here) (λ l. before m (omega arith)) (eq-or-lt_of_le h)

first_is : (v : ℕ → ℕ) (spans s n k : ℕ) → n + k ≡ suc last - s → ((m : ℕ) → m < n → covered v s m < spans) → IsArrival v spans s (first_tick v spans s n k)
unfolding first_tick
first_is v spans s n zero e before = IsArrival.none (λ m h. before m (omega arith))
first_is v spans s n (suc k) e before =
    ⊎_elim
    (λ w. rw w.0 (IsArrival.attained n (omega arith) w.1 before))
    (λ w. rw w.0 (first_is v spans s (suc n) k (omega arith) (one_more n before w.1)))
    (leb_cases spans (covered v s n))

pub arrival_is : (v : ℕ → ℕ) (spans s : ℕ) → IsArrival v spans s (arrival v spans s)
unfolding arrival
arrival_is v spans s = first_is v spans s 0 (suc last - s) (omega arith) (λ m h. absurd (omega arith))

-- What one search misses up to the last tick, another that is better placed covers.
module _ (v w : ℕ → ℕ) (spans spans' s s' : ℕ) (earlier : s ≤ s') (shorter : spans ≤ spans') (faster : (t : ℕ) → w t ≤ v t) where
  covers : (n : ℕ) → spans' ≤ covered w s' n → spans ≤ covered v s (s' - s + n)
  covers n h = omega (arith, covered_earlier v w faster s s' n earlier)

  is_no_later : {t t' : ℕ} → IsArrival v spans s t → IsArrival w spans' s' t' → t ≤ t'
  is_no_later (IsArrival.attained n in_time enough before) (IsArrival.none never-enough) = omega arith
  is_no_later (IsArrival.none never-enough) (IsArrival.none never-enough') = le_refl never
  is_no_later (IsArrival.attained n in_time enough before) (IsArrival.attained m in-time' enough' before') =
      ⊎_elim (λ h. h.1) (λ h. absurd (let short = before (s' - s + m) (omega arith) in omega (arith, covers m enough'))) (leb_cases (s + n) (s' + m))
  is_no_later (IsArrival.none never-enough) (IsArrival.attained m in-time' enough' before') =
      absurd (let short = never-enough (s' - s + m) (omega arith) in omega (arith, covers m enough'))

is_unique : (v : ℕ → ℕ) (spans s : ℕ) {t t' : ℕ} → IsArrival v spans s t → IsArrival v spans s t' → t ≡ t'
is_unique v spans s h h' = le_antisymm (no_later h h') (no_later h' h)
  where
    no_later : {t t' : ℕ} → IsArrival v spans s t → IsArrival v spans s t' → t ≤ t'
    no_later = is_no_later v v spans spans s s (le_refl s) (le_refl spans) (λ t. le_refl (v t))

pub arrival_is_least : ArrivalIsLeast
arrival_is_least v spans s t =
    ((λ e. subst (IsArrival v spans s) (sym e) (arrival_is v spans s)), (λ h. is_unique v spans s h (arrival_is v spans s)))

is_later : (v : ℕ → ℕ) (spans s : ℕ) {t : ℕ} → 0 < spans → s < never → IsArrival v spans s t → s < t
unfolding covered
is_later v spans s some below (IsArrival.attained zero in_time enough before) = absurd (omega arith)
is_later v spans s some below (IsArrival.attained (suc n) in_time enough before) = omega arith
is_later v spans s some below (IsArrival.none never-enough) = below

pub arrival_is_later : ArrivalIsLater
arrival_is_later v spans s some below = is_later v spans s some below (arrival_is v spans s)

pub arrival_is_monotone : ArrivalIsMonotone
arrival_is_monotone v w spans spans' s s' earlier shorter faster =
    is_no_later v w spans spans' s s' earlier shorter faster (arrival_is v spans s) (arrival_is w spans' s')

pub non_passing : NonPassing
non_passing v spans s t earlier = arrival_is_monotone v v spans spans s t earlier (le_refl spans) (λ t. le_refl (v t))

-- An arrival is a tick up to the last, or never.
pub arrival_by_last : (v : ℕ → ℕ) (spans s : ℕ) → (arrival v spans s ≤ last) ⊎ (arrival v spans s ≡ never)
arrival_by_last v spans s = go (arrival_is v spans s)
  where
    go : {t : ℕ} → IsArrival v spans s t → (t ≤ last) ⊎ (t ≡ never)
    go (IsArrival.attained n in_time enough before) = inl in_time
    go (IsArrival.none never-enough) = inr refl
