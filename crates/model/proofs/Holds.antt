-- The laws of the arrival with its hold: they are the arrival's, since the sum keeps the order of two ticks, and so does never for what is above
-- the last.
use Prim.Native.Nat.{ℕ, ◌+◌, ◌≤◌}
use mathlib.Core.Path.{◌≡◌, sym}
use mathlib.Core.Logic.{◌⊎◌, inl, inr, ⊎_elim}
use native.Mathlib.Nat.{add-zero, le_refl, le_of_eq, le_antisymm}
use native.Mathlib.Omega.{arith}
use borrow.Author.Tests.{le-leb}
use Rattle.model.specs.Ticks.{last, never, tick_by_last}
use Rattle.model.specs.Flow.{arrival, IsArrival}
use Rattle.model.specs.Holds.{arrival_with_hold, IsWithHold, WithHoldIsSum, NoHold, WithHoldIsLater, WithHoldIsMonotone, WithHoldNonPassing}
use Rattle.model.proofs.ByLast.{by_last, above_last, by_last_keeps_order}
use Rattle.model.proofs.Arrival.{arrival_is, arrival_is_least, arrival_is_later, arrival_is_monotone, arrival_by_last}

pub with_hold_is_sum : WithHoldIsSum
unfolding arrival_with_hold
with_hold_is_sum v spans hold s t = (forward, back)
  where
    forward : t ≡ tick_by_last (arrival v spans s + hold) → IsWithHold v spans hold s t
    forward e =
        ⊎_elim
        (λ w. rw (e, w.0) (IsWithHold.released (arrival v spans s) (arrival_is v spans s) w.1))
        (λ w. rw (e, w.0) (IsWithHold.too_late (arrival v spans s) (arrival_is v spans s) w.1))
        (by_last (arrival v spans s + hold))

    is_old : {old : ℕ} → IsArrival v spans s old → old ≡ arrival v spans s
    is_old {old} is = (arrival_is_least v spans s old).1 is

    back : {t : ℕ} → IsWithHold v spans hold s t → t ≡ tick_by_last (arrival v spans s + hold)
    back (IsWithHold.released old is in_time) = rw (← is_old is, le-leb (old + hold) last in_time)
    back (IsWithHold.too_late old is late) = rw (← is_old is) (sym (above_last (old + hold) late))

pub no_hold_law : NoHold
unfolding arrival_with_hold
no_hold_law v spans s =
    rw add-zero (⊎_elim (λ in_time. rw (le-leb (arrival v spans s) last in_time)) (λ none. rw none) (arrival_by_last v spans s))

pub with_hold_is_later : WithHoldIsLater
unfolding arrival_with_hold
with_hold_is_later v spans hold s some below =
    let later = arrival_is_later v spans s some below in
    ⊎_elim (λ w. omega (arith, later, w.0)) (λ w. omega (arith, below, w.0)) (by_last (arrival v spans s + hold))

pub with_hold_is_monotone : WithHoldIsMonotone
unfolding arrival_with_hold
with_hold_is_monotone v w spans spans' hold hold' s s' earlier shorter released faster =
    by_last_keeps_order (arrival v spans s + hold) (arrival w spans' s' + hold')
    (omega (arith, arrival_is_monotone v w spans spans' s s' earlier shorter faster, released))

pub with_hold_non_passing : WithHoldNonPassing
with_hold_non_passing v spans hold s t earlier =
    with_hold_is_monotone v v spans spans hold hold s t earlier (le_refl spans) (le_refl hold) (λ u. le_refl (v u))

-- Two speeds that are equal at every tick arrive alike.
pub same_arrival : (v w : ℕ → ℕ) (spans hold s : ℕ) → ((t : ℕ) → v t ≡ w t) → arrival_with_hold v spans hold s ≡ arrival_with_hold w spans hold s
same_arrival v w spans hold s same =
    le_antisymm
    (with_hold_is_monotone v w spans spans hold hold s s (le_refl s) (le_refl spans) (le_refl hold) (λ t. le_of_eq (sym (same t))))
    (with_hold_is_monotone w v spans spans hold hold s s (le_refl s) (le_refl spans) (le_refl hold) (λ t. le_of_eq (same t)))

-- It too is a tick up to the last, or never.
pub with_hold_by_last : (v : ℕ → ℕ) (spans hold s : ℕ) → (arrival_with_hold v spans hold s ≤ last) ⊎ (arrival_with_hold v spans hold s ≡ never)
unfolding arrival_with_hold
with_hold_by_last v spans hold s = ⊎_elim (λ w. inl (omega (arith, w.0, w.1))) (λ w. inr w.0) (by_last (arrival v spans s + hold))
