-- What an arrival with its interval says: which tick and which interval, or that there is none.
use Prim.Native.Nat.{ℕ, ◌≤◌, ◌<◌}
use mathlib.Core.Path.{◌≡◌, ap}
use mathlib.Core.List.{List}
use mathlib.Core.Logic.{◌⊎◌, ⊎_elim}
use Rattle.std.specs.Prelude.{None, Some}
use native.Mathlib.Omega.{arith}
use borrow.Author.Tests.{le-leb, lt-leb}
use Rattle.model.specs.Ticks.{last, never, tick_by_last}
use Rattle.model.specs.Intervals.{interval_of_lem, tick_and_interval?}
use Rattle.model.proofs.Tests.{leb_cases}
use Rattle.model.proofs.ByLast.{by_last}

module _ (fences : List ℕ) where
  -- a tick up to the last is told with its interval
  pub told : {tick t k : ℕ} → t ≡ tick → tick ≤ last → k ≡ interval_of_lem fences tick → Some (t, k) ≡ tick_and_interval? fences tick
  told {tick} same in_time is = rw (le-leb tick last in_time, same, is)

  pub told_none : (tick : ℕ) → last < tick → None ≡ tick_and_interval? fences tick
  told_none tick late = rw (lt-leb tick last late)

  pub arrived_at_law : (t k x : ℕ) → Some (t, k) ≡ tick_and_interval? fences x → (t ≡ x) × (k ≡ interval_of_lem fences x) × (x ≤ last)
  arrived_at_law t k x e =
      ⊎_elim
      (λ w. let same : (t, k) ≡ (x, interval_of_lem fences x) = cc (rw w.0 at e) in (ap (λ (p : ℕ × ℕ). p.0) same, ap (λ (p : ℕ × ℕ). p.1) same, w.1))
      (λ w. let z : ◌≡◌ {A = ℕ} 0 1 = cc (rw w.0 at e) in absurd (omega arith))
      (leb_cases x last)

  -- what is above the last tick has no interval
  pub told_by_last : (x : ℕ) → tick_and_interval? fences (tick_by_last x) ≡ tick_and_interval? fences x
  told_by_last x = ⊎_elim (λ w. ap (tick_and_interval? fences) w.0) (λ w. rw (w.0, lt-leb x last w.1)) (by_last x)

  pub arrived_never : (x : ℕ) → (x ≤ last) ⊎ (x ≡ never) → None ≡ tick_and_interval? fences x → x ≡ never
  arrived_never x in_time e =
      ⊎_elim (λ h. let z : ◌≡◌ {A = ℕ} 0 1 = cc (rw (le-leb x last h) at e) in absurd (omega arith)) (λ same. same) in_time
