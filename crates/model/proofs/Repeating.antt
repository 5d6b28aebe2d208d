-- A plan's speeds repeat by the day, since a tick and the one a day later have the same time of day. So, where nothing is closed, a vehicle that
-- leaves a day later covers the same in as many ticks, and arrives a day later.
use Prim.Native.Nat.{ℕ, zero, suc, ◌+◌, ◌-◌}
use mathlib.Core.Path.{◌≡◌, refl, sym, ap, subst, ◌∙◌}
use mathlib.Core.Logic.{⊎_elim}
use native.Mathlib.Nat.{add-mod_right}
use native.Mathlib.Omega.{arith}
use lib.ListN.{get_or}
use Rattle.model.specs.Ticks.{day, last, tick_by_last}
use Rattle.model.specs.Flow.{covered, arrival, IsArrival}
use Rattle.model.specs.Holds.{arrival_with_hold}
use Rattle.model.specs.Intervals.{passed, interval_of_lem, speed_at, SpeedsRepeat}
use Rattle.model.specs.Network.{arc_speeds, DrivesRepeat}
use Rattle.model.proofs.Tests.{leb_cases}
use Rattle.model.proofs.Arrival.{arrival_is, arrival_is_least}
use Rattle.model.proofs.ByLast.{by_last_added}
use Rattle.model.proofs.Closures.{no_closures}

pub speeds_repeat : SpeedsRepeat
unfolding speed_at interval_of_lem
speeds_repeat fences speeds t = ap (λ (time : ℕ). get_or speeds (passed fences time - 1) 0) (add-mod_right t day)

module _ (v : ℕ → ℕ) (repeats : (t : ℕ) → v (t + day) ≡ v t) (spans s : ℕ) where
  covered_repeats : (n : ℕ) → covered v (s + day) n ≡ covered v s n
  unfolding covered
  covered_repeats zero = refl
  covered_repeats (suc n) =
      let later : s + day + n ≡ s + n + day = omega arith in
      rw (covered_repeats n, later, repeats (s + n))

  a_day_later : {t : ℕ} → IsArrival v spans s t → IsArrival v spans (s + day) (tick_by_last (t + day))
  a_day_later (IsArrival.attained n in_time enough before) =
      ⊎_elim
      (λ w.
      let later : s + day + n ≡ s + n + day = omega arith in
      rw w.0
      (subst (IsArrival v spans (s + day)) later
      (IsArrival.attained n (omega (arith, w.1)) (rw (covered_repeats n) enough) (λ m h. rw (covered_repeats m) (before m h)))))
      (λ w. rw w.0 (IsArrival.none (λ m h. rw (covered_repeats m) (before m (omega (arith, w.1))))))
      (leb_cases (s + n + day) last)
  a_day_later (IsArrival.none too-little) = IsArrival.none (λ m h. rw (covered_repeats m) (too-little m (omega arith)))

  arrival_repeats : arrival v spans (s + day) ≡ tick_by_last (arrival v spans s + day)
  arrival_repeats = sym ((arrival_is_least v spans (s + day) _).1 (a_day_later (arrival_is v spans s)))

-- The day and the hold may be added in either order.
either_first : (t m n : ℕ) → tick_by_last (tick_by_last (t + m) + n) ≡ tick_by_last (tick_by_last (t + n) + m)
either_first t m n =
    let same : t + m + n ≡ t + n + m = omega arith in
    by_last_added (t + m) n ∙ ap tick_by_last same ∙ sym (by_last_added (t + n) m)

pub drives_repeat : DrivesRepeat
unfolding arrival_with_hold
drives_repeat R none a t =
    let hold = get_or R.holds a 0 in
    let as-was = (no_closures R none a).1 in
    rw (as-was t, as-was (t + day))
    (ap (λ (u : ℕ). tick_by_last (u + hold)) (arrival_repeats (speed_at R.fences (arc_speeds R a)) (speeds_repeat R.fences (arc_speeds R a)) _ t) ∙ either_first _ day hold)
