-- The intervals as pieces of constant speed, on any day. From a time of day up to the next fence, or to midnight where there is none, no fence
-- is reached, so that the interval stays the same; at a fence it is the one that starts there.
use Prim.Native.Nat.{ℕ, suc, ◌+◌, ◌-◌, ◌*◌, ◌≤◌, ◌<◌}
use mathlib.Core.Path.{◌≡◌, sym, ap, ◌∙◌}
use mathlib.Core.List.{List}
use mathlib.Core.Logic.{⊎_elim}
use native.Mathlib.Nat.{le_refl, le_antisymm, mod-eq_of_lt, mul-add-mod_self_right}
use native.Mathlib.Omega.{arith}
use lib.ListN.{length, get_or, get_or-eq_default}
use Rattle.model.specs.Ticks.{day, last}
use Rattle.model.specs.Flow.{Piece}
use Rattle.model.specs.Intervals.{FencesKept, time_of_day_lem, passed, interval_of_lem, interval_after_lem, speed_at}
use Rattle.model.proofs.Tests.{ltb_cases}
use Rattle.model.proofs.Entries.{get_or-inside}
use Rattle.model.proofs.Passed.{passed_monotone, passed_before, next_no_earlier, reached_counted}

-- The first fence is 0, so every time of day has reached one.
pub some_passed : (fences : List ℕ) (time : ℕ) → FencesKept fences → 0 < length fences → 0 < passed fences time
some_passed fences time kept some-fence = reached_counted fences kept.rising 0 time some-fence (omega (arith, kept.first_is_0))

-- At a fence it is counted with those before it, and no other.
pub counted_at_fence : (fences : List ℕ) → FencesKept fences → (k : ℕ) → k < length fences → suc k ≡ passed fences (get_or fences k 0)
counted_at_fence fences kept k inside =
    le_antisymm
    (reached_counted fences kept.rising k (get_or fences k 0) inside (le_refl (get_or fences k 0)))
    (passed_before fences (get_or fences k 0) (suc k) 0 (kept.rising k))

-- The time of day of a tick that is given by its day and its time of day.
pub time_on : (d time : ℕ) → time < day → time_of_day_lem (d * day + time) ≡ time
time_on d time in_day_law = mul-add-mod_self_right d day time ∙ mod-eq_of_lt in_day_law

-- A time of day in interval k, which ends at the next fence, or at midnight where there is none.
module _ (fences : List ℕ) (kept : FencesKept fences) (time k : ℕ) (in_day_law : time < day) (in_interval : suc k ≡ passed fences time) where
  end_no_earlier : time ≤ get_or fences (suc k) day
  end_no_earlier = rw in_interval (next_no_earlier fences time day (omega arith))

  end_in_day : get_or fences (suc k) day ≤ day
  end_in_day =
      ⊎_elim
      (λ w. omega (arith, kept.below_day (suc k) w.1, get_or-inside fences (suc k) day 0 w.1))
      (λ w. omega (arith, get_or-eq_default fences day w.1))
      (ltb_cases (suc k) (length fences))

  -- day d, which ends by the last tick
  module _ (d : ℕ) (by_Last : d * day + day ≤ last) where
    pub same_interval : (t : ℕ) → d * day + time ≤ t → t < d * day + get_or fences (suc k) day → interval_of_lem fences t ≡ k
    unfolding interval_of_lem
    same_interval t from before =
        let later : t ≡ d * day + (t - d * day) = omega arith in
        let at : time_of_day_lem t ≡ t - d * day = ap time_of_day_lem later ∙ time_on d (t - d * day) (omega (arith, end_in_day)) in
        let reached = ap (passed fences) at in
        omega (arith, passed_monotone fences time (t - d * day) (omega arith), passed_before fences (t - d * day) (suc k) day (λ _. omega arith))

    -- At its end the next interval starts; after the last one that is the first of the next day.
    pub interval_at_end : 0 < length fences → interval_of_lem fences (d * day + get_or fences (suc k) day) ≡ interval_after_lem (length fences) k
    unfolding interval_of_lem
    interval_at_end some =
        ⊎_elim
        (λ w.
        let fence : get_or fences (suc k) day ≡ get_or fences (suc k) 0 = get_or-inside fences (suc k) day 0 w.1 in
        let at : time_of_day_lem (d * day + get_or fences (suc k) 0) ≡ get_or fences (suc k) 0 = time_on d (get_or fences (suc k) 0) (kept.below_day (suc k) w.1) in
        rw (w.0, fence, at) (omega (arith, counted_at_fence fences kept (suc k) w.1)))
        (λ w.
        let midnight : get_or fences (suc k) day ≡ day = get_or-eq_default fences day w.1 in
        let at : time_of_day_lem (d * day + day) ≡ get_or fences 0 0 = ap time_of_day_lem (omega arith) ∙ time_on (suc d) 0 (omega arith) ∙ sym kept.first_is_0 in
        rw (w.0, midnight, at) (omega (arith, counted_at_fence fences kept 0 some)))
        (ltb_cases (suc k) (length fences))

    pub interval_is_piece : (speeds : List ℕ) → Piece (speed_at fences speeds) (d * day + time) (d * day + get_or fences (suc k) day) (get_or speeds k 0)
    unfolding speed_at
    interval_is_piece speeds = record {
      forward = omega (arith, end_no_earlier);
      in_time = omega (arith, end_in_day);
      steady = λ t from before. rw (same_interval t from before);
    }
