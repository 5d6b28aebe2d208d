-- The interval of a tick is the one that contains it: a fence is counted exactly where the time of day has reached it, since fences rise.
use Prim.Native.Nat.{ℕ, suc, ◌<◌}
use mathlib.Core.Path.{◌≡◌}
use mathlib.Core.Bool.{true}
use mathlib.Core.List.{List}
use mathlib.Core.Logic.{⊎_elim}
use native.Mathlib.Nat.{mod-lt}
use native.Mathlib.Omega.{arith}
use lib.Dec.{leb, ltb}
use lib.ListN.{length, get_or, get_or-eq_default}
use borrow.Author.Tests.{leb-true, ltb-true, le-leb, lt-ltb}
use Rattle.model.specs.Ticks.{day}
use Rattle.model.specs.Intervals.{FencesKept, time_of_day_lem, passed, interval_of_lem, contains?, Contains, IntervalContains}
use Rattle.model.proofs.Entries.{get_or-inside}
use Rattle.model.proofs.IntervalPieces.{some_passed}
use Rattle.model.proofs.Passed.{passed_before, passed_at_most, counted_reached, reached_counted}
use Rattle.model.proofs.Rules.{both_true, true_three}
use Rattle.model.proofs.Tests.{ltb_cases}

module _ (fences : List ℕ) (kept : FencesKept fences) (some-fence : 0 < length fences) (k t : ℕ) where
  of_interval : k ≡ interval_of_lem fences t → Contains fences k t
  unfolding interval_of_lem
  of_interval same =
      let count : passed fences (time_of_day_lem t) ≡ suc k = omega (arith, some_passed fences (time_of_day_lem t) kept some-fence) in
      record {
        is_interval = omega (arith, passed_at_most fences (time_of_day_lem t));
        from_fence = counted_reached fences k (time_of_day_lem t) (omega arith);
        before_next = λ next.
            ⊎_elim
            (λ w. w.1)
            (λ w. absurd (omega (arith, reached_counted fences kept.rising (suc k) (time_of_day_lem t) next w.1)))
            (ltb_cases (time_of_day_lem t) (get_or fences (suc k) 0));
      }

  is_interval_of : Contains fences k t → k ≡ interval_of_lem fences t
  unfolding interval_of_lem
  is_interval_of c =
      omega (
        arith,
        reached_counted fences kept.rising k (time_of_day_lem t) c.is_interval c.from_fence,
        passed_before fences (time_of_day_lem t) (suc k) 0 c.before_next,
      )

pub interval_contains : IntervalContains
interval_contains fences kept some-fence k t = (of_interval fences kept some-fence k t, is_interval_of fences kept some-fence k t)

-- ---- The test says it in numbers

module _ (fences : List ℕ) (k t : ℕ) where
  pub test_contains : contains? fences k t ≡ true → Contains fences k t
  test_contains e =
      let (inside, reached, before) =
      true_three (ltb k (length fences)) (leb (get_or fences k 0) (time_of_day_lem t)) (ltb (time_of_day_lem t) (get_or fences (suc k) day)) e in
      record {
        is_interval = ltb-true k (length fences) inside;
        from_fence = leb-true (get_or fences k 0) (time_of_day_lem t) reached;
        before_next = λ next. rw (← get_or-inside fences (suc k) day 0 next) (ltb-true (time_of_day_lem t) (get_or fences (suc k) day) before);
      }

  pub contains_test : Contains fences k t → contains? fences k t ≡ true
  contains_test c =
      let before : time_of_day_lem t < get_or fences (suc k) day =
      ⊎_elim
      (λ w. rw (get_or-inside fences (suc k) day 0 w.1) (c.before_next w.1))
      (λ w. rw (get_or-eq_default fences day w.1) (mod-lt t (omega arith)))
      (ltb_cases (suc k) (length fences)) in
      both_true
      (both_true (lt-ltb k (length fences) c.is_interval) (le-leb (get_or fences k 0) (time_of_day_lem t) c.from_fence))
      (lt-ltb (time_of_day_lem t) (get_or fences (suc k) day) before)

-- An interval that contains a tick by the test is the tick's.
pub contained : (fences : List ℕ) {interval : ℕ} (tick : ℕ) → 0 < length fences → contains? fences interval tick ≡ true → FencesKept fences →
    interval ≡ interval_of_lem fences tick
contained fences {interval} tick some e kept = (interval_contains fences kept some interval tick).1 (test_contains fences interval tick e)
