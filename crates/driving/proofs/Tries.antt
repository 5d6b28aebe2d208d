-- Each try by those before it. From a try's start to the end of its interval the speed is constant, so what the interval covers is the model's
-- sum of speeds over these ticks: the length left over falls by what the sum since the departure grows by.
use Rattle.std.proofs.Common.{◌≡◌, ℕ, suc, ◌+◌, ◌-◌, ◌*◌, ◌/◌, ◌<◌, ◌≤◌, cond, leb, List, get_or, sym, refl, ◌∙◌, subst, le_refl, mod-lt, div-add-mod', arith, le-leb}
use native.Mathlib.Nat.{sub_self}
use borrow.Author.Tests.{lt-leb}
use Rattle.model.specs.Ticks.{day, last}
use Rattle.model.specs.Flow.{spans_of, covered, arrival, ticks_for_lem, Piece}
use Rattle.model.specs.Intervals.{time_of_day_lem, passed, interval_of_lem, speed_at}
use Rattle.model.proofs.Covered.{covered_add}
use Rattle.model.proofs.Pieces.{covered_over_piece, arrival_over_piece}
use Rattle.model.proofs.IntervalPieces.{some_passed, interval_is_piece}
use Rattle.driving.specs.ArcKept.{ArcKept}
use Rattle.driving.specs.Tries.{end_of, covers_from, Try, LeftOver, LeftOverAtEachTry, ArrivalWithinTry}

-- A tick as its day and its time of day.
pub day_and_time : (t : ℕ) → (t / day * day + time_of_day_lem t ≡ t) × (time_of_day_lem t < day)
day_and_time t = (div-add-mod' t day, mod-lt t (omega arith))

pub try_before_last : {fences speeds : List ℕ} {metres departure at left : ℕ} → Try fences speeds metres departure at left → at < last
try_before_last (Try.first early) = early
try_before_last (Try.next t short early) = early

module _ {departure interval metres : ℕ} {fences speeds : List ℕ} (kept : ArcKept departure interval metres fences speeds) where
  abbrev v : ℕ → ℕ
  v = speed_at fences speeds

  -- the interval is that of the tick's time of day
  pub counted_at_tick : (t : ℕ) → suc (interval_of_lem fences t) ≡ passed fences (time_of_day_lem t)
  unfolding interval_of_lem
  counted_at_tick t = omega (arith, some_passed fences (time_of_day_lem t) kept.fences_kept kept.some_interval)

  -- from a tick to the end of its interval
  pub rest_is_piece : (t : ℕ) → t < last → Piece v t (end_of fences t) (v t)
  unfolding speed_at end_of
  rest_is_piece t before =
      let (whole, in_day_law) = day_and_time t in
      let midnight : t - time_of_day_lem t ≡ t / day * day = omega arith in
      rw midnight
      (subst (λ n. Piece v n (t / day * day + get_or fences (suc (interval_of_lem fences t)) day) (get_or speeds (interval_of_lem fences t) 0)) whole
      (interval_is_piece fences kept.fences_kept (time_of_day_lem t) (interval_of_lem fences t) in_day_law (counted_at_tick t) (t / day) (omega arith) speeds))

  -- what the interval covers is the model's sum
  rest_covers : (t : ℕ) → t < last → covered v t (end_of fences t - t) ≡ covers_from fences speeds t
  unfolding covers_from
  rest_covers t before = covered_over_piece (rest_is_piece t before) (end_of fences t - t) (le_refl (end_of fences t - t))

  at_first : LeftOver v metres departure departure (spans_of metres)
  at_first = record {
    since_departure = le_refl departure;
    above_0 = omega (arith, kept.some_length);
    less_covered = rw (sub_self departure) (unfold covered in omega arith);
  }

  at_next : {at left : ℕ} → at < last → LeftOver v metres departure at left → covers_from fences speeds at < left →
      LeftOver v metres departure (end_of fences at) (left - covers_from fences speeds at)
  at_next {at} {left} before here short =
      let forward = (rest_is_piece at before).forward in
      let ticks : end_of fences at - departure ≡ at - departure + (end_of fences at - at) = omega (arith, here.since_departure) in
      let from-here : departure + (at - departure) ≡ at = omega (arith, here.since_departure) in
      let sum : covered v departure (end_of fences at - departure) ≡ covered v departure (at - departure) + covers_from fences speeds at =
      rw (ticks, covered_add v departure (at - departure) (end_of fences at - at), from-here, rest_covers at before) in
      record {
        since_departure = omega (arith, here.since_departure);
        above_0 = omega arith;
        less_covered = omega (arith, here.less_covered);
      }

  pub left_over : {at left : ℕ} → Try fences speeds metres departure at left → LeftOver v metres departure at left
  left_over (Try.first early) = at_first
  left_over (Try.next t short early) = at_next (try_before_last t) (left_over t) short

  -- The interval covers what is left, or the arrival is that from its end with what is left then.
  over_rest : {at left : ℕ} → Try fences speeds metres departure at left →
      arrival v left at ≡ cond (leb left (covers_from fences speeds at)) (at + ticks_for_lem left (v at)) (arrival v (left - covers_from fences speeds at) (end_of fences at))
  unfolding covers_from
  over_rest {at} {left} t = arrival_over_piece v at (end_of fences at) (v at) left (rest_is_piece at (try_before_last t)) (left_over t).above_0

  past_rest : {at left : ℕ} → Try fences speeds metres departure at left → covers_from fences speeds at < left →
      arrival v left at ≡ arrival v (left - covers_from fences speeds at) (end_of fences at)
  past_rest {at} {left} t short = rw (lt-leb left (covers_from fences speeds at) short) at (over_rest t)

  -- From each try the arrival is the whole's.
  from_try : {at left : ℕ} → Try fences speeds metres departure at left → arrival v left at ≡ arrival v (spans_of metres) departure
  from_try (Try.first early) = refl
  from_try (Try.next t short early) = sym (past_rest t short) ∙ from_try t

  pub within_try : {at left : ℕ} → Try fences speeds metres departure at left → left ≤ covers_from fences speeds at →
      arrival v (spans_of metres) departure ≡ at + ticks_for_lem left (v at)
  within_try {at} {left} t enough = sym (from_try t) ∙ (rw (le-leb left (covers_from fences speeds at) enough) at (over_rest t))

  pub after_try : {at left : ℕ} → Try fences speeds metres departure at left → covers_from fences speeds at < left →
      arrival v (left - covers_from fences speeds at) (end_of fences at) ≡ arrival v (spans_of metres) departure
  after_try t short = sym (past_rest t short) ∙ from_try t

pub left_over_at_each_try : LeftOverAtEachTry
left_over_at_each_try departure interval metres fences speeds kept at left = left_over kept

pub arrival_within_try : ArrivalWithinTry
arrival_within_try departure interval metres fences speeds kept at left = within_try kept
