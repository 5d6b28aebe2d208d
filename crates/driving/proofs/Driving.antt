-- The engine's turns. On an arc that keeps the rules each starts a try. Either its interval covers what is left, and the arrival is in it or, at
-- its end, in the next; or the next try starts at its end, past midnight in the first interval of the next day. Midnight after the second day is
-- the last tick.
use Rattle.std.proofs.Common.{◌≡◌, ℕ, suc, ◌+◌, ◌-◌, ◌*◌, ◌/◌, ◌%◌, ◌<◌, ◌≤◌, min, cond, ltb, List, length, get_or, sym, ap, ◌∙◌, ⊎_elim, add-zero, add-one, arith}
use Rattle.std.specs.Prelude.{Some}
use lib.ListN.{get_or-eq_default}
use Rattle.model.specs.Ticks.{day, last, never}
use Rattle.model.specs.Flow.{spans_of, arrival, ticks_for_lem, Piece}
use Rattle.model.specs.Intervals.{time_of_day_lem, passed, interval_of_lem, interval_after_lem, speed_at, tick_and_interval?}
use Rattle.model.proofs.Entries.{get_or-inside}
use Rattle.model.proofs.Tests.{ltb_cases}
use Rattle.model.proofs.Pieces.{ticks_within, never_from_last}
use Rattle.model.proofs.Passed.{passed_at_most}
use Rattle.model.proofs.WithInterval.{told}
use Rattle.model.proofs.IntervalPieces.{counted_at_fence, time_on, same_interval, interval_at_end}
use Rattle.driving.specs.ArcKept.{ArcKept}
use Rattle.driving.specs.Tries.{end_of, covers_from, Try, AtTry}
use Rattle.driving.proofs.Tries.{day_and_time, counted_at_tick, try_before_last, rest_is_piece, left_over, within_try, after_try}

-- ---- The loop's state

-- At the start of a turn, with at most so much left.
pub record DrivingWithin (most departure interval metres : ℕ) (fences speeds : List ℕ) (midnight k time left : ℕ) : Type 0 where
  pub inside : k < min (length fences) (length speeds)
  pub days : ℕ
  pub is_midnight : midnight ≡ days * day
  pub before_last : midnight < last
  pub left_fits : left ≤ most
  pub when_kept : ArcKept departure interval metres fences speeds → AtTry fences speeds metres departure midnight k time left

-- Of a length of 32 bits the loop has no more left than this. The laws of a turn are of every bound.
abbrev pub Driving : ℕ → ℕ → ℕ → List ℕ → List ℕ → ℕ → ℕ → ℕ → ℕ → Type 0
Driving = DrivingWithin 154618822656

-- The turns left: those of the day, and on the first day those of the second too.
abbrev pub turns_left : ℕ → ℕ → ℕ → ℕ
turns_left intervals midnight k = cond (ltb midnight day) (intervals + (intervals - k)) (intervals - k)

module _ {departure interval metres : ℕ} {fences speeds : List ℕ} where
  -- the departure's interval is that of its time of day
  pub in_interval_of : ArcKept departure interval metres fences speeds → suc interval ≡ passed fences (time_of_day_lem departure)
  in_interval_of kept = ap suc kept.in_interval ∙ counted_at_tick kept departure

  pub kept_inside : ArcKept departure interval metres fences speeds → interval < min (length fences) (length speeds)
  kept_inside kept =
      omega (arith, in_interval_of kept, kept.as_many, passed_at_most fences (time_of_day_lem departure))

  -- From the last tick on nothing is covered.
  pub never_leaves : ArcKept departure interval metres fences speeds → last ≤ departure → never ≡ arrival (speed_at fences speeds) (spans_of metres) departure
  never_leaves kept late =
      let at_last : departure ≡ last = omega (arith, kept.in_time) in
      rw at_last (sym (never_from_last (speed_at fences speeds) (spans_of metres) (omega (arith, kept.some_length))))

  -- A try of the loop has the length left over, as every try has.
  at_try : ArcKept departure interval metres fences speeds → {midnight k time left : ℕ} → time < day → suc k ≡ passed fences time →
      Try fences speeds metres departure (midnight + time) left → AtTry fences speeds metres departure midnight k time left
  at_try kept {midnight} {k} {time} {left} in_day_law in_interval t = record {
    in_day_law = in_day_law;
    in_interval = in_interval;
    is_try = t;
    left_over = left_over kept t;
  }

  -- of any length: no more is left than the whole
  pub driving_starts : interval < min (length fences) (length speeds) → departure < last →
      {time midnight : ℕ} → time ≡ time_of_day_lem departure → midnight ≡ departure - time →
      DrivingWithin (36 * metres) departure interval metres fences speeds midnight interval time (36 * metres)
  driving_starts inside early {time} {midnight} time-is midnight-is =
      let (split, in_day_law) = day_and_time departure in
      let whole : midnight + time ≡ departure = omega arith in
      record {
        inside = inside;
        days = departure / day;
        is_midnight = omega arith;
        before_last = omega arith;
        left_fits = omega arith;
        when_kept = λ kept. at_try kept (omega arith) (rw time-is (in_interval_of kept)) (rw whole (Try.first early));
      }

  pub driving_starts_in_32_bits : interval < min (length fences) (length speeds) → departure < last → metres < 4294967296 →
      {time midnight : ℕ} → time ≡ time_of_day_lem departure → midnight ≡ departure - time →
      Driving departure interval metres fences speeds midnight interval time (36 * metres)
  driving_starts_in_32_bits inside early long time-is midnight-is =
      let d = driving_starts inside early time-is midnight-is in
      record {
        inside = d.inside;
        days = d.days;
        is_midnight = d.is_midnight;
        before_last = d.before_last;
        left_fits = omega (arith, long);
        when_kept = d.when_kept;
      }

  -- A turn: interval k with its end, and the spans that it covers.
  module _ {midnight k time left most : ℕ} (d : DrivingWithin most departure interval metres fences speeds midnight k time left) {end covers : ℕ}
      (end_is : end ≡ get_or fences (k + 1) day) (covers-is : covers ≡ (end - time) * get_or speeds k 0) where
    -- what the interval covers takes no longer than the interval
    pub by_end : left ≤ covers → ticks_for_lem left (get_or speeds k 0) ≤ end - time
    by_end h = ticks_within left (get_or speeds k 0) (end - time) (omega arith)

    module _ (kept : ArcKept departure interval metres fences speeds) where
      abbrev v : ℕ → ℕ
      v = speed_at fences speeds

      abbrev total : ℕ
      total = arrival v (spans_of metres) departure

      abbrev here : AtTry fences speeds metres departure midnight k time left
      here = d.when_kept kept

      end_is_next : end ≡ get_or fences (suc k) day
      end_is_next = rw add-one at end_is

      day_by_last : d.days * day + day ≤ last
      day_by_last = omega (arith, d.is_midnight, d.before_last)

      -- the try's own tick has this time of day, interval, end and speed
      time_here : time_of_day_lem (midnight + time) ≡ time
      time_here = rw d.is_midnight (time_on d.days time here.in_day_law)

      interval_here : interval_of_lem fences (midnight + time) ≡ k
      interval_here = omega (arith, counted_at_tick kept (midnight + time), ap (passed fences) time_here, here.in_interval)

      end_here : end_of fences (midnight + time) ≡ midnight + end
      unfolding end_of
      end_here = rw (interval_here, ← end_is_next) (omega (arith, time_here))

      speed_here : v (midnight + time) ≡ get_or speeds k 0
      unfolding speed_at
      speed_here = rw interval_here

      covers_here : covers_from fences speeds (midnight + time) ≡ covers
      unfolding covers_from
      covers_here = rw (end_here, speed_here) (ap (λ n. n * get_or speeds k 0) (omega arith) ∙ sym covers-is)

      abbrev rest : Piece v (midnight + time) (end_of fences (midnight + time)) (v (midnight + time))
      rest = rest_is_piece kept (midnight + time) (try_before_last here.is_try)

      -- the spans left are covered in this interval, and the arrival is by its end
      module _ (h : left ≤ covers) {arrives tick : ℕ} (arrives-is : arrives ≡ time + ticks_for_lem left (get_or speeds k 0))
          (tick_is : tick ≡ (midnight + arrives) % 4294967296) where
        arrives_here : midnight + arrives ≡ total
        arrives_here = omega (arith, rw speed_here at (within_try kept here.is_try (rw covers_here h)))

        answers : {number : ℕ} → interval_of_lem fences (midnight + arrives) ≡ number → Some (tick, number) ≡ tick_and_interval? fences total
        answers {number} in_interval =
            let by_last : midnight + arrives ≤ last = omega (arith, by_end h, end_here, rest.forward, rest.in_time) in
            let same : tick ≡ midnight + arrives = omega arith in
            rw (← arrives_here) (told fences same by_last (sym in_interval))

        arrives_within : arrives < end → Some (tick, k) ≡ tick_and_interval? fences total
        arrives_within before =
            answers
            (same_interval fences kept.fences_kept time k here.in_day_law here.in_interval d.days day_by_last (midnight + arrives)
            (omega (arith, d.is_midnight)) (omega (arith, d.is_midnight, end_is_next)))

        arrives_at_end : end ≤ arrives → {next : ℕ} → next ≡ interval_after_lem (min (length fences) (length speeds)) k →
            Some (tick, next) ≡ tick_and_interval? fences total
        arrives_at_end late {next} next_is =
            let at_end_law : midnight + arrives ≡ d.days * day + get_or fences (suc k) day = omega (arith, d.is_midnight, end_is_next, by_end h, end_here, rest.forward) in
            let intervals : min (length fences) (length speeds) ≡ length fences = omega (arith, kept.as_many) in
            answers
            (rw (at_end_law, next_is, intervals)
            (interval_at_end fences kept.fences_kept time k here.in_day_law here.in_interval d.days day_by_last kept.some_interval))

        pub arrives_by_end : {next : ℕ} → next ≡ cond (ltb arrives end) k (interval_after_lem (min (length fences) (length speeds)) k) →
            Some (tick, next) ≡ tick_and_interval? fences total
        arrives_by_end next_is =
            ⊎_elim (λ w. rw (next_is, w.0) (arrives_within w.1)) (λ w. arrives_at_end w.1 (rw w.0 at next_is)) (ltb_cases arrives end)

      -- the next try
      tries_next : covers < left → midnight + end < last → Try fences speeds metres departure (midnight + end) (left - covers)
      tries_next h early = rw (← end_here, ← covers_here) (Try.next here.is_try (rw covers_here h) (rw end_here early))

      tries_on : covers < left → k + 1 < length fences → AtTry fences speeds metres departure midnight (k + 1) end (left - covers)
      tries_on h more =
          let at-fence : end ≡ get_or fences (k + 1) 0 = end_is ∙ get_or-inside fences (k + 1) day 0 more in
          let in_day_law : end < day = omega (arith, kept.fences_kept.below_day (k + 1) more) in
          at_try kept in_day_law (rw at-fence (counted_at_fence fences kept.fences_kept (k + 1) more)) (tries_next h (omega (arith, day_by_last, d.is_midnight)))

      -- after the last interval
      ends_day : length fences ≤ k + 1 → end ≡ day
      ends_day done = end_is ∙ get_or-eq_default fences day done

      pub never_arrives : covers < left → length fences ≤ k + 1 → last ≤ midnight + day → never ≡ total
      never_arrives h done late =
          let at_last : midnight + end ≡ last = omega (arith, ends_day done, d.is_midnight, d.before_last) in
          sym (never_from_last v (left - covers) (omega arith)) ∙ (rw (covers_here, end_here, at_last) at (after_try kept here.is_try (rw covers_here h)))

      tries_next_day : covers < left → length fences ≤ k + 1 → midnight + day < last →
          AtTry fences speeds metres departure (midnight + day) 0 0 (left - covers)
      tries_next_day h done early =
          at_try kept (omega arith) (rw kept.fences_kept.first_is_0 at (counted_at_fence fences kept.fences_kept 0 kept.some_interval))
          (rw (add-zero, ← ends_day done) (tries_next h (rw (ends_day done) early)))

    pub drives_on : covers < left → k + 1 < min (length fences) (length speeds) → {over : ℕ} → over ≡ left - covers →
        DrivingWithin most departure interval metres fences speeds midnight (k + 1) end over
    drives_on h more {over} over-is = record {
      inside = more;
      days = d.days;
      is_midnight = d.is_midnight;
      before_last = d.before_last;
      left_fits = omega (arith, d.left_fits);
      when_kept = λ kept. rw over-is (tries_on kept h (omega arith));
    }

    pub drives_past_midnight : covers < left → min (length fences) (length speeds) ≤ k + 1 → midnight + day < last → {over : ℕ} → over ≡ left - covers →
        DrivingWithin most departure interval metres fences speeds (midnight + day) 0 0 over
    drives_past_midnight h done early {over} over-is = record {
      inside = omega (arith, d.inside);
      days = suc d.days;
      is_midnight = omega (arith, d.is_midnight);
      before_last = early;
      left_fits = omega (arith, d.left_fits);
      when_kept = λ kept. rw over-is (tries_next_day kept h (omega (arith, kept.as_many)) early);
    }
