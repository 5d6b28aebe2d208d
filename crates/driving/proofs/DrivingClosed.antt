-- The engine's turns on an arc with closures. Each drives on from a tick in its interval, as a departure from there with what is left. Its piece of
-- constant speed ends with the interval, or before at a closure's edge. It covers what is left, or the next turn starts at its end.
use Rattle.std.proofs.Common.{◌≡◌, ℕ, suc, ◌+◌, ◌-◌, ◌*◌, ◌/◌, ◌<◌, ◌≤◌, min, cond, ltb, leb, List, length, get_or, sym, refl, ◌∙◌, ⊎_elim, mod-eq_of_lt, add-one, arith, ltb-true, le-leb}
use Rattle.std.specs.Prelude.{Some}
use borrow.Author.Tests.{lt-leb}
use Rattle.model.specs.Ticks.{day, last, never}
use Rattle.model.specs.Flow.{spans_of, arrival, ticks_for_lem, Piece}
use Rattle.model.specs.Intervals.{time_of_day_lem, interval_of_lem, interval_after_lem, speed_at, tick_and_interval?}
use Rattle.model.specs.Closures.{with_closures}
use Rattle.model.specs.declared.closure.Closure.{Closure}
use Rattle.model.proofs.Tests.{ltb_cases}
use Rattle.model.proofs.Rules.{true_three}
use Rattle.model.proofs.Containing.{interval_contains, contains_test}
use Rattle.model.proofs.Pieces.{ticks_within, arrival_over_piece, never_from_last}
use Rattle.model.proofs.WithInterval.{told}
use Rattle.model.proofs.IntervalPieces.{same_interval, interval_at_end}
use Rattle.driving.specs.ArcKept.{ArcKept}
use Rattle.driving.specs.Tries.{end_of}
use Rattle.driving.specs.Code.Closed.{PieceFrom}
use Rattle.driving.proofs.Tries.{day_and_time, rest_is_piece}
use Rattle.driving.proofs.Driving.{in_interval_of}
use Rattle.driving.proofs.Closures.{same_after, same_by_limit, piece_with_closures}

-- ---- A tick in its interval

module _ {tick k metres : ℕ} {fences speeds : List ℕ} (kept : ArcKept tick k metres fences speeds) (before : tick < last) where
  abbrev time : ℕ
  time = time_of_day_lem tick

  abbrev midnight : ℕ
  midnight = tick / day * day

  day_by_last : midnight + day ≤ last
  day_by_last = omega (arith, day_and_time tick)

  end_of_day : end_of fences tick ≡ midnight + get_or fences (suc k) day
  unfolding end_of
  end_of_day = rw (← kept.in_interval) (omega (arith, (day_and_time tick).0))

  -- the interval contains the tick
  before_next : time < get_or fences (suc k) day
  before_next =
      let contains = (interval_contains fences kept.fences_kept kept.some_interval k tick).0 kept.in_interval in
      let (inside, reached, before_end) =
      true_three (ltb k (length fences)) (leb (get_or fences k 0) time) (ltb time (get_or fences (suc k) day)) (contains_test fences k tick contains) in
      ltb-true time (get_or fences (suc k) day) before_end

  pub ends_later : tick < end_of fences tick
  ends_later = omega (arith, end_of_day, before_next, (day_and_time tick).0)

  -- up to the interval's end it is the same, and at the end the next
  pub interval_until : (t : ℕ) → tick ≤ t → t ≤ end_of fences tick → cond (ltb t (end_of fences tick)) k (interval_after_lem (length fences) k) ≡ interval_of_lem fences t
  interval_until t from by =
      let (whole, in_day_law) = day_and_time tick in
      ⊎_elim
      (λ w. rw w.0
      (sym (same_interval fences kept.fences_kept time k in_day_law (in_interval_of kept) (tick / day) day_by_last t (omega arith) (omega (arith, w.1, end_of_day)))))
      (λ w.
      let at_end_law : t ≡ midnight + get_or fences (suc k) day = omega (arith, w.1, end_of_day) in
      rw (w.0, at_end_law) (sym (interval_at_end fences kept.fences_kept time k in_day_law (in_interval_of kept) (tick / day) day_by_last kept.some_interval)))
      (ltb_cases t (end_of fences tick))

-- ---- The loop's state

-- The arrival from a tick in its interval, with what is left to cover there, is the whole's.
pub record DrivenTo (departure metres : ℕ) (fences speeds : List ℕ) (v : ℕ → ℕ) (k tick left : ℕ) : Type 0 where
  pub kept_here : ArcKept tick k metres fences speeds
  pub above_0 : 0 < left
  pub same_arrival : arrival v left tick ≡ arrival v (spans_of metres) departure

-- At the start of a turn, with at most so much left.
pub record DrivingClosedWithin (most departure interval metres : ℕ) (fences speeds : List ℕ) (arc : ℕ) (closures : List Closure) (k tick left : ℕ) : Type 0 where
  pub inside : k < min (length fences) (length speeds)
  pub left_fits : left ≤ most
  pub when_kept : ArcKept departure interval metres fences speeds →
      DrivenTo departure metres fences speeds (with_closures closures arc (speed_at fences speeds)) k tick left

-- Of a length of 32 bits the loop has no more left than this. The laws of a turn are of every bound.
abbrev pub DrivingClosed : ℕ → ℕ → ℕ → List ℕ → List ℕ → ℕ → List Closure → ℕ → ℕ → ℕ → Type 0
DrivingClosed = DrivingClosedWithin 154618822656

module _ {departure interval metres : ℕ} {fences speeds : List ℕ} {arc : ℕ} {closures : List Closure} where
  module _ {k tick left most : ℕ} (d : DrivingClosedWithin most departure interval metres fences speeds arc closures k tick left) where
    abbrev v : ℕ → ℕ
    v = with_closures closures arc (speed_at fences speeds)

    abbrev total : ℕ
    total = arrival v (spans_of metres) departure

    -- At the last tick nothing more is covered.
    pub closed_never : last ≤ tick → ArcKept departure interval metres fences speeds → never ≡ total
    closed_never late kept =
        let here = d.when_kept kept in
        let at_last : tick ≡ last = omega (arith, here.kept_here.in_time) in
        sym (never_from_last v left here.above_0) ∙ (rw at_last at here.same_arrival)

    -- A turn: a piece.
    module _ (before : tick < last) {until speed end : ℕ} (p : PieceFrom tick k fences speeds arc closures until speed end) where
      until_by_end : until ≤ end
      until_by_end = omega (arith, p.until_is, same_by_limit arc tick closures end)

      module _ (kept : ArcKept departure interval metres fences speeds) where
        abbrev here : DrivenTo departure metres fences speeds v k tick left
        here = d.when_kept kept

        rest : Piece (speed_at fences speeds) tick (end_of fences tick) (speed_at fences speeds tick)
        rest = rest_is_piece here.kept_here tick before

        end_here : end ≡ end_of fences tick
        end_here =
            let sum : tick - time_of_day_lem tick + get_or fences (suc k) day ≡ end_of fences tick = omega (arith, end_of_day here.kept_here before, (day_and_time tick).0) in
            (rw (add-one, sum) at p.end_is) ∙ mod-eq_of_lt (omega (arith, rest.in_time))

        -- on an arc that keeps the rules every piece has a tick
        pub piece_goes_on : tick < until
        piece_goes_on = rw (p.until_is, end_here) (same_after arc tick closures (ends_later here.kept_here before))

        speed_here : speed_at fences speeds tick ≡ get_or speeds k 0
        unfolding speed_at
        speed_here = rw here.kept_here.in_interval

        piece : Piece v tick until speed
        piece = rw (p.speed_is, p.until_is, end_here, ← speed_here) (piece_with_closures closures arc (ends_later here.kept_here before) rest)

        interval_here : {t next : ℕ} → tick ≤ t → t ≤ until → next ≡ cond (ltb t end) k (interval_after_lem (min (length fences) (length speeds)) k) →
            next ≡ interval_of_lem fences t
        interval_here {t} from by next_is =
            let intervals : min (length fences) (length speeds) ≡ length fences = omega (arith, kept.as_many) in
            next_is ∙ (rw (intervals, end_here) (interval_until here.kept_here before t from (omega (arith, until_by_end, end_here))))

      -- the spans that it covers
      module _ {covers : ℕ} (covers-is : covers ≡ (until - tick) * speed) where
        over_piece : ArcKept departure interval metres fences speeds →
            total ≡ cond (leb left covers) (tick + ticks_for_lem left speed) (arrival v (left - covers) until)
        over_piece kept =
            sym (here kept).same_arrival ∙ (rw (← covers-is) at (arrival_over_piece v tick until speed left (piece kept) (here kept).above_0))

        pub by_until : left ≤ covers → ticks_for_lem left speed ≤ until - tick
        by_until h = ticks_within left speed (until - tick) (omega arith)

        pub arrives_in_piece : left ≤ covers → {arrives next : ℕ} → arrives ≡ tick + ticks_for_lem left speed →
            next ≡ cond (ltb arrives end) k (interval_after_lem (min (length fences) (length speeds)) k) →
            ArcKept departure interval metres fences speeds → Some (arrives, next) ≡ tick_and_interval? fences total
        arrives_in_piece h {arrives} arrives-is next_is kept =
            let by : arrives ≤ until = omega (arith, by_until h, (piece kept).forward) in
            let same : total ≡ arrives = (rw (le-leb left covers h) at (over_piece kept)) ∙ sym arrives-is in
            rw same (told fences refl (omega (arith, (piece kept).in_time)) (interval_here kept (omega arith) by next_is))

        pub drives_past_piece : covers < left → {over next : ℕ} → over ≡ left - covers → next < min (length fences) (length speeds) →
            next ≡ cond (ltb until end) k (interval_after_lem (min (length fences) (length speeds)) k) →
            DrivingClosedWithin most departure interval metres fences speeds arc closures next until over
        drives_past_piece h {over} over-is inside next_is = record {
          inside = inside;
          left_fits = omega (arith, d.left_fits);
          when_kept = λ kept. record {
            kept_here = record {
              in_time = (piece kept).in_time;
              in_interval = interval_here kept (piece kept).forward (omega arith) next_is;
              some_length = kept.some_length;
              some_interval = kept.some_interval;
              fences_kept = kept.fences_kept;
              as_many = kept.as_many;
            };
            above_0 = omega arith;
            same_arrival = rw over-is (sym (rw (lt-leb left covers h) at (over_piece kept)));
          };
        }
