-- Arc arrival's rules: no test fires exactly where the plain rules hold, and then the engine, from the departure's interval on, gives
-- the reply.
use Prim.Native.Nat.{ℕ, ◌<◌}
use mathlib.Core.Path.{◌≡◌, refl, sym, ap, ◌∙◌}
use mathlib.Core.Bool.{not}
use mathlib.Core.List.{List}
use Rattle.std.specs.Prelude.{Option, Some}
use native.Mathlib.Omega.{arith}
use lib.Dec.{eqb}
use lib.ListN.{length}
use borrow.Author.Tests.{not-false, eqb-true, ltb-false, leb-true, eq-eqb, le-ltb, le-leb}
use Rattle.model.specs.Ticks.{last}
use Rattle.model.specs.Limits.{max_intervals, max_speed, max_hold}
use Rattle.model.specs.Flow.{spans_of}
use Rattle.model.specs.Holds.{arrival_with_hold}
use Rattle.model.specs.Intervals.{speed_at, tick_and_interval?, contains?}
use Rattle.model.specs.Rules.{AllKept, replied, first_broken, fences_keep_lem, length_keeps_lem, hold_keeps}
use Rattle.model.proofs.Containing.{interval_contains, test_contains, contains_test}
use Rattle.model.proofs.Rules.{kept_replies, replies_kept, kept_count, count_kept, kept_length, length_kept, kept_within, within_kept, fences_kept, kept_fences}
use Rattle.model.proofs.WithInterval.{arrived_at_law}
use Rattle.driving.specs.ArcKept.{ArcKept}
use Rattle.arc_arrival.specs.ArcArrival.{arc_rules, arc_arrival_lem, ArcAccepted, ArcRepliesWhenAccepted, ArcGivesInterval}

module _ (departure interval metres hold : ℕ) (fences speeds : List ℕ) where
  pub kept_accepted : AllKept (arc_rules departure interval metres hold fences speeds) → ArcAccepted departure interval metres hold fences speeds
  kept_accepted kept =
      let count = kept_count fences kept.0 in
      let size = kept_length metres (not-false (length_keeps_lem metres) kept.1.1.1.0) in
      record {
        some_interval = count.0;
        intervals_fit = count.1;
        as_many = eqb-true (length speeds) (length fences) (not-false (eqb (length speeds) (length fences)) kept.1.0);
        fences_kept = fences_kept fences (not-false (fences_keep_lem fences) kept.1.1.0);
        some_length = size.0;
        length_fits = size.1;
        speed_fits = kept_within max_speed speeds kept.1.1.1.1.0;
        hold_fits = leb-true hold max_hold (not-false (hold_keeps hold) kept.1.1.1.1.1.0);
        in_time = ltb-false last departure kept.1.1.1.1.1.1.0;
        in_interval = test_contains fences interval departure (not-false (contains? fences interval departure) kept.1.1.1.1.1.1.1.0);
      }

  pub accepted_kept : ArcAccepted departure interval metres hold fences speeds → AllKept (arc_rules departure interval metres hold fences speeds)
  accepted_kept a =
      let count = count_kept fences a.some_interval a.intervals_fit in
      let as_many = eq-eqb (length speeds) (length fences) a.as_many in
      let fences_keep = kept_fences fences a.fences_kept in
      let length_keeps = length_kept metres a.some_length a.length_fits in
      let speeds_keep = within_kept max_speed speeds a.speed_fits in
      let hold_keeps_law = le-leb hold max_hold a.hold_fits in
      let in_time = le-ltb last departure a.in_time in
      let contained = contains_test fences interval departure a.in_interval in
      (count, (ap not as_many, (ap not fences_keep, (ap not length_keeps, (speeds_keep, (ap not hold_keeps_law, (in_time, (ap not contained, tt))))))))

  abbrev reply : Option (ℕ × ℕ)
  reply = tick_and_interval? fences (arrival_with_hold (speed_at fences speeds) (spans_of metres) hold departure)

  pub by_rules : arc_arrival_lem departure interval metres hold fences speeds ≡ first_broken (arc_rules departure interval metres hold fences speeds) reply
  unfolding arc_arrival_lem
  by_rules = refl

  replies : AllKept (arc_rules departure interval metres hold fences speeds) → arc_arrival_lem departure interval metres hold fences speeds ≡ replied reply
  replies kept = by_rules ∙ kept_replies (arc_rules departure interval metres hold fences speeds) reply kept

  -- The engine is handed the departure's interval.
  module _ (kept : AllKept (arc_rules departure interval metres hold fences speeds)) where
    arc_kept : ArcKept departure interval metres fences speeds
    arc_kept =
        let accepted = kept_accepted kept in
        record {
          in_time = accepted.in_time;
          in_interval = (interval_contains fences accepted.fences_kept accepted.some_interval interval departure).1 accepted.in_interval;
          some_length = accepted.some_length;
          some_interval = accepted.some_interval;
          fences_kept = accepted.fences_kept;
          as_many = accepted.as_many;
        }

    pub engine_replies : {arrived : Option (ℕ × ℕ)} → (ArcKept departure interval metres fences speeds → arrived ≡ reply) →
        replied arrived ≡ arc_arrival_lem departure interval metres hold fences speeds
    engine_replies promise = ap replied (promise arc_kept) ∙ sym (replies kept)

pub arc_replies_when_accepted : ArcRepliesWhenAccepted
unfolding arc_arrival_lem
arc_replies_when_accepted departure interval metres hold fences speeds r = (
  (λ e.
      let kept = replies_kept (arc_rules departure interval metres hold fences speeds) (reply departure interval metres hold fences speeds) r e in
      let same = replies departure interval metres hold fences speeds kept in
      (kept_accepted departure interval metres hold fences speeds kept, cc)),
  (λ h. replies departure interval metres hold fences speeds (accepted_kept departure interval metres hold fences speeds h.0) ∙ ap replied (sym h.1)),
)

pub arc_gives_interval : ArcGivesInterval
arc_gives_interval departure interval metres hold fences speeds tick Arrives-in e k =
    let (accepted, is_reply) = (arc_replies_when_accepted departure interval metres hold fences speeds (Some (tick, Arrives-in))).0 e in
    let (at, interval_is, in_time) = arrived_at_law fences tick Arrives-in (arrival_with_hold (speed_at fences speeds) (spans_of metres) hold departure) is_reply in
    rw (interval_is, ← at) (interval_contains fences accepted.fences_kept accepted.some_interval k tick)

-- So it is one of the fences' places, of which there are 96 at most.
pub arrives_in_few : (departure interval metres hold : ℕ) (fences speeds : List ℕ) (tick arrives_in : ℕ) →
    arc_arrival_lem departure interval metres hold fences speeds ≡ replied (Some (tick, arrives_in)) → arrives_in < max_intervals
arrives_in_few departure interval metres hold fences speeds tick arrives_in e =
    let accepted = ((arc_replies_when_accepted departure interval metres hold fences speeds (Some (tick, arrives_in))).0 e).0 in
    let contains = (arc_gives_interval departure interval metres hold fences speeds tick arrives_in e arrives_in).0 refl in
    omega (arith, accepted.intervals_fit)
