-- "Arc arrival (departure, length, fences, that arc's speeds). 2; 4 where speeds and fences differ in number; 5; 7; 8; then
-- 15, departure above 1,728,000. Otherwise the tick, or that the arc cannot be driven." Document 02, order 3: "Arc arrival shall give [the
-- interval of an arrival] back beside the tick", "Arc arrival is now always given the departure's interval too", and "46, the interval given
-- does not contain the departure's remainder by 864,000, after 15". Order 5: "The hold is given to Arc arrival as one more number"; "32, a hold
-- above 1,200, directly after 8".
use Rattle.std.specs.Prelude.{ℕ, ◌≤◌, ◌<◌, ◌≡◌, not, List, [], ◌∷◌, ◌↔◌, ltb, eqb, length, get_or, Option, Some, Result, Ok, Err}
use Rattle.model.specs.Ticks.{last, arrived_at}
use Rattle.model.specs.Limits.{max_intervals, max_length, max_speed, max_hold}
use Rattle.model.specs.Flow.{spans_of}
use Rattle.model.specs.Holds.{arrival_with_hold}
use Rattle.model.specs.Intervals.{FencesKept, speed_at, tick_and_interval?, contains?, Contains}
use Rattle.refusals.specs.Refusals.{number_of}
use Rattle.model.specs.Rules.{Outcome, refused, replied, Rule, ◌if◌, first_broken, every, count_keeps, fences_keep_lem, length_keeps_lem, speed_keeps, hold_keeps}
use Rattle.model.specs.declared.tick.Arrival.{Arrival}
use Rattle.refusals.specs.declared.refusal.Refusal.{Refusal}

-- What Arc arrival comes to: the tick and its interval, or none where the arc cannot be driven; or a refusal.
abbrev pub arc_outcome : Result (Option Arrival) Refusal → Outcome (Option (ℕ × ℕ))
arc_outcome (Ok driven) = replied (arrived_at driven)
arc_outcome (Err refusal) = refused (number_of refusal)

abbrev pub arc_rules : ℕ → ℕ → ℕ → ℕ → List ℕ → List ℕ → List Rule
arc_rules departure interval metres hold fences speeds =
    (2 if not (count_keeps fences))
    ∷ (4 if not (eqb (length speeds) (length fences)))
    ∷ (5 if not (fences_keep_lem fences))
    ∷ (7 if not (length_keeps_lem metres))
    ∷ (8 if not (every speed_keeps speeds))
    ∷ (32 if not (hold_keeps hold))
    ∷ (15 if ltb last departure)
    ∷ (46 if not (contains? fences interval departure))
    ∷ []

unfoldable pub arc_arrival_lem : ℕ → ℕ → ℕ → ℕ → List ℕ → List ℕ → Outcome (Option (ℕ × ℕ))
arc_arrival_lem departure interval metres hold fences speeds =
    first_broken (arc_rules departure interval metres hold fences speeds) (tick_and_interval? fences (arrival_with_hold (speed_at fences speeds) (spans_of metres) hold departure))

-- The rules in plain words.
pub record ArcAccepted (departure interval metres hold : ℕ) (fences speeds : List ℕ) : Type 0 where
  pub some_interval : 1 ≤ length fences
  pub intervals_fit : length fences ≤ max_intervals
  pub as_many : length speeds ≡ length fences
  pub fences_kept : FencesKept fences
  pub some_length : 1 ≤ metres
  pub length_fits : metres ≤ max_length
  pub speed_fits : (k : ℕ) → k < length speeds → get_or speeds k 0 ≤ max_speed
  pub hold_fits : hold ≤ max_hold
  pub in_time : departure ≤ last
  pub in_interval : Contains fences interval departure

-- ---- What is proved of it

-- Arc arrival replies exactly where the rules are kept, and then it replies the arrival with its hold and the interval of that, or
-- that there is none.
abbrev pub ArcRepliesWhenAccepted : Type 0
ArcRepliesWhenAccepted = (departure interval metres hold : ℕ) (fences speeds : List ℕ) (reply : Option (ℕ × ℕ)) →
    (arc_arrival_lem departure interval metres hold fences speeds ≡ replied reply)
    ↔ (ArcAccepted departure interval metres hold fences speeds × (reply ≡ tick_and_interval? fences (arrival_with_hold (speed_at fences speeds) (spans_of metres) hold departure)))

-- The interval that it gives back beside a tick is the one that contains the tick: its fence is at or before the tick's time of day, and the
-- next fence, if there is one, is after it.
abbrev pub ArcGivesInterval : Type 0
ArcGivesInterval = (departure interval metres hold : ℕ) (fences speeds : List ℕ) (tick Arrives-in : ℕ) →
    arc_arrival_lem departure interval metres hold fences speeds ≡ replied (Some (tick, Arrives-in)) → (k : ℕ) → (k ≡ Arrives-in) ↔ Contains fences k tick
