-- Which arcs are up to date, arc by arc. A lowered label spoils the arcs that leave its junction, which the table of passes tells, and no other: a head's label may fall.
use Prim.Native.Nat.{ℕ, ◌+◌, ◌≤◌, ◌<◌}
use mathlib.Core.Path.{◌≡◌, sym, ap, ◌∙◌}
use mathlib.Core.List.{List}
use mathlib.Core.Logic.{by_cases}
use Rattle.std.specs.Prelude.{Option}
use native.Mathlib.Decide.{ℕ_discrete}
use native.Mathlib.Nat.{le_refl}
use native.Mathlib.Omega.{arith}
use lib.ListN.{length, get_or, set, replicate, length-set, length-replicate}
use lib.Seq.{get_or-set_same, get_or-set_other}
use Rattle.model.specs.Ticks.{never}
use Rattle.model.specs.Network.{Network, arcs, roads_of, drive_of}
use Rattle.model.proofs.Entries.{get_or-all}
use Rattle.closed_arcs.specs.FromLabels.{TimedLabels, offered, OnArc, arrives, too_late, not_driven}
use Rattle.passing.specs.Code.Passing.{tick_of, UpToDate, AllUpToDate, Current, NoneLowered}
use Rattle.closed_arcs.proofs.FromLabels.{placed}

-- ---- One arc

-- Another arc's note changes nothing.
up_to_date_noted : {N : Network} {labels arrivals : List ℕ} {a : ℕ} (k x : ℕ) → (a ≡ k → ⊥) → UpToDate N labels arrivals a → UpToDate N labels (set arrivals k x) a
up_to_date_noted {arrivals = arrivals} {a} k x other s = record {
  arrived = s.arrived;
  on_arc = s.on_arc;
  tick_is = get_or-set_other arrivals k a x 0 other ∙ s.tick_is;
  no_lower = s.no_lower;
}

-- Nor does a lowered label, but for the tail's.
module _ (N : Network) (labels : List ℕ) (a j t : ℕ) (inside : j < length labels) (less : t ≤ get_or labels j never) (other : get_or N.tails a 0 ≡ j → ⊥) where
  same_arrival : offered N (set labels j t) a ≡ offered N labels a
  same_arrival = ap (drive_of (roads_of N) a) (get_or-set_other labels j (get_or N.tails a 0) t never other)

  falls : (i : ℕ) → get_or (set labels j t) i never ≤ get_or labels i never
  falls i = by_cases (ℕ_discrete i j) (λ e. rw (e, get_or-set_same labels j t never inside) less) (λ differs. rw (get_or-set_other labels j i t never differs) (le_refl _))

  still_on : {arrived : Option (ℕ × ℕ)} → OnArc N labels a arrived → OnArc N (set labels j t) a arrived
  still_on (arrives is by in_interval) = arrives (is ∙ sym same_arrival) by in_interval
  still_on (too_late late) = too_late (omega (arith, falls (get_or N.heads a 0), same_arrival))
  still_on (not_driven none-driven) = not_driven (same_arrival ∙ none-driven)

  up_to_date_lowered : {arrivals : List ℕ} → UpToDate N labels arrivals a → UpToDate N (set labels j t) arrivals a
  up_to_date_lowered s = record {
    arrived = s.arrived;
    on_arc = still_on s.on_arc;
    tick_is = s.tick_is;
    no_lower = omega (arith, s.no_lower, falls (get_or N.heads a 0), same_arrival);
  }

-- ---- The arcs of a pass

pub current_starts : {N : Network} {labels arrivals : List ℕ} → length arrivals ≡ 640 → Current N labels arrivals (replicate 200 0) 0 0
current_starts long = record {
  arrivals_long = long;
  latest_long = length-replicate {A = ℕ} 200 0;
  by_now = λ j. rw (get_or-all {A = ℕ} 200 0 j) (omega arith);
  seen = λ a h. absurd (omega arith);
  ahead = λ a h is_arc early. absurd (omega arith);
}

pub none_lowered : NoneLowered (replicate 200 0) 0
none_lowered j = rw (get_or-all {A = ℕ} 200 0 j) (omega arith)

-- After the last arc the next pass may start.
pub current_next : {N : Network} {labels arrivals latest : List ℕ} {made : ℕ} → Current N labels arrivals latest made (arcs N) →
    Current N labels arrivals latest (made + 1) 0 × NoneLowered latest (made + 1)
current_next c = (
  record {
    arrivals_long = c.arrivals_long;
    latest_long = c.latest_long;
    by_now = λ j. omega (arith, c.by_now j);
    seen = λ a h. absurd (omega arith);
    ahead = λ a h is_arc early. c.seen a is_arc is_arc (omega arith);
  },
  λ j. omega (arith, c.by_now j),
)

-- Where the pass has lowered no label, every arc is up to date.
pub all_up_to_date : {N : Network} {labels arrivals latest : List ℕ} {made : ℕ} → Current N labels arrivals latest made (arcs N) → NoneLowered latest made →
    AllUpToDate N labels arrivals (arcs N)
all_up_to_date c none_lowered a is_arc = c.seen a is_arc is_arc (none_lowered _)

module _ {N : Network} {labels intervals arrivals latest : List ℕ} (p : TimedLabels N labels intervals) {made k : ℕ} (is_arc : k < arcs N)
    (c : Current N labels arrivals latest made k) where
  abbrev tail : ℕ
  tail = get_or N.tails k 0

  abbrev head : ℕ
  head = get_or N.heads k 0

  -- An arc that is up to date is passed over.
  pub was_up_to_date : get_or latest tail 0 < made → UpToDate N labels arrivals k
  was_up_to_date early = c.ahead k (le_refl _) is_arc early

  pub current_skips : get_or latest tail 0 < made → Current N labels arrivals latest made (k + 1)
  current_skips early = record {
    arrivals_long = c.arrivals_long;
    latest_long = c.latest_long;
    by_now = c.by_now;
    seen = λ a h a-is-arc stays.
        by_cases (ℕ_discrete a k) (λ e. rw e (was_up_to_date early)) (λ other. c.seen a (omega arith) a-is-arc stays);
    ahead = λ a h a-is-arc. c.ahead a (omega arith) a-is-arc;
  }

  module _ {arrived : Option (ℕ × ℕ)} (on : OnArc N labels k arrived) where
    is_noted : get_or (set arrivals k (tick_of arrived)) k 0 ≡ tick_of arrived
    is_noted = get_or-set_same arrivals k (tick_of arrived) 0 (omega (arith, c.arrivals_long, (placed p is_arc).has_arc.few_arcs))

    -- One that would lower no label is up to date now.
    pub current_keeps : get_or labels head never ≤ offered N labels k → Current N labels (set arrivals k (tick_of arrived)) latest made (k + 1)
    current_keeps no_lower = record {
      arrivals_long = length-set arrivals k (tick_of arrived) ∙ c.arrivals_long;
      latest_long = c.latest_long;
      by_now = c.by_now;
      seen = λ a h a-is-arc stays.
          by_cases (ℕ_discrete a k)
          (λ e. rw e (record { arrived = arrived; on_arc = on; tick_is = is_noted; no_lower = no_lower }))
          (λ other. up_to_date_noted k (tick_of arrived) other (c.seen a (omega arith) a-is-arc stays));
      ahead = λ a h a-is-arc early. up_to_date_noted k (tick_of arrived) (λ e. omega arith) (c.ahead a (omega arith) a-is-arc early);
    }

    -- One that lowers its head's label is up to date too, and those that leave the head are not.
    pub current_lowers : {tick : ℕ} → tick ≡ offered N labels k → tick < get_or labels head never →
        Current N (set labels head tick) (set arrivals k (tick_of arrived)) (set latest head (made + 1)) made (k + 1)
    current_lowers {tick} is less = record {
      arrivals_long = length-set arrivals k (tick_of arrived) ∙ c.arrivals_long;
      latest_long = length-set latest head (made + 1) ∙ c.latest_long;
      by_now = λ j.
          by_cases (ℕ_discrete j head)
          (λ e. rw (e, now_lowered) (omega arith))
          (λ other. rw (get_or-set_other latest head j (made + 1) 0 other) (c.by_now j));
      seen = λ a h a-is-arc stays.
          let (other, same) = of_other a stays in
          by_cases (ℕ_discrete a k)
          (λ e. rw e (record {
            arrived = arrived;
            on_arc = still_on N labels k head tick inside (omega arith) (rw e at other) on;
            tick_is = is_noted;
            no_lower = omega (arith, now_label, is, same_arrival N labels k head tick inside (omega arith) (rw e at other));
          }))
          (λ not-this. up_to_date_noted k (tick_of arrived) not-this (up_to_date_lowered N labels a head tick inside (omega arith) other (c.seen a (omega arith) a-is-arc (omega arith))));
      ahead = λ a h a-is-arc early.
          let (other, same) = of_other a (omega arith) in
          up_to_date_noted k (tick_of arrived) (λ e. omega arith) (up_to_date_lowered N labels a head tick inside (omega arith) other (c.ahead a (omega arith) a-is-arc (omega arith)));
    }
      where
        inside : head < length labels
        inside = (placed p is_arc).head_inside

        now_label : get_or (set labels head tick) head never ≡ tick
        now_label = get_or-set_same labels head tick never inside

        now_lowered : get_or (set latest head (made + 1)) head 0 ≡ made + 1
        now_lowered = get_or-set_same latest head (made + 1) 0 (omega (arith, c.latest_long, (placed p is_arc).head_inside, (placed p is_arc).few_junctions))

        -- a junction whose label this pass has not lowered is not the head
        of_other : (a : ℕ) → get_or (set latest head (made + 1)) (get_or N.tails a 0) 0 ≤ made →
            (get_or N.tails a 0 ≡ head → ⊥) × (get_or (set latest head (made + 1)) (get_or N.tails a 0) 0 ≡ get_or latest (get_or N.tails a 0) 0)
        of_other a stays = by_cases (ℕ_discrete (get_or N.tails a 0) head)
            (λ e. absurd (omega (arith, now_lowered, rw e at stays)))
            (λ other. (other, get_or-set_other latest head (get_or N.tails a 0) (made + 1) 0 other))
