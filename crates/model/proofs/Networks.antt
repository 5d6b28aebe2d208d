-- An accepted network is a sound net, by the laws of the arrival; and one that improves on another is a better net: of every tick
-- its speed is no lower, since the tick lies in the same interval and is closed only where it was.
use Prim.Native.Nat.{ℕ, ◌*◌, ◌≤◌, ◌<◌}
use mathlib.Core.Path.{◌≡◌, ap}
use mathlib.Core.List.{List}
use mathlib.Core.Logic.{◌⊎◌}
use native.Mathlib.Decide.{dec_lt}
use native.Mathlib.Omega.{arith}
use lib.ListN.{length, get_or, drop, length-take, get_or-eq_default}
use Rattle.model.specs.Ticks.{last, never}
use Rattle.model.specs.Intervals.{interval_of_lem, speed_at}
use Rattle.model.specs.Walks.{Sound}
use Rattle.model.specs.Network.{Network, Accepted, arcs, intervals, Roads, roads_of, speeds_of, speed_on, drive_of, net_of}
use Rattle.model.specs.Demands.{Improves, NoTickSlower}
use Rattle.model.proofs.Holds.{with_hold_is_later, with_hold_is_monotone, with_hold_non_passing, with_hold_by_last}
use Rattle.model.proofs.Closures.{closed_no_faster}
use Rattle.model.proofs.Improvement.{Better}

-- An arc is driven by the last tick or never.
pub drive_by_last : (R : Roads) (a t : ℕ) → (drive_of R a t ≤ last) ⊎ (drive_of R a t ≡ never)
unfolding drive_of
drive_by_last R a t = with_hold_by_last _ _ _ t

pub accepted_sound : (N : Network) → Accepted N → Sound (net_of N)
unfolding drive_of
accepted_sound N accepted = record {
  tail_below = accepted.tail_below;
  head_below = accepted.head_below;
  later = λ a t is_arc below. with_hold_is_later _ _ _ t (omega (arith, accepted.some_length a is_arc)) below;
  monotone = λ a s t is_arc earlier. with_hold_non_passing _ _ _ s t earlier;
  driven = λ a t is_arc. drive_by_last (roads_of N) a t;
}

module _ (A B : Network) (improves : Improves A B) where
  -- Past the last interval there is no speed at all.
  speed_no_lower : (a k : ℕ) → a < arcs A → get_or (speeds_of A a) k 0 ≤ get_or (speeds_of B a) k 0
  speed_no_lower a k is_arc = go (dec_lt k (intervals A))
    where
      go : Dec (k < intervals A) → get_or (speeds_of A a) k 0 ≤ get_or (speeds_of B a) k 0
      go (yes inside) = improves.no_slower a k is_arc inside
      go (no outside) =
          let short : length (speeds_of A a) ≤ k = omega (arith, length-take (intervals A) (drop (a * intervals A) A.speeds)) in
          omega (arith, get_or-eq_default (speeds_of A a) 0 short)

-- The plan's speed of a tick is no lower; nor is the speed with closures, since no further tick is closed.
pub no_tick_slower : NoTickSlower
unfolding speed_on speed_at
no_tick_slower A B improves a t is_arc =
    let same : interval_of_lem A.fences t ≡ interval_of_lem B.fences t = ap (λ (fences : List ℕ). interval_of_lem fences t) improves.same_fences in
    closed_no_faster A.closures B.closures a t _ _ (improves.no_more_closed a t is_arc)
    (rw (← same) (speed_no_lower A B improves a (interval_of_lem A.fences t) is_arc))

module _ (A B : Network) (improves : Improves A B) where
  pub drive_no_later : (a s t : ℕ) → a < arcs A → s ≤ t → drive_of (roads_of B) a s ≤ drive_of (roads_of A) a t
  unfolding drive_of
  drive_no_later a s t is_arc earlier =
      with_hold_is_monotone _ _ _ _ _ _ s t earlier
      (omega (arith, improves.no_longer a is_arc)) (improves.no_greater_hold a is_arc)
      (λ u. no_tick_slower A B improves a u is_arc)

  pub improves_better : Better (net_of A) (net_of B)
  improves_better = record {
    more_junctions = improves.more_junctions;
    more_arcs = improves.more_arcs;
    same_tail = improves.same_tail;
    same_head = improves.same_head;
    no_later = drive_no_later;
  }
