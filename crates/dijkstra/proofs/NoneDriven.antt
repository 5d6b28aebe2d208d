-- Where nothing can be driven, in no interval of the plan or from the last tick on, every arc along the links misses, and so nothing is left
-- changed.
use Prim.Native.Nat.{ℕ, zero, suc, ◌-◌, ◌≤◌, ◌<◌}
use mathlib.Core.Path.{◌≡◌, refl}
use mathlib.Core.Bool.{Bool, true, false}
use mathlib.Core.List.{List}
use mathlib.Core.Logic.{◌⊎◌, ⊎_elim}
use Rattle.std.specs.Prelude.{None}
use native.Mathlib.Decide.{ℕ_discrete}
use native.Mathlib.Omega.{arith}
use lib.ListN.{length, get_or}
use Rattle.model.specs.Ticks.{last, never}
use Rattle.model.specs.Labels.{no_arc}
use Rattle.model.specs.Flow.{spans_of}
use Rattle.model.specs.Network.{Roads, speed_on, drive_of}
use Rattle.model.proofs.Holds.{with_hold_is_later}
use Rattle.model.proofs.Networks.{drive_by_last}
use Rattle.model.proofs.WithInterval.{told_none}
use Rattle.driving.proofs.Driving.{kept_inside}
use Rattle.closed_arcs.specs.Arcs.{ArrivesOn}
use Rattle.dijkstra.specs.Code.Offering.{Tables, Drivable, AllOffered, none_left, skips, offers, missed}

-- Driving takes time, and is done by the last tick or never.
never_from_last_on : (R : Roads) (a tick : ℕ) → 1 ≤ get_or R.lengths a 0 → last ≤ tick → tick ≤ last → drive_of R a tick ≡ never
unfolding drive_of
never_from_last_on R a tick some late in_time =
    let later : tick < drive_of R a tick = with_hold_is_later (speed_on R a) (spans_of (get_or R.lengths a 0)) _ tick (omega (arith, some)) (omega arith) in
    ⊎_elim (λ by. absurd (omega (arith, by, later))) (λ is. is) (drive_by_last R a tick)

pub none_arrives : (R : Roads) (tick interval : ℕ) → (length R.fences ≤ interval) ⊎ (last ≤ tick) → (a : ℕ) → ArrivesOn R a tick interval None
none_arrives R tick interval out a few kept =
    ⊎_elim
    (λ outside. absurd (omega (arith, outside, kept_inside kept)))
    (λ late. rw (never_from_last_on R a tick kept.some_length late kept.in_time) (told_none R.fences never (omega arith)))
    out

module _ {R : Roads} {heads next : List ℕ} {first : ℕ} {t : Tables} (d : Drivable R heads next first t) (settled : List Bool) (tick interval : ℕ)
    (misses : (a : ℕ) → ArrivesOn R a tick interval None) where
  -- the arc after arc a is nearer to the end, or none is
  nearer : (a count : ℕ) → a < length heads → length heads - a ≤ suc count → length heads - get_or next a 0 ≤ count
  nearer a count is_arc left = go (ℕ_discrete (get_or next a 0) no_arc)
    where
      go : Dec (get_or next a 0 ≡ no_arc) → length heads - get_or next a 0 ≤ count
      go (yes ends) = omega (arith, d.few_arcs)
      go (no more) = omega (arith, (d.next_is a is_arc more).0)

  from_arc : (count a : ℕ) → ((a ≡ no_arc → ⊥) → a < length heads) → length heads - a ≤ count → AllOffered R heads next settled tick interval a t t
  from_arc zero a is_arc left = go (ℕ_discrete a no_arc)
    where
      go : Dec (a ≡ no_arc) → AllOffered R heads next settled tick interval a t t
      go (yes ends) = rw ends none_left
      go (no some) = absurd (omega (arith, is_arc some))
  from_arc (suc count) a is_arc left =
      go (ℕ_discrete a no_arc) (get_or settled (get_or heads a 0) false) refl
      (λ some. from_arc count (get_or next a 0) (λ more. (d.next_is a (is_arc some) more).1) (nearer a count (is_arc some) left))
    where
      go : Dec (a ≡ no_arc) → (done : Bool) → get_or settled (get_or heads a 0) false ≡ done →
          ((a ≡ no_arc → ⊥) → AllOffered R heads next settled tick interval (get_or next a 0) t t) → AllOffered R heads next settled tick interval a t t
      go (yes ends) done e rest = rw ends none_left
      go (no some) true e rest = skips some e (rest some)
      go (no some) false e rest = offers some e (missed (misses a)) (rest some)

  pub none_offered : AllOffered R heads next settled tick interval first t t
  none_offered = from_arc (length heads) first d.first_is (omega arith)
