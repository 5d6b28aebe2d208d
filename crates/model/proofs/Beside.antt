-- The intervals beside the labels: they stand there at the start, and stay with a label that is set together with its own.
use Prim.Native.Nat.{ℕ, ◌<◌}
use mathlib.Core.Path.{◌≡◌}
use mathlib.Core.List.{List}
use mathlib.Core.Logic.{by_cases}
use native.Mathlib.Decide.{ℕ_discrete}
use native.Mathlib.Omega.{arith}
use lib.ListN.{length, set, replicate, length-set, length-replicate}
use lib.Seq.{get_or-set_same, get_or-set_other}
use Rattle.model.specs.Ticks.{never}
use Rattle.model.specs.Intervals.{interval_of_lem, Beside}
use Rattle.model.proofs.Entries.{get_or-all}

-- A junction gets a label with its interval.
pub beside_set : (fences labels intervals : List ℕ) (head tick interval : ℕ) → head < length labels → head < length intervals →
    interval ≡ interval_of_lem fences tick → Beside fences labels intervals → Beside fences (set labels head tick) (set intervals head interval)
beside_set fences labels intervals head tick interval inside has-interval in_interval beside j is_junction reached =
    by_cases (ℕ_discrete j head)
    (λ e. rw (e, get_or-set_same labels head tick never inside, get_or-set_same intervals head interval 0 has-interval) in_interval)
    (λ other.
    let label-stays = get_or-set_other labels head j tick never other in
    rw (label-stays, get_or-set_other intervals head j interval 0 other) (beside j (rw length-set at is_junction) (rw label-stays at reached)))

-- The source alone is reached, at the departure; the table of the intervals may have room for more junctions.
pub beside_first : (fences : List ℕ) (junctions room source departure interval : ℕ) → source < junctions → source < room → interval ≡ interval_of_lem fences departure →
    Beside fences (set (replicate junctions never) source departure) (set (replicate room 0) source interval)
beside_first fences junctions room source departure interval is_junction has_room in_interval =
    beside_set fences (replicate junctions never) (replicate room 0) source departure interval
    (rw length-replicate is_junction) (rw length-replicate has_room) in_interval
    (λ j inside reached. absurd (omega (arith, get_or-all junctions never j)))
