-- What is kept beside the labels stays the interval of each: it holds of the departure's, and an offer that lowers a label brings its own.
use Prim.Native.Nat.{ℕ}
use mathlib.Core.Path.{ap, ◌∙◌}
use mathlib.Core.List.{List}
use mathlib.Core.Logic.{⊎_elim}
use native.Mathlib.Omega.{arith}
use lib.ListN.{length, get_or, replicate, length-set, length-replicate}
use Rattle.model.proofs.Beside.{beside_set, beside_first}
use Rattle.model.proofs.Tests.{ltb_cases}
use Rattle.dijkstra.specs.Code.Offering.{Tables, tables}
use Rattle.dijkstra.specs.Code.Rounds.{IntervalsKept, IntervalKeptAtStart, IntervalsKeptByOffer}

pub kept_first : IntervalKeptAtStart
kept_first fences t junctions source departure interval is_junction few labels_are intervals_are in_interval = record {
  long = ap length intervals_are ∙ length-set (replicate 200 0) source interval ∙ length-replicate {A = ℕ} 200 0;
  interval_is = rw (labels_are, intervals_are) (beside_first fences junctions 200 source departure interval is_junction few in_interval);
}

-- The tournament has no part in it.
pub kept_by : {fences : List ℕ} {t : Tables} {tree : List ℕ} → IntervalsKept fences t →
    IntervalsKept fences (tables t.labels t.predecessors t.intervals tree)
kept_by kept = record { long = kept.long; interval_is = kept.interval_is }

pub kept_offered : IntervalsKeptByOffer
kept_offered fences t u a head tick interval inside few leaves in_interval kept =
    ⊎_elim
    (λ w.
    let labels_are = rw w.0 at leaves.labels_are in
    let intervals_are = rw w.0 at leaves.intervals_are in
    record {
      long = ap length intervals_are ∙ length-set t.intervals head interval ∙ kept.long;
      interval_is = rw (labels_are, intervals_are)
          (beside_set fences t.labels t.intervals head tick interval inside (omega (arith, kept.long)) in_interval kept.interval_is);
    })
    (λ w.
    let labels_are = rw w.0 at leaves.labels_are in
    let intervals_are = rw w.0 at leaves.intervals_are in
    record { long = ap length intervals_are ∙ kept.long; interval_is = rw (labels_are, intervals_are) kept.interval_is })
    (ltb_cases tick (get_or t.labels head 0))
