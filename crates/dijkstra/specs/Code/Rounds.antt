-- A round of the labelling: a junction is settled, and its arcs make their offers.
use Rattle.std.specs.Prelude.{ℕ, ◌≤◌, ◌<◌, ◌≡◌, Bool, true, List, length, get_or, set, replicate}
use Rattle.model.specs.Ticks.{never}
use Rattle.model.specs.Limits.{max_junctions}
use Rattle.model.specs.Intervals.{interval_of_lem, Beside}
use Rattle.model.specs.Network.{Roads}
use Rattle.tournament.specs.Tournament.{Entered}
use Rattle.dijkstra.specs.Code.Offering.{Tables, tables, Leaves, Drivable, AllOffered}

-- What it is handed: a junction that has a label, and its arcs.
pub record Settleable (R : Roads) (heads first next : List ℕ) (junction : ℕ) (before : Tables) : Type 0 where
  pub has_label : junction < length before.labels
  pub drivable : Drivable R heads next (get_or first junction 0) before

-- What it leaves. The junction leaves the tournament before its arcs are driven, from its label and the interval that is kept beside it.
pub record Settles (R : Roads) (heads first next : List ℕ) (junction : ℕ) (settled settled' : List Bool) (before after : Tables) : Type 0 where
  pub settled_is : settled' ≡ set settled junction true
  pub tree : List ℕ
  pub out : Entered before.tree junction never tree
  pub offered : AllOffered R heads next (set settled junction true) (get_or before.labels junction 0) (get_or before.intervals junction 0)
      (get_or first junction 0) (tables before.labels before.predecessors before.intervals tree) after

-- ---- The intervals beside the labels

-- The labelling keeps them from round to round, in a table that has room for every junction.
pub record IntervalsKept (fences : List ℕ) (t : Tables) : Type 0 where
  pub long : length t.intervals ≡ max_junctions
  pub interval_is : Beside fences t.labels t.intervals

-- It holds at the start, where the source alone is reached, with the departure's interval.
abbrev pub IntervalKeptAtStart : Type 0
IntervalKeptAtStart = (fences : List ℕ) (t : Tables) (junctions source departure interval : ℕ) → source < junctions → source < max_junctions →
    t.labels ≡ set (replicate junctions never) source departure → t.intervals ≡ set (replicate max_junctions 0) source interval →
    interval ≡ interval_of_lem fences departure → IntervalsKept fences t

-- It stays with an offer that brings its tick's interval.
abbrev pub IntervalsKeptByOffer : Type 0
IntervalsKeptByOffer = (fences : List ℕ) (before after : Tables) (a head tick interval : ℕ) → head < length before.labels →
    length before.labels ≤ max_junctions → Leaves a head tick interval before after → interval ≡ interval_of_lem fences tick →
    IntervalsKept fences before → IntervalsKept fences after
