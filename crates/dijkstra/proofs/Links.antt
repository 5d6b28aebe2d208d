-- The offers of a junction's arcs along the links. Between two of them (`Onward`) the tables are as long as at the start, the matches are
-- played, and what the arcs from a on leave is what all of them leave.
use Prim.Native.Nat.{ℕ, ◌-◌, ◌%◌, ◌<◌}
use mathlib.Core.Path.{◌≡◌, refl, ◌∙◌}
use mathlib.Core.Bool.{Bool, true, false}
use mathlib.Core.List.{List}
use mathlib.Core.Logic.{by_cases}
use native.Mathlib.Decide.{ℕ_discrete}
use native.Mathlib.Omega.{arith}
use lib.ListN.{length, get_or}
use Rattle.model.specs.Labels.{no_arc}
use Rattle.model.specs.Network.{Roads}
use Rattle.closed_arcs.specs.Arcs.{HasArc}
use Rattle.closed_arcs.proofs.Arcs.{arc_inside}
use Rattle.tournament.specs.Tournament.{Tournament}
use Rattle.dijkstra.specs.Code.Offering.{Tables, tables, Offerable, ArcOffered, Drivable, AllOffered, skips, offers}
use Rattle.dijkstra.proofs.Offered.{labels_stay, predecessors_stay, tournament_stays}

pub record Onward (R : Roads) (heads next : List ℕ) (first : ℕ) (before : Tables) (settled : List Bool) (tick interval a : ℕ) (now : Tables) : Type 0 where
  pub arc_is : (a ≡ no_arc → ⊥) → a < length heads
  pub labels_long : length now.labels ≡ length before.labels
  pub predecessors_long : length now.predecessors ≡ length before.predecessors
  pub tournament : Tournament now.tree
  pub so_far : (after : Tables) → AllOffered R heads next settled tick interval a now after →
      AllOffered R heads next settled tick interval first before after

module _ {R : Roads} {heads next : List ℕ} {first : ℕ} {before : Tables} (d : Drivable R heads next first before) where
  -- another tree whose matches are played does as well
  pub drivable_by : {tree : List ℕ} → Tournament tree → Drivable R heads next first (tables before.labels before.predecessors before.intervals tree)
  drivable_by played = record {
    few_arcs = d.few_arcs;
    few_intervals = d.few_intervals;
    lengths_long = d.lengths_long;
    holds_long = d.holds_long;
    speeds_long = d.speeds_long;
    few_junctions = d.few_junctions;
    predecessors_long = d.predecessors_long;
    head_below = d.head_below;
    first_is = d.first_is;
    next_is = d.next_is;
    tournament = played;
  }

  pub onward_starts : (settled : List Bool) (tick interval : ℕ) → Onward R heads next first before settled tick interval first before
  onward_starts settled tick interval = record {
    arc_is = d.first_is;
    labels_long = refl;
    predecessors_long = refl;
    tournament = d.tournament;
    so_far = λ after rest. rest;
  }

  module _ {settled : List Bool} {tick interval a : ℕ} {now : Tables} (o : Onward R heads next first before settled tick interval a now)
      (some : a ≡ no_arc → ⊥) where
    abbrev is_arc : a < length heads
    is_arc = o.arc_is some

    pub onward_arc : HasArc R a
    onward_arc = record {
      few_arcs = omega (arith, is_arc, d.few_arcs);
      few_intervals = d.few_intervals;
      has_length = omega (arith, is_arc, d.lengths_long);
      has_hold = omega (arith, is_arc, d.holds_long);
      has_speeds = omega (arith, arc_inside a (length R.fences) (length heads) is_arc, d.speeds_long);
    }

    -- the code takes the head's remainder, which is the head
    abbrev head : ℕ
    head = get_or heads a 0 % 256

    head_is : head ≡ get_or heads a 0
    head_is = omega (arith, d.head_below a is_arc, d.few_junctions)

    pub onward_offerable : Offerable head now
    onward_offerable = record {
      is_junction = omega (arith, d.head_below a is_arc, d.few_junctions);
      has_label = omega (arith, head_is, d.head_below a is_arc, o.labels_long);
      has_predecessor = omega (arith, head_is, d.head_below a is_arc, o.predecessors_long, d.predecessors_long);
      tournament = o.tournament;
    }

    pub onward_skips : get_or settled head false ≡ true →
        Onward R heads next first before settled tick interval (get_or next a 0) now
    onward_skips done = record {
      arc_is = λ more. (d.next_is a is_arc more).1;
      labels_long = o.labels_long;
      predecessors_long = o.predecessors_long;
      tournament = o.tournament;
      so_far = λ after rest. o.so_far after (skips some (rw head_is at done) rest);
    }

    pub onward_offers : {then : Tables} → get_or settled head false ≡ false → ArcOffered R a head tick interval now then →
        Onward R heads next first before settled tick interval (get_or next a 0) then
    onward_offers waits driven = record {
      arc_is = λ more. (d.next_is a is_arc more).1;
      labels_long = labels_stay driven ∙ o.labels_long;
      predecessors_long = predecessors_stay driven ∙ o.predecessors_long;
      tournament = tournament_stays driven o.tournament;
      so_far = λ after rest. o.so_far after (offers some (rw head_is at waits) (rw head_is at driven) rest);
    }

    -- the next arc has a higher number, or is none
    pub next_higher : no_arc - get_or next a 0 < no_arc - a
    next_higher =
        let few : a < 640 = omega (arith, is_arc, d.few_arcs) in
        by_cases (ℕ_discrete (get_or next a 0) no_arc) (λ e. omega (arith, e)) (λ more. omega (arith, (d.next_is a is_arc more).0, (d.next_is a is_arc more).1))
