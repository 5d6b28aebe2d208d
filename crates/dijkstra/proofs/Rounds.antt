-- The labelling's loop. Whatever the tables, between two rounds the arcs are linked and the tables stand; where the question is taken,
-- the settled junctions' arcs have offered too (`Between`). A round keeps this.
use Prim.Native.Nat.{ℕ, ◌<◌}
use mathlib.Core.Path.{◌∙◌}
use mathlib.Core.Bool.{Bool}
use mathlib.Core.List.{List}
use native.Mathlib.Omega.{arith}
use lib.ListN.{get_or}
use Rattle.model.specs.Network.{Network, roads_of}
use Rattle.checking.specs.Question.{Taken}
use Rattle.index_bounds.specs.Fitting.{TablesFit}
use Rattle.dijkstra.specs.Code.Linked.{Linked}
use Rattle.dijkstra.specs.Code.Offering.{Tables, Drivable}
use Rattle.dijkstra.specs.Code.Rounds.{Settles}
use Rattle.dijkstra.proofs.Queue.{Waits, Nearest, ByLast}
use Rattle.dijkstra.proofs.Standing.{Standing, stands_settles, stands_offered}
use Rattle.dijkstra.proofs.Turns.{Round, labels_by_last, first_of, next_later, turn_starts, turn_through, turn_ends}

pub record Between (N : Network) (source departure : ℕ) (first next : List ℕ) (settled : List Bool) (t : Tables) : Type 0 where
  pub linked : Linked N.tails first next
  pub standing : Standing N.junctions settled t
  pub round : Taken N source departure → Round N source departure settled t

module _ {N : Network} (fit : TablesFit N) where
  pub drivable : {first next : List ℕ} {settled : List Bool} {t : Tables} {junction : ℕ} → Linked N.tails first next → Standing N.junctions settled t →
      junction < 200 → Drivable (roads_of N) N.heads next (get_or first junction 0) t
  drivable {next} linked s inside = record {
    few_arcs = omega (arith, fit.heads_long, fit.arcs_fit);
    few_intervals = fit.intervals_fit;
    lengths_long = omega (arith, fit.lengths_long, fit.heads_long);
    holds_long = omega (arith, fit.holds_long, fit.heads_long);
    speeds_long = fit.speeds_long ∙ rw fit.heads_long;
    few_junctions = omega (arith, s.labels_long, fit.junctions_fit);
    predecessors_long = omega (arith, s.predecessors_long, s.labels_long);
    head_below = λ a h. omega (arith, fit.head_below a (omega (arith, fit.heads_long)), s.labels_long);
    first_is = λ some. omega (arith, (first_of N linked inside some).0, fit.heads_long);
    next_is = λ a h more.
        let (later, is_arc) = next_later N linked a (omega (arith, fit.heads_long)) more in
        (later, omega (arith, fit.heads_long));
    tournament = s.queued.tournament;
  }

  module _ {source departure : ℕ} {first next : List ℕ} {settled : List Bool} {t : Tables}
      (b : Between N source departure first next settled t) {junction : ℕ} (inside : junction < 200)
      (waits : Waits t.labels settled junction) (nearest : ByLast t.labels → Nearest t.labels settled junction) where
    pub between_goes_on : {settled' : List Bool} {u : Tables} →
        Settles (roads_of N) N.heads first next junction settled settled' t u →
        Between N source departure first next settled' u
    between_goes_on s = rw s.settled_is (record {
      linked = b.linked;
      standing = stands_offered
          (λ a h. fit.head_below a (omega (arith, fit.heads_long)))
          (λ a h more. omega (arith, (next_later N b.linked a (omega (arith, fit.heads_long)) more).1, fit.heads_long))
          s.offered
          (λ some. omega (arith, (first_of N b.linked inside some).0, fit.heads_long))
          (stands_settles b.standing inside s.out);
      round = λ q.
          let starts =
          turn_starts q (b.round q) b.standing.settled_long waits (nearest (labels_by_last q (b.round q))) b.linked in
          turn_ends q (turn_through q b.linked s.offered (first_of N b.linked inside) starts);
    })
