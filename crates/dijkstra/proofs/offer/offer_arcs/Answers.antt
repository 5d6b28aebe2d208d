-- `offer::offer_arcs` keeps `Onward` along the links, whose arcs have ever higher numbers.
use Rattle.std.proofs.Common.{refl, inl, inr, ◌∙◌}
use Rattle.dijkstra.specs.Code.Offering.{held, none_left}
use Rattle.dijkstra.proofs.Links.{onward_skips, onward_offers}
use Rattle.dijkstra.proofs.NoneDriven.{none_arrives, none_offered}
use Rattle.dijkstra.proofs.offer.offer_arcs.Goals as goal
use Rattle.dijkstra.proofs.offer.offer_arcs.Goals.{then-not-settled-head, else-not-settled-head}

pub returns-then-roads-interval : goal.returns-then-roads-interval
returns-then-roads-interval c = record {
  offered = none_offered c.requires _ _ _ (none_arrives _ _ _ (inl c.if-roads-interval.true));
  same = record { labels = refl; predecessors = refl };
}

pub returns-then-tick-ge-LAST : goal.returns-then-tick-ge-LAST
returns-then-tick-ge-LAST c = record {
  offered = none_offered c.requires _ _ _ (none_arrives _ _ _ (inr c.if-tick-ge-LAST.true));
  same = record { labels = refl; predecessors = refl };
}

pub loop-a-preserved : goal.loop-a-preserved
loop-a-preserved c =
    let some = c.loop-a-test.true in
    let (onward, same) = c.loop-a.invariant in
    elim c.if-not-settled-head.branch [
      | then-not-settled-head w ↦
          rw w.tables-is (
            onward_offers c.requires onward some w.if-not-settled-head.true w.offer_arc.ensures.offered,
            record { labels = w.offer_arc.ensures.same.labels ∙ same.labels; predecessors = w.offer_arc.ensures.same.predecessors ∙ same.predecessors },
          )
      | else-not-settled-head w ↦ rw w.tables-is (onward_skips c.requires onward some w.if-not-settled-head.false, same)
    ]

pub returns : goal.returns
returns c =
    let left = c.loop-a in
    record { offered = left.invariant.0.so_far (held left.tables) (rw c.loop-a-test.false none_left); same = left.invariant.1 }
