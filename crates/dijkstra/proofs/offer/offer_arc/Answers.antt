-- `offer::offer_arc`: the arc arrives and the offer is made, or it does not and nothing is.
use Rattle.std.proofs.Common.{refl, sym, ap, ◌∙◌}
use Rattle.model.specs.Ticks.{arrived_at}
use Rattle.dijkstra.specs.Code.Offering.{missed, offered}
use Rattle.dijkstra.proofs.offer.offer_arc.Goals as goal

pub returns-in-Some : goal.returns-in-Some
returns-in-Some c = record { offered = offered c.in-Some.ensures.arrives_on c.offer.ensures.leaves; same = c.offer.ensures.same }

pub returns-in_default : goal.returns-in_default
returns-in_default c = record {
  offered = missed (λ few kept. sym (ap arrived_at c.in_default.is) ∙ c.drive.ensures.arrives_on few kept);
  same = record { labels = refl; predecessors = refl };
}
