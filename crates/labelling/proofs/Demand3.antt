-- Demand 3: of arrivals and of labels by the theory of nets; of calls, since one that replies leaves the labels.
use Rattle.model.proofs.Demands.{arrivals_no_later, labels_no_later}
use Rattle.labelling.specs.Demand3.{Demand3}
use Rattle.labelling.proofs.LabelRules.{answered}

pub demand_3 : Demand3
demand_3 A B asker source early late better = record {
  arrivals = arrivals_no_later better source;
  labels = labels_no_later better source;
  calls = λ labels predecessors labels' predecessors' a b j h.
      let t = (answered A asker source late labels predecessors a).1.taken in
      rw (a, b) (labels_no_later better source t.source_below t.departure_below j h);
}
