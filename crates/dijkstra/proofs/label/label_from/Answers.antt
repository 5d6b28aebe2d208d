-- `label::label_from`: where the test fails nothing is written, and no question that is labelable fails it.
use Rattle.std.proofs.Common.{refl}
use Rattle.checking.proofs.Flags.{true_not_false}
use Rattle.dijkstra.proofs.Labelable.{labelable_fits}
use Rattle.dijkstra.proofs.label.label_from.Goals as goal

pub returns-then-not-fits-clause-labels : goal.returns-then-not-fits-clause-labels
returns-then-not-fits-clause-labels c = record {
  when_labelable = λ q. absurd (true_not_false ((c.fits.ensures _).1 (labelable_fits q)) c.if-not-fits.true);
  unless_fits = λ unfit. refl;
}

pub returns-then-not-fits-clause-predecessors : goal.returns-then-not-fits-clause-predecessors
returns-then-not-fits-clause-predecessors c = record {
  when_labelable = λ q. absurd (true_not_false ((c.fits.ensures _).1 (labelable_fits q)) c.if-not-fits.true);
  unless_fits = λ unfit. refl;
}

pub label_all-requires : goal.label_all-requires
label_all-requires c = (c.fits.ensures _).0 c.if-not-fits.false

pub returns-clause-labels : goal.returns-clause-labels
returns-clause-labels c = record {
  when_labelable = c.label_all.ensures.labels;
  unless_fits = λ unfit. absurd (unfit ((c.fits.ensures _).0 c.if-not-fits.false));
}

pub returns-clause-predecessors : goal.returns-clause-predecessors
returns-clause-predecessors c = record {
  when_labelable = c.label_all.ensures.predecessors;
  unless_fits = λ unfit. absurd (unfit ((c.fits.ensures _).0 c.if-not-fits.false));
}
