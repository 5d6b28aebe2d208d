-- `town::town_labels`: Load's refusal; or in the town's network Labels refuses, or labels it.
use mathlib.Core.List.{[]}
use mathlib.Core.Path.{refl, sym, ap, ◌∙◌}
use native.Mathlib.Omega.{arith}
use Rattle.std.proofs.lemmas.Result.{err_from_is_err_and}
use Rattle.townfile.specs.FirstFault.{accepted}
use Rattle.refusals.specs.Answers.{outcome_of}
use Rattle.question_line.proofs.Towns.{TownLent, town_refused, town_lent}
use Rattle.model.specs.Lent.{lent_network}
use Rattle.town_labels.specs.Labelling.{network_labelling}
use Rattle.town_labels.proofs.Networks.{labels_count, ends_refused, ends_written}
use Rattle.town_labels.proofs.town.town_labels.Goals as goal
use Rattle.town_labels.proofs.town.town_labels.Goals.{After-network}

pub returns-in_err-counts : goal.returns-in_err-counts
returns-in_err-counts c =
    let refused = town_refused (λ N. network_labelling N c.args.source c.args.departure) c.args.text.now (λ i h. (c.type_inv.text i).fits) c.empty-town.ensures
    c.in_err-counts.ensures.answer in
    let is = err_from_is_err_and c.from_residual.result c.from_residual.ensures.1 in
    record { answer = rw (is.1, is.2, refused) refl; labels = rw refused refl; predecessors = rw refused refl }

-- the town's network
abbrev Lent : After-network → Type 0
Lent c = TownLent (λ N. network_labelling N c.args.source c.args.departure) c.args.text.now (λ i h. (c.type_inv.text i).fits) (lent_network c.network.result [])

lent : (c : After-network) → Lent c
lent c =
    town_lent (λ N. network_labelling N c.args.source c.args.departure) c.args.text.now (λ i h. (c.type_inv.text i).fits) c.empty-town.ensures
    c.in_ok-counts.ensures.answer c.in_ok-counts.ensures.tables c.network.ensures

pub returns-in-Err : goal.returns-in-Err
returns-in-Err c =
    let town = lent (goal.at.returns-in-Err c).After-network in
    let (same, labels_stay, predecessors_stay) = ends_refused _ c.args.source c.args.departure town.checked refl c.args.labels.now c.args.predecessors.now
    (omega arith) (omega arith) (ap outcome_of (sym c.in-Err.is) ∙ c.labels_in_town.ensures.answer) in
    let refused = town.answers ∙ same in
    record {
      answer = rw refused refl;
      labels = rw refused (c.labels_in_town.ensures.labels ∙ labels_stay);
      predecessors = rw refused (c.labels_in_town.ensures.predecessors ∙ predecessors_stay);
    }

pub returns-in-Ok : goal.returns-in-Ok
returns-in-Ok c =
    let town = lent (goal.at.returns-in-Ok c).After-network in
    let (same, labels-written, predecessors-written) = ends_written _ c.args.source c.args.departure town.checked refl c.args.labels.now c.args.predecessors.now
    (omega arith) (omega arith) (ap outcome_of (sym c.in-Ok.is) ∙ c.labels_in_town.ensures.answer) in
    let written = town.answers ∙ same in
    let count = ap (λ N. N.junctions) c.network.ensures in
    record {
      answer = rw written (ap accepted (sym count ∙ sym (labels_count _ c.args.source c.args.departure)));
      labels = rw written (c.labels_in_town.ensures.labels ∙ labels-written);
      predecessors = rw written (c.labels_in_town.ensures.predecessors ∙ predecessors-written);
    }
