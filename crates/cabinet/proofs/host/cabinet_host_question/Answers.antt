-- `host::cabinet_host_question`: Load's refusal; or Route's refusal or arrival in the town's network is the answer.
use mathlib.Core.Path.{◌≡◌, ap, ◌∙◌}
use mathlib.Core.List.{[]}
use Rattle.routing.specs.Route.{route_outcome}
use Rattle.townfile.specs.Answers.{reading_of}
use Rattle.model.specs.Lent.{lent_network}
use Rattle.cabinet.specs.Host.{after_load, after_route, label_or_code, host_answer}
use Rattle.cabinet.proofs.HostSteps.{load_refuses, load_hands_on, route_refuses, route_arrives}
use Rattle.cabinet.proofs.host.cabinet_host_question.Goals as goal
use Rattle.cabinet.proofs.host.cabinet_host_question.Goals.{After-network-network}

-- Load's refusal is the host question's.
pub returns-in_default : goal.returns-in_default
returns-in_default c =
    c.load_code.ensures ∙ ap (λ l. after_load (reading_of l) 0) c.in_default.is ∙ load_refuses _ _ _ _ (rw c.empty-town.ensures at c.in_default.ensures.answer)

-- What Route comes to in the town's network is the answer.
handed_on : (c : After-network-network) →
    let args = c.args in
    label_or_code (lent_network c.network-network.result []) args.source args.departure args.destination ≡ host_answer args.text.now args.source args.departure args.destination
handed_on c =
    let args = c.args in
    ap (λ N. label_or_code N args.source args.departure args.destination) (c.network-network.ensures ∙ c.in-Ok.ensures.network.is_network)
    ∙ load_hands_on _ _ _ _ (rw c.empty-town.ensures at c.in-Ok.ensures.answer)

pub returns-in_default-routed : goal.returns-in_default-routed
returns-in_default-routed c =
    c.route_code.ensures ∙ ap (λ r. after_route (route_outcome r) 0) c.in_default-routed.is
    ∙ route_refuses _ _ _ _ c.in_default-routed.ensures.answer
    ∙ handed_on (goal.at.returns-in_default-routed c).After-network-network

pub returns : goal.returns
returns c =
    route_arrives _ _ _ _ c.in-Ok-routed.ensures.answer c.in-Ok-routed.ensures.arrival ∙ handed_on (goal.at.returns c).After-network-network
