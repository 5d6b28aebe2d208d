-- `sheet::town_sheet`: what Load refuses, or the sheet of the town's network.
use Rattle.question_line.proofs.Towns.{town_refused, town_lent}
use Rattle.sheet_text.specs.Answer.{network_sheet_lem}
use Rattle.sheet_text.proofs.sheet.town_sheet.Goals as goal

pub returns-in-Err : goal.returns-in-Err
returns-in-Err c =
    rw (town_refused (λ N. network_sheet_lem N c.args.source c.args.departures.now) c.args.text.now (λ i h. (c.type_inv.text i).fits) c.empty-town.ensures
    c.in-Err.ensures.answer)
    c.refuse.ensures

pub network_sheet-requires-clause-speeds_value : goal.network_sheet-requires-clause-speeds_value
network_sheet-requires-clause-speeds_value c =
    (town_lent (λ N. network_sheet_lem N c.args.source c.args.departures.now) c.args.text.now (λ i h. (c.type_inv.text i).fits) c.empty-town.ensures
    c.in-Ok.ensures.answer c.in-Ok.ensures.tables c.network.ensures).checked

pub returns-in-Ok : goal.returns-in-Ok
returns-in-Ok c =
    rw (town_lent (λ N. network_sheet_lem N c.args.source c.args.departures.now) c.args.text.now (λ i h. (c.type_inv.text i).fits) c.empty-town.ensures
    c.in-Ok.ensures.answer c.in-Ok.ensures.tables c.network.ensures).answers
    c.network_sheet.ensures
