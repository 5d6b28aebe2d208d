-- `town::Town::load`: what Load promises of the tables, the town's own.
use Rattle.loading.proofs.Loaded.{loaded_town}
use Rattle.loading.proofs.town.Town.load.Goals as goal

pub returns-clause-network : goal.returns-clause-network
returns-clause-network c =
    loaded_town c.args.text.now _ _ c.load.result (λ i h. (c.type_inv.text i).fits) c.load.ensures.answer c.load.ensures.tables
