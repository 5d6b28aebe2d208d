-- `hold::interval_near`: the interval that contains the tick is its own; where another does, it is looked up.
use Rattle.std.proofs.Common.{sym, ◌∙◌, arith}
use Rattle.model.proofs.Containing.{contained}
use Rattle.driving.proofs.Holds.{interval_inside}
use Rattle.driving.proofs.hold.interval_near.Goals as goal

pub returns-then-contains-clause-value : goal.returns-then-contains-clause-value
returns-then-contains-clause-value c =
    contained c.args.fences.now _ (omega (arith, c.requires)) (sym c.contains.ensures ∙ c.if-contains.true)

pub returns-else-contains-clause-upper_bound : goal.returns-else-contains-clause-upper_bound
returns-else-contains-clause-upper_bound c = interval_inside _ _ c.requires c.interval_of.ensures
