-- `network::exports_arc_arrival`: an interval is one of 96, so that it fits above the tick.
use Rattle.std.proofs.Common.{sym, arith}
use Rattle.arc_arrival.proofs.ArcRules.{arrives_in_few}
use Rattle.exports.proofs.network.exports_arc_arrival.Goals as goal

pub overflow_mul-result : goal.overflow_mul-result
overflow_mul-result c = let few = arrives_in_few _ _ _ _ _ _ _ _ (rw c.in-Ok-Some.field-0-is at (sym c.in-Ok-Some.ensures)) in omega arith

pub overflow_add-result : goal.overflow_add-result
overflow_add-result c = let few = arrives_in_few _ _ _ _ _ _ _ _ (rw c.in-Ok-Some.field-0-is at (sym c.in-Ok-Some.ensures)) in omega arith
