-- `stopping::put_stopping`: of the first rows those that stop the asker stand in the first places.
use Rattle.std.proofs.Common.{◌≡◌, ◌≤◌, length, take}
use Rattle.model.specs.Closures.{closures_of, max_closures}
use Rattle.closures.proofs.StoppingRows.{kept_of}
use Rattle.closures.proofs.stopping.put_stopping.Given as goal

abbrev pub invariant-loop-row : goal.invariant-loop-row
invariant-loop-row l = (length l.rows ≡ max_closures) × (l.count ≤ l.row-index) × (closures_of (take l.count l.rows) ≡ kept_of l.asker l.closures l.row-index)
