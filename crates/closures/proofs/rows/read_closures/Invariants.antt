-- `rows::read_closures` writes from the front: the first rows are the first records.
use Rattle.std.proofs.Common.{◌≡◌, take, length}
use Rattle.model.specs.Closures.{closures_of}
use Rattle.closures.proofs.rows.read_closures.Given as goal

abbrev pub invariant-loop-i : goal.invariant-loop-i
invariant-loop-i l = (length l.rows ≡ 65) × (closures_of (take l.i l.rows) ≡ take l.i l.closures)
