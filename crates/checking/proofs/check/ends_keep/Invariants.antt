-- `check::ends_keep` is the test `ends_keep_lem` of both tables: the arcs so far and those that are left come to all.
use Rattle.std.proofs.Common.{◌≡◌, ◌&&◌, drop}
use Rattle.model.specs.NetworkRules.{ends_keep_lem}
use Rattle.checking.proofs.check.ends_keep.Given as goal

abbrev pub invariant-loop-a : goal.invariant-loop-a
invariant-loop-a l = (l.kept && ends_keep_lem l.junctions (drop l.a l.tails) (drop l.a l.heads)) ≡ ends_keep_lem l.junctions l.tails l.heads
