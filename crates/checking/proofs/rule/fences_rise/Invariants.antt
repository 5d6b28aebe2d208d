-- `rule::fences_rise` is the test `rise_from` of the fences: the invariant says so of those that are left, after the one before.
use Rattle.std.proofs.Common.{◌≡◌, drop}
use Rattle.model.specs.Rules.{rise_from}
use Rattle.checking.proofs.rule.fences_rise.Given as goal

abbrev pub invariant-loop-fence : goal.invariant-loop-fence
invariant-loop-fence l = rise_from l.before (drop l.fence-index l.fences) ≡ rise_from l.fn.before l.fences
