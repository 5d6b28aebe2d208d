-- `interval::step_on`: the interval before the next starts by the time, if the first does.
use Prim.Native.Nat.{◌-◌, ◌≤◌}
use lib.ListN.{get_or}
use Rattle.certifying.proofs.interval.step_on.Given as goal

abbrev pub invariant-loop-next : goal.invariant-loop-next
invariant-loop-next l = get_or l.fences l.interval 0 ≤ l.time → get_or l.fences (l.next - 1) 0 ≤ l.time
