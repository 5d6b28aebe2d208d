-- `closed::drive_closed` gives the arrival with its interval on an arc that keeps the rules: from each turn's tick, with what is left, the arrival is
-- the whole's (`DrivingClosed`). On any arc the interval is one that the loop has come to, or the one after it, and each turn ends at a later tick.
use Rattle.std.proofs.Common.{◌-◌}
use Rattle.model.specs.Ticks.{last}
use Rattle.model.specs.Closures.{closures_of}
use Rattle.driving.proofs.DrivingClosed.{DrivingClosed}
use Rattle.driving.proofs.closed.drive_closed.Given as goal

abbrev pub invariant-loop-tick : goal.invariant-loop-tick
invariant-loop-tick l =
    DrivingClosed l.departure l.interval l.road.metres l.road.fences.now l.road.speeds.now l.works.arc (closures_of l.works.closures.now) l.k l.tick l.left

abbrev pub decreases-loop-tick : goal.decreases-loop-tick
decreases-loop-tick l = last - l.tick
