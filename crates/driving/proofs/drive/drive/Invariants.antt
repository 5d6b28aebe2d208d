-- `drive::drive` gives the arrival with its interval on an arc that keeps the rules: each turn starts a try with the length left over (`Driving`),
-- from which the arrival is the whole's. On any arc the interval is one that the loop has come to, or the one after it.
use Rattle.driving.proofs.Driving.{Driving, turns_left}
use Rattle.driving.proofs.drive.drive.Given as goal

abbrev pub invariant-loop-left : goal.invariant-loop-left
invariant-loop-left l =
    Driving l.departure l.interval l.road.metres l.road.fences.now l.road.speeds.now l.midnight l.k l.time l.left

abbrev pub decreases-loop-left : goal.decreases-loop-left
decreases-loop-left l = turns_left l.intervals l.midnight l.k
