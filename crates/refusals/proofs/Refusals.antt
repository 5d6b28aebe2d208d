-- Every refusal's number is below 100, so that its code fits 32 bits and it is printed in two digits at most.
use Prim.Native.Nat.{◌<◌}
use native.Mathlib.Omega.{arith}
use Rattle.refusals.specs.Refusals.{number_of}
use Rattle.refusals.specs.declared.refusal.Refusal.{Refusal}
use Rattle.refusals.specs.declared.refusal.Refusal.TheVariants.{JunctionCount, IntervalCount, ArcCount, TableLength, Fence, ArcEnds, Length, Speed, Hold}
use Rattle.refusals.specs.declared.refusal.Refusal.TheVariants.{Source, Departure, BufferLength, Destination, Unreached, ArcListLength, DepartureAfterLast}
use Rattle.refusals.specs.declared.refusal.Refusal.TheVariants.{TextLength, NoLineFeed, LineLength, UnknownMark, MarkOutOfTurn}
use Rattle.refusals.specs.declared.refusal.Refusal.TheVariants.{FieldForm, FieldValue, LineMissing, TableTooShort}
use Rattle.refusals.specs.declared.refusal.Refusal.TheVariants.{FormAlready, HoldDropped, OutputLength, ClosureCount, Closure, ClosureParty, Asker}
use Rattle.refusals.specs.declared.refusal.Refusal.TheVariants.{DepartureCount, SheetLength, DepartureInterval, WeekList, VersionOrDay, WeekStore}

pub number_fits : (refusal : Refusal) → number_of refusal < 100
number_fits JunctionCount = omega arith
number_fits IntervalCount = omega arith
number_fits ArcCount = omega arith
number_fits TableLength = omega arith
number_fits Fence = omega arith
number_fits ArcEnds = omega arith
number_fits Length = omega arith
number_fits Speed = omega arith
number_fits Source = omega arith
number_fits Departure = omega arith
number_fits BufferLength = omega arith
number_fits Destination = omega arith
number_fits Unreached = omega arith
number_fits ArcListLength = omega arith
number_fits DepartureAfterLast = omega arith
number_fits TextLength = omega arith
number_fits NoLineFeed = omega arith
number_fits LineLength = omega arith
number_fits UnknownMark = omega arith
number_fits MarkOutOfTurn = omega arith
number_fits FieldForm = omega arith
number_fits FieldValue = omega arith
number_fits LineMissing = omega arith
number_fits TableTooShort = omega arith
number_fits DepartureCount = omega arith
number_fits SheetLength = omega arith
number_fits Hold = omega arith
number_fits FormAlready = omega arith
number_fits HoldDropped = omega arith
number_fits OutputLength = omega arith
number_fits ClosureCount = omega arith
number_fits Closure = omega arith
number_fits ClosureParty = omega arith
number_fits Asker = omega arith
number_fits WeekList = omega arith
number_fits VersionOrDay = omega arith
number_fits WeekStore = omega arith
number_fits DepartureInterval = omega arith
