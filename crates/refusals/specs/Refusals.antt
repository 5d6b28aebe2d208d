-- The number that documents 01 and 02 give each refusal, and what is added to it where one number answers either a refusal or a reply.
use Rattle.std.specs.Prelude.{ℕ}
use Rattle.refusals.specs.declared.refusal.Refusal.{Refusal}
use Rattle.refusals.specs.declared.refusal.Refusal.TheVariants.{JunctionCount, IntervalCount, ArcCount, TableLength, Fence, ArcEnds, Length, Speed, Hold}
use Rattle.refusals.specs.declared.refusal.Refusal.TheVariants.{Source, Departure, BufferLength, Destination, Unreached, ArcListLength, DepartureAfterLast}
use Rattle.refusals.specs.declared.refusal.Refusal.TheVariants.{TextLength, NoLineFeed, LineLength, UnknownMark, MarkOutOfTurn}
use Rattle.refusals.specs.declared.refusal.Refusal.TheVariants.{FieldForm, FieldValue, LineMissing, TableTooShort}
use Rattle.refusals.specs.declared.refusal.Refusal.TheVariants.{FormAlready, HoldDropped, OutputLength, ClosureCount, Closure, ClosureParty, Asker}
use Rattle.refusals.specs.declared.refusal.Refusal.TheVariants.{DepartureCount, SheetLength, DepartureInterval, WeekList, VersionOrDay, WeekStore}

abbrev pub number_of : Refusal → ℕ
number_of JunctionCount = 1
number_of IntervalCount = 2
number_of ArcCount = 3
number_of TableLength = 4
number_of Fence = 5
number_of ArcEnds = 6
number_of Length = 7
number_of Speed = 8
number_of Source = 9
number_of Departure = 10
number_of BufferLength = 11
number_of Destination = 12
number_of Unreached = 13
number_of ArcListLength = 14
number_of DepartureAfterLast = 15
number_of TextLength = 20
number_of NoLineFeed = 21
number_of LineLength = 22
number_of UnknownMark = 23
number_of MarkOutOfTurn = 24
number_of FieldForm = 25
number_of FieldValue = 26
number_of LineMissing = 27
number_of TableTooShort = 28
number_of DepartureCount = 30
number_of SheetLength = 31
number_of Hold = 32
number_of FormAlready = 33
number_of HoldDropped = 34
number_of OutputLength = 35
number_of ClosureCount = 36
number_of Closure = 37
number_of ClosureParty = 38
number_of Asker = 39
number_of WeekList = 40
number_of VersionOrDay = 41
number_of WeekStore = 42
number_of DepartureInterval = 46

-- "As 4,294,900,000 + its number": a refusal's code is this and its number.
abbrev pub refusal_base : ℕ
refusal_base = 4294900000
