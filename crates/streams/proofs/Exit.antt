-- Every way in which a program ends has an exit status.
use native.Mathlib.Omega.{arith}
use Rattle.streams.specs.declared.answer.Status.{Status}
use Rattle.streams.specs.declared.answer.Status.TheVariants.{Answered, Refused, Failed}
use Rattle.streams.specs.Exit.{ExitStatus, exit_status}

pub every_status : (status : Status) → ExitStatus (exit_status status)
every_status Answered = omega arith
every_status Refused = omega arith
every_status Failed = omega arith
