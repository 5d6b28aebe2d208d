-- What reading a text answers: its reply, or a fault. "A definition gives this paper's number and values for each of its cases": it is this one.
use Rattle.std.specs.Prelude.{Result, Ok, Err}
use Rattle.refusals.specs.Refusals.{number_of}
use Rattle.townfile.specs.FirstFault.{Reading, refused_at, accepted}
use Rattle.townfile.specs.declared.fault.Fault.{Fault}

abbrev pub reading_of : {Reply : Type 0} → Result Reply Fault → Reading Reply
reading_of (Ok reply) = accepted reply
reading_of (Err fault) = refused_at (number_of fault.refusal) fault.line
