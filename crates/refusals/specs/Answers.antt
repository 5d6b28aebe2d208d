-- What an operation answers: its reply, or a refusal. "A definition gives this paper's number and values for each of its cases, and the promises use that
-- definition": it is this one.
use Rattle.std.specs.Prelude.{Result, Ok, Err}
use Rattle.refusals.specs.Refusals.{number_of}
use Rattle.refusals.specs.Rules.{Outcome, refused, replied}
use Rattle.refusals.specs.declared.refusal.Refusal.{Refusal}

abbrev pub outcome_of : {Reply : Type 0} → Result Reply Refusal → Outcome Reply
outcome_of (Ok reply) = replied reply
outcome_of (Err refusal) = refused (number_of refusal)
