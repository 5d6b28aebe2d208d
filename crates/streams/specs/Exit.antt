-- A program's exit status: 0 for an answer, 1 for a refusal, 2 where the input was not read or the output not written.
use Rattle.std.specs.Prelude.{ℕ, ◌≤◌, ◌≡◌, Bool, cond, ◌⊎◌, ℤ, pos, negsuc}
use Rattle.townfile.specs.FirstFault.{Reading}
use Rattle.formatting.specs.Texts.{is_refusal}
use Rattle.streams.specs.declared.answer.Status.{Status}
use Rattle.streams.specs.declared.answer.Status.TheVariants.{Answered, Refused, Failed}

abbrev pub exit_status : Status → ℤ
exit_status Answered = pos 0
exit_status Refused = pos 1
exit_status Failed = pos 2

abbrev pub ExitStatus : ℤ → Type 0
ExitStatus (pos status) = status ≤ 2
ExitStatus (negsuc status) = ⊥

abbrev pub status_when : Bool → ℕ
status_when refused = cond refused 1 0

-- The status of an answer that is printed.
abbrev pub status_for : {Reply : Type 0} → Reading Reply → ℕ
status_for answer = status_when (is_refusal answer)

-- Unless the output failed, the status is that of the answer.
abbrev pub AnswersOrFails : ℕ → ℤ → Type 0
AnswersOrFails answer status = (status ≡ pos 2) ⊎ (status ≡ pos answer)
