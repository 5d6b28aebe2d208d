-- `line::arc_line`: its turn, then what its numbers come to.
use Prim.Native.Nat.{ℕ}
use mathlib.Core.Path.{◌≡◌}
use native.Mathlib.Omega.{arith}
use borrow.Author.Tests.{le-leb, lt-leb}
use Rattle.std.proofs.lemmas.Result.{err_from_is_err_and}
use Rattle.townfile.specs.Lines.{names_due, after_arc_lem}
use Rattle.std.specs.Prelude.{Result}
use Rattle.refusals.specs.declared.refusal.Refusal.{Refusal}
use Rattle.reading.specs.Code.Kinds.{of_numbers_lem, arc_step}
use Rattle.reading.proofs.Steps.{numbers_in_turn, arc_counted}
use Rattle.reading.proofs.line.arc_line.Goals as goal
use Rattle.townfile.specs.Lines.{arc_fields, arc_keeps_lem}
use Rattle.townfile.specs.declared.progress.Progress.{Progress}
use Rattle.number_rows.specs.NumbersRead.{numbers_read}
use mathlib.Core.List.{List}
use Prim.Native.Nat.{◌≤◌}

-- in its turn the line comes to what its numbers come to
in_turn : (p : Progress) (text : List ℕ) (at : ℕ) {numbers : Result ℕ Refusal} → names_due ≤ p.turn → numbers ≡ numbers_read (arc_keeps_lem p) (arc_fields p) text at →
    of_numbers_lem numbers (after_arc_lem p) ≡ arc_step p text at
unfolding arc_step
in_turn p text at due e = numbers_in_turn _ (after_arc_lem p) (le-leb names_due p.turn due) e

pub returns-then-progress-lt-NAMES_DUE : goal.returns-then-progress-lt-NAMES_DUE
unfolding arc_step
returns-then-progress-lt-NAMES_DUE c = rw (lt-leb names_due _ c.if-progress-lt-NAMES_DUE.true)

pub returns-in_err-end : goal.returns-in_err-end
returns-in_err-end c =
    let p = err_from_is_err_and c.from_residual.result c.from_residual.ensures.1 in
    rw (p.1, p.2) (in_turn _ _ _ c.if-progress-lt-NAMES_DUE.false c.in_err-end.ensures)

pub overflow_add-progress : goal.overflow_add-progress
overflow_add-progress c = record { fits = omega (arith, arc_counted c.args.progress _ _ c.in_ok-end.ensures) }

pub returns : goal.returns
returns c = rw c.after_arc.ensures (in_turn _ _ _ c.if-progress-lt-NAMES_DUE.false c.in_ok-end.ensures)
