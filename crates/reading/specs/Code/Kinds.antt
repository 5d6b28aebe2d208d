-- What each kind of line comes to, from the place behind its mark on.
use Rattle.std.specs.Prelude.{ℕ, Bool, cond, ◌&&◌, List, Option, Some, None, Result, Ok, Err, leb, ltb, eqb, length}
use Rattle.model.specs.Limits.{max_arcs}
use Rattle.model.specs.Rules.{Outcome, refused, replied, fences_keep_lem, length_keeps_lem}
use Rattle.townfile.specs.Lines.{town_due, fences_due, names_due, arc_fields, town_keeps_lem, junction_keeps_lem, ends_differ, arc_keeps_lem}
use Rattle.townfile.specs.Lines.{after_town_lem, after_fences_lem, after_junction, after_arc_lem}
use Rattle.townfile.specs.declared.progress.Progress.{Progress}
use Rattle.fields.specs.Fields.{word_from, field_at, printable_rest, name_at, numbers_from}
use Rattle.fields.specs.declared.field.Field.{Field}
use Rattle.number_rows.specs.NumbersRead.{numbers_read}
use Rattle.refusals.specs.Refusals.{number_of}
use Rattle.refusals.specs.declared.refusal.Refusal.{Refusal}
use Rattle.reading.specs.declared.line.LineRead.{LineRead}
use Rattle.reading.specs.LineSteps.{step}

-- A line of numbers by where they end, and the progress behind it.
abbrev pub of_numbers_lem : Result ℕ Refusal → Progress → Outcome LineRead
of_numbers_lem (Ok end) p = replied (step p end)
of_numbers_lem (Err refusal) p = refused (number_of refusal)

abbrev pub in_turn_only : Bool → Outcome LineRead → Outcome LineRead
in_turn_only turn outcome = cond turn outcome (refused 24)

unfoldable pub town_step : Progress → Bool → List ℕ → ℕ → Outcome LineRead
town_step p held text at = in_turn_only (eqb p.turn town_due) (of_numbers_lem (numbers_read town_keeps_lem 2 text at) (after_town_lem p held (numbers_from text at)))

unfoldable pub fences_step : Progress → List ℕ → ℕ → Outcome LineRead
fences_step p text at = in_turn_only (eqb p.turn fences_due) (of_numbers_lem (numbers_read fences_keep_lem p.intervals text at) (after_fences_lem p))

unfoldable pub arc_step : Progress → List ℕ → ℕ → Outcome LineRead
arc_step p text at = in_turn_only (leb names_due p.turn) (of_numbers_lem (numbers_read (arc_keeps_lem p) (arc_fields p) text at) (after_arc_lem p))

abbrev pub with_name : Progress → ℕ → Option ℕ → Outcome LineRead
with_name p junction (Some end) = cond (junction_keeps_lem p junction) (replied (step (after_junction p junction) end)) (refused 26)
with_name p junction None = refused 25

abbrev pub with_junction : Progress → List ℕ → Option Field → Outcome LineRead
with_junction p text (Some number) = with_name p number.value (name_at text number.next)
with_junction p text None = refused 25

unfoldable pub junction_step : Progress → List ℕ → ℕ → Outcome LineRead
junction_step p text at = in_turn_only (eqb p.turn names_due) (with_junction p text (field_at text at))

abbrev pub of_comment : Progress → Option ℕ → Outcome LineRead
of_comment p (Some end) = replied (step p end)
of_comment p None = refused 25

unfoldable pub comment_step : Progress → List ℕ → ℕ → Outcome LineRead
comment_step p text at = cond (eqb (length (word_from text at)) 0) (of_comment p (printable_rest text at)) (refused 25)

-- What an arc's line asks beside its row.
abbrev pub arc_fits_lem : Progress → ℕ → ℕ → ℕ → Bool
arc_fits_lem p tail head metres = ends_differ p.junctions tail head && length_keeps_lem metres && ltb p.arcs max_arcs
