-- What finding a name asks of a line, which each of a text without fault keeps, and where the name then begins.
use Rattle.std.specs.Prelude.{ℕ, ◌+◌, ◌≡◌, true, cond, List, Option, Some, None, length}
use Rattle.townfile.specs.Lines.{mark_jn, mark_of, mark_alone, number_field, name_field, name_keeps}
use Rattle.townfile.specs.Numbers.{number_keeps}
use Rattle.townfile.specs.Name.{names_it}
use Rattle.fields.specs.Fields.{line_from}

-- A line, if it names a junction.
pub record LineNames (line : List ℕ) : Type 0 where
  pub alone : mark_of line ≡ mark_jn → mark_alone line ≡ true
  pub number : mark_of line ≡ mark_jn → number_keeps (number_field line) ≡ true
  pub name : mark_of line ≡ mark_jn → name_keeps (name_field line) ≡ true

-- Where the name begins, if the line from a place on names this junction.
unfoldable pub name_start_lem : List ℕ → ℕ → ℕ → Option ℕ
name_start_lem text at junction = cond (names_it junction (line_from text at)) (Some (at + (length (number_field (line_from text at)) + 4))) None
