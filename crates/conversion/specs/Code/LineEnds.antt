-- What the end of a line in the new form tells of its hold.
use Rattle.std.specs.Prelude.{ℕ, ◌-◌, Bool, not, ◌&&◌, ◌||◌, List, eqb, length, get_or}
use Rattle.townfile.specs.Bytes.{space}
use Rattle.townfile.specs.Lines.{mark_ar, first_two}

-- It ends in a space and 0.
abbrev pub ends_unheld : List ℕ → Bool
ends_unheld line = eqb (get_or line (length line - 2) 0) space && eqb (get_or line (length line - 1) 0) 48

-- A line that loses no hold on the way back.
abbrev pub loses_none : List ℕ → Bool
loses_none line = not (eqb (first_two line) mark_ar) || ends_unheld line
