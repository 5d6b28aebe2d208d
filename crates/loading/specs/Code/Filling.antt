-- What filling the tables asks of a text, which one without fault keeps.
use Rattle.std.specs.Prelude.{ℕ, ◌+◌, ◌*◌, ◌≤◌, ◌<◌, ◌≡◌, Bool, true, cond, List, length, get_or, set, take, drop}
use Rattle.std.proofs.lemmas.List.Edits.{sets}
use Rattle.model.specs.Rules.{every, speed_keeps}
use Rattle.townfile.specs.Bytes.{line_feed, pieces}
use Rattle.townfile.specs.Numbers.{decimal}
use Rattle.townfile.specs.Lines.{mark_fn, mark_ar, mark_alone, numbers_of, numbers_keep}
use Rattle.townfile.specs.Grammar.{Each, network_of}
use Rattle.townfile.specs.Tables.{marked, town_in, town_of}
use Rattle.townfile.specs.Load.{Tables}
use Rattle.fields.specs.Fields.{line_from, word_from, numbers_from, filled_by}
use Rattle.fields.specs.declared.field.Field.{Field}

-- The line from a place on ends before the text does: a line feed follows.
abbrev pub EndsInside : List ℕ → ℕ → Type 0
EndsInside text at = at + length (line_from text at) < length text

-- The number of the field at a place, and where it ends.
abbrev pub taken_at : List ℕ → ℕ → Field
taken_at text at = record { value = decimal (word_from text (at + 1)); next = at + 1 + length (word_from text (at + 1)) }

-- So many numbers fill the rest of a line, and its line feed follows.
pub record NumbersFill (count : ℕ) (text : List ℕ) (at : ℕ) : Type 0 where
  pub filled : filled_by count text at ≡ true
  pub ends : EndsInside text at

-- Some numbers and then others fill it, and the first are speeds.
pub record SpeedsFill (count : ℕ) (text : List ℕ) (at : ℕ) : Type 0 where
  pub others : ℕ
  pub numbers_fill : NumbersFill (count + others) text at
  pub speeds_fit : every speed_keeps (take count (numbers_from text at)) ≡ true

-- The place behind so many numbers.
pub record Behind (count : ℕ) (text : List ℕ) (at next : ℕ) : Type 0 where
  pub numbers_left : numbers_from text next ≡ drop count (numbers_from text at)
  pub others_fill : (others : ℕ) → NumbersFill (count + others) text at → NumbersFill others text next
  pub same_end : next + length (line_from text next) ≡ at + length (line_from text at)

-- An arc's fields, behind the mark: of the form, and of a size that the tables hold.
pub record ArcFills (intervals : ℕ) (held : Bool) (text : List ℕ) (at : ℕ) : Type 0 where
  pub numbers_fill : NumbersFill (3 + intervals + cond held 1 0) text at
  pub tail_fits : get_or (numbers_from text at) 0 0 < 65536
  pub head_fits : get_or (numbers_from text at) 1 0 < 65536
  pub speeds_fit : every speed_keeps (take intervals (drop 3 (numbers_from text at))) ≡ true
  pub hold_fits : get_or (drop 3 (numbers_from text at)) intervals 0 < 65536

-- A line of fences that fills their table.
pub record FencesLine (intervals : ℕ) (line : List ℕ) : Type 0 where
  pub alone : mark_alone line ≡ true
  pub form : numbers_keep intervals line ≡ true

-- An arc's line that fills the arcs' tables.
pub record ArcLine (intervals : ℕ) (held : Bool) (line : List ℕ) : Type 0 where
  pub alone : mark_alone line ≡ true
  pub form : numbers_keep (3 + intervals + cond held 1 0) line ≡ true
  pub tail_fits : get_or (numbers_of line) 0 0 < 65536
  pub head_fits : get_or (numbers_of line) 1 0 < 65536
  pub speeds_fit : every speed_keeps (take intervals (drop 3 (numbers_of line))) ≡ true
  pub hold_fits : get_or (drop 3 (numbers_of line)) intervals 0 < 65536

-- There is a place for the arc in each table.
pub record ArcHasRoom (intervals arc : ℕ) (lent : Tables) : Type 0 where
  pub tail_inside : arc < length lent.tails
  pub head_inside : arc < length lent.heads
  pub length_inside : arc < length lent.lengths
  pub hold_inside : arc < length lent.holds
  pub speeds_inside : arc * intervals + intervals ≤ length lent.speeds

-- The tables with an arc's numbers at its place.
abbrev pub with_arc : (intervals arc : ℕ) → List ℕ → Tables → Tables
with_arc intervals arc numbers lent = record {
  fences = lent.fences;
  tails = set lent.tails arc (get_or numbers 0 0);
  heads = set lent.heads arc (get_or numbers 1 0);
  lengths = set lent.lengths arc (get_or numbers 2 0);
  holds = set lent.holds arc (get_or (drop 3 numbers) intervals 0);
  speeds = sets lent.speeds (arc * intervals) (take intervals (drop 3 numbers));
}

-- A text whose lines fill tables, with tables long enough.
pub record Fillable (intervals : ℕ) (held : Bool) (text : List ℕ) (lent : Tables) : Type 0 where
  pub intervals_are : get_or (town_in (pieces line_feed text)) 1 0 ≡ intervals
  pub lines_end : (at : ℕ) → at < length text → EndsInside text at
  pub fences_fill : Each (FencesLine intervals) (marked mark_fn (pieces line_feed text))
  pub arcs_fill : Each (ArcLine intervals held) (marked mark_ar (pieces line_feed text))
  pub fences_long : length (network_of (town_of text)).fences ≤ length lent.fences
  pub tails_long : length (network_of (town_of text)).tails ≤ length lent.tails
  pub heads_long : length (network_of (town_of text)).heads ≤ length lent.heads
  pub lengths_long : length (network_of (town_of text)).lengths ≤ length lent.lengths
  pub holds_long : length (network_of (town_of text)).holds ≤ length lent.holds
  pub speeds_long : length (network_of (town_of text)).speeds ≤ length lent.speeds
