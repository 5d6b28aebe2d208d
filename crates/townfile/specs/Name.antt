-- "Name (text, junction). The name is handed back as a part of the lent text, never copied. It has length 0 if the text would be
-- refused with 20 to 27 or has no name for that junction."
use Rattle.std.specs.Prelude.{ℕ, ◌+◌, ◌-◌, ◌≤◌, ◌<◌, ◌≡◌, Bool, cond, ◌&&◌, List, [], ◌∷◌, eqb, length, take, drop}
use Rattle.townfile.specs.Bytes.{line_feed, pieces}
use Rattle.townfile.specs.Numbers.{decimal}
use Rattle.townfile.specs.Lines.{mark_jn, mark_of, number_field, name_field}
use Rattle.townfile.specs.Grammar.{Bytes, Named, Town, Describes, Each}
use Rattle.townfile.specs.FirstFault.{Reading, refused_at, accepted, first_fault}
use Rattle.townfile.specs.Tables.{town_of}
use Rattle.townfile.specs.declared.part.Part.{Part}
use Rattle.townfile.specs.declared.progress.Progress.{Progress}

-- What is answered of a text without fault, and of any other.
abbrev pub if_read : {A : Type 0} → Reading Progress → A → A → A
if_read (refused_at number line) found none = none
if_read (accepted p) found none = found

-- ---- The name

unfoldable pub name_among : ℕ → List Named → List ℕ
name_among junction [] = []
name_among junction (named ∷ names) = cond (eqb named.number junction) named.name (name_among junction names)

unfoldable pub name_of : List ℕ → ℕ → List ℕ
name_of text junction = if_read (first_fault text) (name_among junction (town_of text).names) []

-- ---- Its place in the text

abbrev pub part : ℕ → ℕ → Part
part start size = record { start = start; length = size }

-- A line that names this junction.
abbrev pub names_it : ℕ → List ℕ → Bool
names_it junction line = eqb (mark_of line) mark_jn && eqb (decimal (number_field line)) junction

-- The name of a line that starts at a place of the text. It runs to the line's end.
abbrev pub place_in : ℕ → List ℕ → Part
place_in at line = part (at + (length line - length (name_field line))) (length (name_field line))

-- The name on the first line of the junction, among lines of which the first starts at a place of the text. A line feed stands behind
-- each but the last.
unfoldable pub place_among : ℕ → ℕ → List (List ℕ) → Part
place_among junction at [] = part 0 0
place_among junction at (line ∷ lines) = cond (names_it junction line) (place_in at line) (place_among junction (at + length line + 1) lines)

unfoldable pub name_place_lem : List ℕ → ℕ → Part
name_place_lem text junction = if_read (first_fault text) (place_among junction 0 (pieces line_feed text)) (part 0 0)

-- ---- What is proved of them

-- Of a text that describes a town each named junction has its own name, which is not empty, and the others none.
pub record NamesOf (T : Town) (name : ℕ → List ℕ) : Type 0 where
  pub each_named : Each (λ n. (name n.number ≡ n.name) × (0 < length n.name)) T.names
  pub others_none : (junction : ℕ) → Each (λ n. n.number ≡ junction → ⊥) T.names → name junction ≡ []

abbrev pub NameGivesNames : Type 0
NameGivesNames = (text : List ℕ) (held : Bool) (T : Town) → Describes text held T → NamesOf T (name_of text)

-- Of any other text every name is empty.
abbrev pub NameOfNoTown : Type 0
NameOfNoTown = (text : List ℕ) → Bytes text → ((held : Bool) (T : Town) → Describes text held T → ⊥) → (junction : ℕ) → name_of text junction ≡ []

-- The part lies inside the text, and it is the name.
pub record StandsAt (text : List ℕ) (place : Part) (name : List ℕ) : Type 0 where
  pub inside : place.start + place.length ≤ length text
  pub bytes : take place.length (drop place.start text) ≡ name

abbrev pub NameStandsAtPlace : Type 0
NameStandsAtPlace = (text : List ℕ) (junction : ℕ) → StandsAt text (name_place_lem text junction) (name_of text junction)
