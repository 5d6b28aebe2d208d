-- The town that a text's lines give, by their marks: "`TN` junction count, interval count. `FN` the fences, as many as intervals. `JN` junction
-- number, then a name (..). `AR` tail, head, length, then one speed per interval."
use Rattle.std.specs.Prelude.{ℕ, ◌≤◌, ◌≡◌, Bool, false, cond, ◌↔◌, eqb, length, get_or, take, drop}
use mathlib.Core.List.{List, [], ◌∷◌, map, flatten}
use Rattle.model.specs.Flow.{spans_of, arrival}
use Rattle.model.specs.Network.{roads_of, speed_on, drive_of}
use Rattle.model.specs.Rules.{replied}
use Rattle.model.specs.NetworkRules.{network_check_lem}
use Rattle.townfile.specs.Bytes.{line_feed, pieces}
use Rattle.townfile.specs.Numbers.{decimal}
use Rattle.townfile.specs.Lines.{mark_tn, mark_fn, mark_jn, mark_ar, mark_of, numbers_of, number_field, name_field}
use Rattle.townfile.specs.Grammar.{Bytes, Named, Arc, Town, Describes, network_of, joined, Commented}
use Rattle.townfile.specs.FirstFault.{accepted, first_fault}
use Rattle.townfile.specs.declared.progress.Progress.{Progress}

-- The lines that bear a mark.
unfoldable pub marked : ℕ → List (List ℕ) → List (List ℕ)
marked mark [] = []
marked mark (line ∷ lines) = let rest = marked mark lines in cond (eqb (mark_of line) mark) (line ∷ rest) rest

abbrev pub named_of : List ℕ → Named
named_of line = record { number = decimal (number_field line); name = name_field line }

-- With one speed per interval; where no hold stands behind the speeds it is 0.
abbrev pub arc_of : (intervals : ℕ) → List ℕ → Arc
arc_of intervals line = let numbers = numbers_of line in record {
  tail = get_or numbers 0 0;
  head = get_or numbers 1 0;
  metres = get_or numbers 2 0;
  speeds = take intervals (drop 3 numbers);
  hold = get_or (drop 3 numbers) intervals 0;
}

-- The numbers of the `TN` or `TW` line.
abbrev pub town_in : List (List ℕ) → List ℕ
town_in lines = flatten (map numbers_of (marked mark_tn lines))

abbrev pub fences_in : List (List ℕ) → List ℕ
fences_in lines = flatten (map numbers_of (marked mark_fn lines))

abbrev pub names_in : List (List ℕ) → List Named
names_in lines = map named_of (marked mark_jn lines)

abbrev pub arcs_in : List (List ℕ) → List Arc
arcs_in lines = map (arc_of (get_or (town_in lines) 1 0)) (marked mark_ar lines)

unfoldable pub town_of : List ℕ → Town
town_of text = let lines = pieces line_feed text in
    record { junctions = get_or (town_in lines) 0 0; fences = fences_in lines; names = names_in lines; arcs = arcs_in lines }

-- ---- What is proved of it

-- A text describes a town exactly where it has no fault, in the form that it is of, and that town is the one its lines give.
abbrev pub DescribesWhenFaultless : Type 0
DescribesWhenFaultless = (text : List ℕ) → Bytes text → (held : Bool) (T : Town) →
    Describes text held T ↔ (((p : Progress) × (first_fault text ≡ accepted p) × (p.held ≡ held)) × (town_of text ≡ T))

-- A text describes at most one town, in one form.
abbrev pub OneTown : Type 0
OneTown = (text : List ℕ) (held held' : Bool) (T T' : Town) → Describes text held T → Describes text held' T' → (held ≡ held') × (T ≡ T')

-- A text and the same text with comments added anywhere, within the limit, describe the same town.
abbrev pub CommentsChangeNothing : Type 0
CommentsChangeNothing = (lines more : List (List ℕ)) → Commented lines more → length (joined more) ≤ 65536 → (held : Bool) (T : Town) →
    Describes (joined lines) held T ↔ Describes (joined more) held T

-- Network check accepts a described town.
abbrev pub DescribedIsAccepted : Type 0
DescribedIsAccepted = (text : List ℕ) (held : Bool) (T : Town) → Describes text held T → network_check_lem (network_of T) ≡ replied tt

-- "The old one has hold 0 throughout": on the arcs of a town in the old form the arrival is that of the flow alone.
abbrev pub OldTownsAreNotHeld : Type 0
OldTownsAreNotHeld = (text : List ℕ) (T : Town) → Describes text false T → (a t : ℕ) →
    let R = roads_of (network_of T) in drive_of R a t ≡ arrival (speed_on R a) (spans_of (get_or R.lengths a 0)) t
