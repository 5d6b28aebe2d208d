-- What is asked of a line, in document 01's order: "22, over 700 bytes; 23, no known mark; 24, mark out of turn (`FN` before `TN`,
-- `JN` or `AR` before `FN`, `JN` after `AR`) or a second `TN` or `FN`; 25, fields not of the form above or not of the right number;
-- 26, a field outside the network's limits, a first fence not 0, a `JN` number not below the junction count, a fence or `JN` number
-- not rising, tail equal to head, or the 641st `AR`."
use Rattle.std.specs.Prelude.{ℕ, ◌+◌, ◌-◌, ◌*◌, Bool, true, false, cond, not, ◌&&◌, List, [], ◌∷◌, map, leb, ltb, eqb, length, get_or, take, drop}
use Rattle.model.specs.Limits.{max_arcs, max_intervals}
use Rattle.model.specs.NetworkRules.{junctions_keep}
use Rattle.model.specs.Rules.{Outcome, Rule, ◌if◌, first_broken, every, fences_keep_lem, length_keeps_lem, speed_keeps, hold_keeps}
use Rattle.townfile.specs.Bytes.{space, printable, up_to, pieces}
use Rattle.townfile.specs.Numbers.{decimal, number_keeps}
use Rattle.townfile.specs.declared.progress.Progress.{Progress}

-- ---- The mark

-- The marks, each as the number of its two bytes.
abbrev pub mark_tn : ℕ
mark_tn = 84 * 256 + 78

abbrev pub mark_tw : ℕ
mark_tw = 84 * 256 + 87

abbrev pub mark_fn : ℕ
mark_fn = 70 * 256 + 78

abbrev pub mark_jn : ℕ
mark_jn = 74 * 256 + 78

abbrev pub mark_ar : ℕ
mark_ar = 65 * 256 + 82

abbrev pub mark_cm : ℕ
mark_cm = 67 * 256 + 77

-- The first two bytes of a line as one number, or 0 where there are not two.
unfoldable pub first_two : List ℕ → ℕ
first_two [] = 0
first_two (a ∷ []) = 0
first_two (a ∷ b ∷ bytes) = a * 256 + b

-- The line begins with `TW`: the file is of the new form.
abbrev pub begins_held : List ℕ → Bool
begins_held line = eqb (first_two line) mark_tw

-- The mark of a line, "`TW` standing for `TN`".
unfoldable pub mark_of : List ℕ → ℕ
mark_of line = cond (begins_held line) mark_tn (first_two line)

-- "The loader decides what to do by the mark": one case for each of `TN`, `FN`, `JN`, `AR`, `CM`, and one for any other.
abbrev pub by_mark : {A : Type 0} → ℕ → A → A → A → A → A → A → A
by_mark mark town fences junction arc comment other =
    cond (eqb mark mark_tn) town
    (cond (eqb mark mark_fn) fences
    (cond (eqb mark mark_jn) junction
    (cond (eqb mark mark_ar) arc
    (cond (eqb mark mark_cm) comment other))))

abbrev pub known : ℕ → Bool
known mark = by_mark mark true true true true true false

-- The turns in their order, by the mark that is due: `TN`; `FN`; `JN` or `AR`; `AR` alone.
abbrev pub town_due : ℕ
town_due = 0

abbrev pub fences_due : ℕ
fences_due = 1

abbrev pub names_due : ℕ
names_due = 2

abbrev pub arcs_due : ℕ
arcs_due = 3

abbrev pub in_turn : ℕ → ℕ → Bool
in_turn turn mark = by_mark mark (eqb turn town_due) (eqb turn fences_due) (eqb turn names_due) (leb names_due turn) true false

-- ---- The form

-- A space or the line's end follows the mark.
abbrev pub mark_alone : List ℕ → Bool
mark_alone line = eqb (length (up_to space line)) 2

-- The fields after the mark.
abbrev pub fields_of : List ℕ → List (List ℕ)
fields_of line = drop 1 (pieces space line)

abbrev pub numbers_of : List ℕ → List ℕ
numbers_of line = map decimal (fields_of line)

abbrev pub numbers_keep : ℕ → List ℕ → Bool
numbers_keep count line = every number_keeps (fields_of line) && eqb (length (fields_of line)) count

-- The number of a `JN` line, and the name behind it.
abbrev pub number_field : List ℕ → List ℕ
number_field line = up_to space (drop 3 line)

abbrev pub name_field : List ℕ → List ℕ
name_field line = drop (length (number_field line) + 4) line

unfoldable pub name_keeps : List ℕ → Bool
name_keeps name =
    ltb 0 (length name) && leb (length name) 24 && every printable name
    && not (eqb (get_or name 0 0) space) && not (eqb (get_or name (length name - 1) 0) space)

-- "`AR` tail, head, length, then one speed per interval", and in the new form the hold.
abbrev pub arc_fields : Progress → ℕ
arc_fields p = 3 + p.intervals + cond p.held 1 0

unfoldable pub form_keeps : Progress → List ℕ → Bool
form_keeps p line =
    mark_alone line
    && by_mark (mark_of line)
    (numbers_keep 2 line)
    (numbers_keep p.intervals line)
    (number_keeps (number_field line) && name_keeps (name_field line))
    (numbers_keep (arc_fields p) line)
    (every printable (drop 2 line))
    false

-- ---- The values

abbrev pub town_keeps_lem : List ℕ → Bool
town_keeps_lem numbers = junctions_keep (get_or numbers 0 0) && ltb 0 (get_or numbers 1 0) && leb (get_or numbers 1 0) max_intervals

abbrev pub junction_keeps_lem : Progress → ℕ → Bool
junction_keeps_lem p junction = ltb junction p.junctions && leb p.unnamed junction

abbrev pub ends_differ : ℕ → ℕ → ℕ → Bool
ends_differ junctions tail head = ltb tail junctions && ltb head junctions && not (eqb tail head)

-- Where no hold stands behind the speeds it is 0.
abbrev pub arc_keeps_lem : Progress → List ℕ → Bool
arc_keeps_lem p numbers =
    ends_differ p.junctions (get_or numbers 0 0) (get_or numbers 1 0)
    && length_keeps_lem (get_or numbers 2 0)
    && every speed_keeps (take p.intervals (drop 3 numbers))
    && hold_keeps (get_or (drop 3 numbers) p.intervals 0)
    && ltb p.arcs max_arcs

unfoldable pub values_keep : Progress → List ℕ → Bool
values_keep p line =
    by_mark (mark_of line)
    (town_keeps_lem (numbers_of line))
    (fences_keep_lem (numbers_of line))
    (junction_keeps_lem p (decimal (number_field line)))
    (arc_keeps_lem p (numbers_of line))
    true
    true

-- ---- A line

abbrev pub line_rules : Progress → List ℕ → List Rule
line_rules p line =
    (22 if ltb 700 (length line))
    ∷ (23 if not (known (mark_of line)))
    ∷ (24 if not (in_turn p.turn (mark_of line)))
    ∷ (25 if not (form_keeps p line))
    ∷ (26 if not (values_keep p line))
    ∷ []

-- The progress after a line that keeps the rules.
abbrev pub after_town_lem : Progress → Bool → List ℕ → Progress
after_town_lem p held numbers =
    record { turn = fences_due; held = held; junctions = get_or numbers 0 0; intervals = get_or numbers 1 0; unnamed = p.unnamed; arcs = p.arcs }

-- Behind `TN` a line changes only the turn, the names and the arcs.
abbrev pub behind_town : Progress → (turn unnamed arcs : ℕ) → Progress
behind_town p turn unnamed arcs = record { turn = turn; held = p.held; junctions = p.junctions; intervals = p.intervals; unnamed = unnamed; arcs = arcs }

abbrev pub after_fences_lem : Progress → Progress
after_fences_lem p = behind_town p names_due p.unnamed p.arcs

abbrev pub after_junction : Progress → ℕ → Progress
after_junction p junction = behind_town p p.turn (junction + 1) p.arcs

abbrev pub after_arc_lem : Progress → Progress
after_arc_lem p = behind_town p arcs_due p.unnamed (p.arcs + 1)

unfoldable pub line_read : Progress → List ℕ → Progress
line_read p line = by_mark (mark_of line) (after_town_lem p (begins_held line) (numbers_of line)) (after_fences_lem p) (after_junction p (decimal (number_field line))) (after_arc_lem p) p p

unfoldable pub line_answer : Progress → List ℕ → Outcome Progress
line_answer p line = first_broken (line_rules p line) (line_read p line)
