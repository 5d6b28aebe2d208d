-- The converters of town files, one each way. `wanted` is the form that the result is to have: true is the new one. Document 02, order 6: "Each only
-- turns `TN` into `TW` or back, and adds a space and 0 at the end of each `AR` line or drops that line's hold with its space; all other bytes,
-- comments and names too, pass through unchanged."
use Rattle.std.specs.Prelude.{ℕ, ◌+◌, ◌-◌, ◌*◌, ◌≤◌, ◌≡◌, Bool, true, false, not, cond, ◌&&◌, ◌||◌, List, [], ◌∷◌, ◌++◌, map, ◌↔◌, ltb, eqb, length, take, drop}
use Rattle.model.specs.Rules.{Outcome, refused, replied, Rule, ◌if◌, first_broken, every, written}
use Rattle.townfile.specs.Bytes.{line_feed, space, pieces}
use Rattle.townfile.specs.Grammar.{Bytes, Town, Each, Unbroken, joined, Describes}
use Rattle.townfile.specs.Lines.{mark_tn, mark_tw, mark_ar, first_two}
use Rattle.townfile.specs.FirstFault.{Reading, refused_at, accepted, first_fault}
use Rattle.townfile.specs.Tables.{town_of}
use Rattle.townfile.specs.Load.{Tables, load_answer}
use Rattle.townfile.specs.declared.progress.Progress.{Progress}

-- ---- The result

unfoldable pub all_but_last : List (List ℕ) → List (List ℕ)
all_but_last [] = []
all_but_last (piece ∷ []) = []
all_but_last (piece ∷ next ∷ pieces) = piece ∷ all_but_last (next ∷ pieces)

-- The lines of a text: every piece but the one behind the last line feed, which is empty where the text is accepted.
abbrev pub lines_of : List ℕ → List (List ℕ)
lines_of text = all_but_last (pieces line_feed text)

-- A space and 0.
abbrev pub no_hold : List ℕ
no_hold = space ∷ 48 ∷ []

-- `TN` becomes `TW`, and an `AR` line gets a space and 0 at its end.
abbrev pub to_new_lem : List ℕ → List ℕ
to_new_lem line = cond (eqb (first_two line) mark_tn) (84 ∷ 87 ∷ drop 2 line) (cond (eqb (first_two line) mark_ar) (line ++ no_hold) line)

-- `TW` becomes `TN`, and an `AR` line loses its hold with its space. Where this is done the hold is 0: two bytes.
abbrev pub to_old_lem : List ℕ → List ℕ
to_old_lem line = cond (eqb (first_two line) mark_tw) (84 ∷ 78 ∷ drop 2 line) (cond (eqb (first_two line) mark_ar) (take (length line - 2) line) line)

unfoldable pub converted_line : (wanted : Bool) → List ℕ → List ℕ
converted_line wanted line = cond wanted (to_new_lem line) (to_old_lem line)

unfoldable pub converted : (wanted : Bool) → List ℕ → List ℕ
converted wanted text = joined (map (converted_line wanted) (lines_of text))

-- ---- The answer

abbrev pub is_form_lem : (wanted held : Bool) → Bool
is_form_lem wanted held = cond wanted held (not held)

abbrev pub some_held : Town → Bool
some_held T = not (every (λ a. eqb a.hold 0) T.arcs)

abbrev pub is_too_long : (result output : ℕ) → Bool
is_too_long result output = ltb 65536 result || ltb output result

-- "33, the text already has the wanted form, after 27; 34, a hold other than 0 on the way back, after 33; 35, the result is above 65,536 bytes or
-- longer than the lent output, after 34."
abbrev pub conversion_rules : (wanted held : Bool) → Town → (result output : ℕ) → List Rule
conversion_rules wanted held T result output =
    (33 if is_form_lem wanted held)
    ∷ (34 if (not wanted && some_held T))
    ∷ (35 if is_too_long result output)
    ∷ []

-- "It gives the new numbers with line 0."
abbrev pub at_line0 : Outcome ℕ → Reading ℕ
at_line0 (refused number) = refused_at number 0
at_line0 (replied reply) = accepted reply

-- The rules are asked of a text without fault.
abbrev pub behind_faults : Reading Progress → (Progress → Outcome ℕ) → Reading ℕ
behind_faults (refused_at number line) rest = refused_at number line
behind_faults (accepted p) rest = at_line0 (rest p)

-- "The reply is the result's length."
unfoldable pub convert_answer : (wanted : Bool) → (text output : List ℕ) → Reading ℕ
convert_answer wanted text output =
    let result = length (converted wanted text) in
    behind_faults (first_fault text) (λ p. first_broken (conversion_rules wanted p.held (town_of text) result (length output)) result)

-- "The output after it is unchanged", and where the call is refused all of it.
abbrev pub after_converting : Reading ℕ → (after before : List ℕ) → List ℕ
after_converting (refused_at number line) after before = before
after_converting (accepted reply) after before = after

unfoldable pub output_after : (wanted : Bool) → (text output : List ℕ) → List ℕ
output_after wanted text output = after_converting (convert_answer wanted text output) (written (converted wanted text) output) output

-- ---- What a conversion is, in plain words

-- A line of the old form and the line of the new one.
pub data LineChanges : (old new : List ℕ) → Type 0 where
  town_letters : (bytes : List ℕ) → LineChanges (84 ∷ 78 ∷ bytes) (84 ∷ 87 ∷ bytes)
  arc_hold : (bytes : List ℕ) → LineChanges (65 ∷ 82 ∷ bytes) (65 ∷ 82 ∷ (bytes ++ no_hold))
  unchanged : {line : List ℕ} → (first_two line ≡ mark_tn → ⊥) → (first_two line ≡ mark_tw → ⊥) → (first_two line ≡ mark_ar → ⊥) → LineChanges line line

pub data LinesChange : (old new : List (List ℕ)) → Type 0 where
  no_more : LinesChange [] []
  next_line : {old new : List ℕ} {olds news : List (List ℕ)} → LineChanges old new → LinesChange olds news → LinesChange (old ∷ olds) (new ∷ news)

-- A text of the old form and the text of the new one, line by line.
pub record TextChanges (old new : List ℕ) : Type 0 where
  pub old_lines : List (List ℕ)
  pub new_lines : List (List ℕ)
  pub old_text : old ≡ joined old_lines
  pub new_text : new ≡ joined new_lines
  pub old_unbroken : Each Unbroken old_lines
  pub new_unbroken : Each Unbroken new_lines
  pub line_by_line : LinesChange old_lines new_lines

-- A text and its result, either way.
abbrev pub Converts : (wanted : Bool) → (text result : List ℕ) → Type 0
Converts wanted text result = cond wanted (TextChanges text result) (TextChanges result text)

-- On the way back no arc of the town is held.
abbrev pub NoHoldLost : (wanted : Bool) → Town → Type 0
NoHoldLost wanted T = wanted ≡ false → Each (λ a. a.hold ≡ 0) T.arcs

-- A result of so many bytes is a text's, and an output of so many takes it.
abbrev pub HasRoom : (result output : ℕ) → Type 0
HasRoom result output = (result ≤ 65536) × (result ≤ output)

-- Why a town in the other form is not converted, with the number that says so.
pub data Hindered (wanted : Bool) (T : Town) (result output : ℕ) : (number : ℕ) → Type 0 where
  hold_is_lost : (NoHoldLost wanted T → ⊥) → Hindered wanted T result output 34
  no_room : NoHoldLost wanted T → (HasRoom result output → ⊥) → Hindered wanted T result output 35

-- ---- What is proved of it

-- What a call that replies leaves in the output.
abbrev pub result_of : (wanted : Bool) → (text output : List ℕ) → (reply : ℕ) → List ℕ
result_of wanted text output reply = take reply (output_after wanted text output)

-- The result is the text but for the letters of the beginning and the hold of each arc, and what stands behind it in the output is unchanged.
abbrev pub ConvertsLineByLine : Type 0
ConvertsLineByLine = (wanted : Bool) (text output : List ℕ) → Bytes text → (reply : ℕ) → convert_answer wanted text output ≡ accepted reply →
    Converts wanted text (result_of wanted text output reply) × (drop reply (output_after wanted text output) ≡ drop reply output)

-- A text is converted exactly where it describes a town in the other form, no hold is lost and the result has room; the reply is its length.
abbrev pub ConvertsWhenDescribed : Type 0
ConvertsWhenDescribed = (wanted : Bool) (text output : List ℕ) → Bytes text → (reply : ℕ) →
    (convert_answer wanted text output ≡ accepted reply)
    ↔ (((T : Town) × Describes text (not wanted) T × NoHoldLost wanted T) × (reply ≡ length (converted wanted text)) × HasRoom reply (length output))

-- The result describes the same town in the wanted form.
abbrev pub ConvertedDescribesSame : Type 0
ConvertedDescribesSame = (wanted : Bool) (text output : List ℕ) (T : Town) → Describes text (not wanted) T → (reply : ℕ) →
    convert_answer wanted text output ≡ accepted reply → Describes (result_of wanted text output reply) wanted T

-- "Old to new to old, where neither step refuses, yields the same file byte by byte"; and new to old to new likewise.
abbrev pub RoundTrip : Type 0
RoundTrip = (wanted : Bool) (text output : List ℕ) → Bytes text → (reply : ℕ) → convert_answer wanted text output ≡ accepted reply →
    (output' : List ℕ) (reply' : ℕ) → let result = result_of wanted text output reply in
    convert_answer (not wanted) result output' ≡ accepted reply' → result_of (not wanted) result output' reply' ≡ text

-- "The converter first refuses as Load does, 20 to 27."
abbrev pub RefusesAsLoad : Type 0
RefusesAsLoad = (wanted : Bool) (text output : List ℕ) (lent : Tables) (number line : ℕ) → number ≤ 27 →
    (convert_answer wanted text output ≡ refused_at number line) ↔ (load_answer text lent ≡ refused_at number line)

-- A text that describes a town in the other form is refused only with line 0: by 34 exactly where a hold is lost, and else by 35 exactly where the
-- result has no room.
abbrev pub RefusedOnlyBy : Type 0
RefusedOnlyBy = (wanted : Bool) (text output : List ℕ) (T : Town) → Describes text (not wanted) T → (number line : ℕ) →
    (convert_answer wanted text output ≡ refused_at number line) ↔ ((line ≡ 0) × Hindered wanted T (length (converted wanted text)) (length output) number)

-- 33 is said, at line 0, exactly of a text that describes a town in the wanted form.
abbrev pub AlreadyWanted : Type 0
AlreadyWanted = (wanted : Bool) (text output : List ℕ) → Bytes text → (line : ℕ) →
    (convert_answer wanted text output ≡ refused_at 33 line) ↔ ((line ≡ 0) × ((T : Town) × Describes text wanted T))

-- The result's length by the count of arcs: two bytes more for each to the new form, and two fewer to the old.
abbrev pub LengthByArcs : Type 0
LengthByArcs = (text : List ℕ) → Bytes text → (p : Progress) → first_fault text ≡ accepted p →
    (p.held ≡ false → length (converted true text) ≡ length text + 2 * p.arcs) × (p.held ≡ true → length (converted false text) + 2 * p.arcs ≡ length text)
