-- What Load's refusals of a text mean, in plain words: "20, text too long, at line 0. Then the first faulty line, counted from 1, and on it the
-- first of: 21, no LF; 22, over 700 bytes; 23, no known mark; 24, mark out of turn (`FN` before `TN`, `JN` or `AR` before `FN`, `JN` after `AR`) or
-- a second `TN` or `FN`; 25, fields not of the form above or not of the right number; 26, a field outside the network's limits, [..]. At the
-- end: 27, `TN` or `FN` missing, at line count + 1." What 23, 25 and 26 ask of a line stands in LineFaults.
use Rattle.std.specs.Prelude.{ℕ, suc, ◌≤◌, ◌<◌, ◌≡◌, Bool, cond, List, [], ◌∷◌, ◌++◌, map, ◌↔◌, ltb, length, get_or}
use Rattle.townfile.specs.Bytes.{line_feed}
use Rattle.townfile.specs.Grammar.{Bytes, Line, Reads, Unbroken, joined}
use Rattle.townfile.specs.Lines.{mark_tn, mark_fn, mark_jn, mark_ar, mark_cm, begins_held, mark_of, town_due, fences_due, names_due, arcs_due}
use Rattle.townfile.specs.LineFaults.{Known, CountsMatch, WithinLimits}
use Rattle.townfile.specs.FirstFault.{refused_at}
use Rattle.townfile.specs.Tables.{marked, town_in, names_in, arcs_in}
use Rattle.townfile.specs.Load.{Tables, load_answer}
use Rattle.townfile.specs.declared.progress.Progress.{Progress}

-- ---- What the lines before a line have settled

-- A line with the mark is among them.
abbrev pub Stands : ℕ → List (List ℕ) → Type 0
Stands mark lines = 1 ≤ length (marked mark lines)

-- The last of some numbers, or another where there is none.
unfoldable pub last_or : ℕ → List ℕ → ℕ
last_or other [] = other
last_or other (n ∷ numbers) = last_or n numbers

-- The mark that is due, by the marks that stand.
unfoldable pub due_after : List (List ℕ) → ℕ
due_after lines =
    cond (ltb 0 (length (marked mark_ar lines))) arcs_due
    (cond (ltb 0 (length (marked mark_fn lines))) names_due
    (cond (ltb 0 (length (marked mark_tn lines))) fences_due town_due))

-- The form and the counts of the `TN`, one more than the number of the last `JN`, and how many `AR` there are. `TW` stands for `TN`.
unfoldable pub progress_after : List (List ℕ) → Progress
progress_after lines = record {
  turn = due_after lines;
  held = begins_held (get_or (marked mark_tn lines) 0 []);
  junctions = get_or (town_in lines) 0 0;
  intervals = get_or (town_in lines) 1 0;
  unnamed = last_or 0 (map (λ named. suc named.number) (names_in lines));
  arcs = length (arcs_in lines);
}

-- ---- A line behind others

-- 24: a mark in its turn.
pub data InTurn (before : List (List ℕ)) (mark : ℕ) : Type 0 where
  first_town : mark ≡ mark_tn → (Stands mark_tn before → ⊥) → InTurn before mark
  first_fences : mark ≡ mark_fn → Stands mark_tn before → (Stands mark_fn before → ⊥) → InTurn before mark
  junction_before_arcs : mark ≡ mark_jn → Stands mark_fn before → (Stands mark_ar before → ⊥) → InTurn before mark
  arc_after_fences : mark ≡ mark_ar → Stands mark_fn before → InTurn before mark
  any_comment : mark ≡ mark_cm → InTurn before mark

-- 25: it reads as some line in one of the forms, with the right number of fields.
abbrev pub Formed : List (List ℕ) → List ℕ → Type 0
Formed before line = (held : Bool) × (says : Line) × Reads held line says × CountsMatch (progress_after before) held says

-- 26: and what it says is within the limits.
abbrev pub Limited : List (List ℕ) → List ℕ → Type 0
Limited before line =
    (held : Bool) × (says : Line) × Reads held line says × CountsMatch (progress_after before) held says × WithinLimits (progress_after before) says

pub record Good (before : List (List ℕ)) (line : List ℕ) : Type 0 where
  pub short : length line ≤ 700
  pub mark_in_turn : InTurn before (mark_of line)
  pub formed : Formed before line
  pub limited : Limited before line

-- Each of the lines is good behind those before it.
unfoldable pub GoodAfter : List (List ℕ) → List (List ℕ) → Type 0
GoodAfter before [] = Unit {0}
GoodAfter before (line ∷ lines) = Good before line × GoodAfter (before ++ (line ∷ [])) lines

-- The first of 22 to 26 that a line breaks.
pub data Breaks (before : List (List ℕ)) (line : List ℕ) : ℕ → Type 0 where
  too_long : 700 < length line → Breaks before line 22
  unknown : length line ≤ 700 → (Known (mark_of line) → ⊥) → Breaks before line 23
  out_of_turn : length line ≤ 700 → Known (mark_of line) → (InTurn before (mark_of line) → ⊥) → Breaks before line 24
  malformed : length line ≤ 700 → InTurn before (mark_of line) → (Formed before line → ⊥) → Breaks before line 25
  outside : length line ≤ 700 → InTurn before (mark_of line) → Formed before line → (Limited before line → ⊥) → Breaks before line 26

-- ---- A text

-- The number and the line with which a text is refused. The lines before that line are good; on it stand some bytes without LF, or a line with
-- one, behind which any bytes follow. At the text's end all its lines are good.
pub data Faulty (text : List ℕ) : (number line : ℕ) → Type 0 where
  text_too_long : 65536 < length text → Faulty text 20 0
  no_line_feed : (lines : List (List ℕ)) (bytes : List ℕ) → length text ≤ 65536 → GoodAfter [] lines →
      text ≡ joined lines ++ bytes → Unbroken bytes → 1 ≤ length bytes → Faulty text 21 (suc (length lines))
  in_line : (lines : List (List ℕ)) (line rest : List ℕ) {number : ℕ} → length text ≤ 65536 → GoodAfter [] lines →
      text ≡ joined lines ++ (line ++ (line_feed ∷ rest)) → Unbroken line → Breaks lines line number → Faulty text number (suc (length lines))
  line_missing : (lines : List (List ℕ)) → length text ≤ 65536 → GoodAfter [] lines →
      text ≡ joined lines → (Stands mark_tn lines → Stands mark_fn lines → ⊥) → Faulty text 27 (suc (length lines))

-- ---- What is proved of it

-- Load refuses with a number other than 28 exactly where the text is so faulty; 28 is TooShortWhenDescribed's.
abbrev pub LoadRefusesWhenFaulty : Type 0
LoadRefusesWhenFaulty = (text : List ℕ) → Bytes text → (lent : Tables) (number line : ℕ) → (number ≡ 28 → ⊥) →
    (load_answer text lent ≡ refused_at number line) ↔ Faulty text number line
