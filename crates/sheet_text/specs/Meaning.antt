-- What the printed text says of the input, in the terms of the grammar and of walks: a sheet gives the figures of the departures asked for in the
-- town that the input describes, and a refusal says what is wrong with the input.
use Rattle.std.specs.Prelude.{ℕ, ◌*◌, ◌≤◌, ◌<◌, ◌≡◌, List, ◌⊎◌, ◌↔◌, length, get_or}
use Rattle.model.specs.Ticks.{day}
use Rattle.townfile.specs.FirstFault.{refused_at, first_fault}
use Rattle.townfile.specs.Grammar.{Bytes, Town, DescribesTown, network_of}
use Rattle.sheeting.specs.Figures.{figures_of, figure_in, FiguresMean}
use Rattle.sheeting.specs.Sheet.{max_departures, ShiftTaken}
use Rattle.formatting.specs.Texts.{refusal_text}
use Rattle.sheet_text.specs.Answer.{sheet_lines, sheet_text_lem}
use Rattle.sheet_text.specs.Question.{ShiftAndText}

-- "Otherwise prints a line per junction, without a header: its number and its four figures in that order": those of the list's 1 to 96
-- departures, each in the day, from a source that is a junction of the town.
pub record PrintedSheetMeans (input : List ℕ) (junctions : ℕ) (figures : List ℕ) : Type 0 where
  pub short_enough : length input ≤ 65536
  pub source : ℕ
  pub departures : List ℕ
  pub text : List ℕ
  pub question : ShiftAndText input source departures text
  pub town : Town
  pub described : DescribesTown text town
  pub taken : ShiftTaken (network_of town) source departures
  pub line_each : junctions ≡ town.junctions
  pub are_figures : figures ≡ figures_of (network_of town) source departures
  -- In terms of walks.
  pub figures_mean : (j : ℕ) → j < town.junctions →
      FiguresMean (network_of town) source j departures (figure_in figures j 0) (figure_in figures j 1) (figure_in figures j 2) (figure_in figures j 3)

-- A refusal's cases, with its number and its line.
pub data SheetRefusalMeans (input : List ℕ) : ℕ → ℕ → Type 0 where
  input_too_long : 65536 < length input → SheetRefusalMeans input 20 0
  no_question : length input ≤ 65536 → ((source : ℕ) (departures text : List ℕ) → ShiftAndText input source departures text → ⊥) → SheetRefusalMeans input 25 0
  -- "Load's refusals with their town-file line."
  faulty_text : {source number line : ℕ} {departures text : List ℕ} →
      length input ≤ 65536 → ShiftAndText input source departures text → first_fault text ≡ refused_at number line → SheetRefusalMeans input number line
  -- "9, source not below the junction count."
  unknown_source : {source : ℕ} {departures text : List ℕ} {town : Town} →
      length input ≤ 65536 → ShiftAndText input source departures text → DescribesTown text town → town.junctions ≤ source → SheetRefusalMeans input 9 0
  -- "30, the list is empty or above 96, after 9."
  wrong_count : {source : ℕ} {departures text : List ℕ} {town : Town} →
      length input ≤ 65536 → ShiftAndText input source departures text → DescribesTown text town → source < town.junctions →
      (length departures ≡ 0) ⊎ (max_departures < length departures) → SheetRefusalMeans input 30 0
  -- "10, departure 864,000 or above", "which now covers every departure".
  late_departure : {source : ℕ} {departures text : List ℕ} {town : Town} →
      length input ≤ 65536 → ShiftAndText input source departures text → DescribesTown text town → source < town.junctions →
      0 < length departures → length departures ≤ max_departures → (k : ℕ) → k < length departures → day ≤ get_or departures k 0 → SheetRefusalMeans input 10 0

-- ---- What is proved of it

-- The program prints the lines of four figures for each of so many junctions exactly where they are the figures asked for.
abbrev pub PrintsSheet : Type 0
PrintsSheet = (input : List ℕ) → Bytes input → (junctions : ℕ) (figures : List ℕ) →
    ((sheet_text_lem input ≡ sheet_lines figures 0 junctions) × (length figures ≡ 4 * junctions)) ↔ PrintedSheetMeans input junctions figures

-- It prints a refusal exactly in one of that refusal's cases.
abbrev pub PrintsSheetRefusal : Type 0
PrintsSheetRefusal = (input : List ℕ) → Bytes input → (number line : ℕ) →
    (sheet_text_lem input ≡ refusal_text number line) ↔ SheetRefusalMeans input number line

-- Every input of bytes has a sheet or a refusal.
abbrev pub SheetOrRefusal : Type 0
SheetOrRefusal = (input : List ℕ) → Bytes input →
    ((junctions : ℕ) × (figures : List ℕ) × PrintedSheetMeans input junctions figures) ⊎ ((number : ℕ) × (line : ℕ) × SheetRefusalMeans input number line)
