-- What the printed text says of the input, in the terms of the grammar and of walks: a table gives the earliest arrivals in the town
-- that the input describes, and a refusal says what is wrong with the input.
use Rattle.std.specs.Prelude.{ℕ, ◌≤◌, ◌<◌, ◌≡◌, List, ◌⊎◌, ◌↔◌, length, get_or}
use Rattle.model.specs.Ticks.{day, never}
use Rattle.model.specs.Walks.{Earliest}
use Rattle.model.specs.Labels.{Certified, Lowest}
use Rattle.model.specs.Network.{net_of}
use Rattle.townfile.specs.FirstFault.{refused_at, first_fault}
use Rattle.townfile.specs.Grammar.{Bytes, Town, DescribesTown, network_of}
use Rattle.formatting.specs.Texts.{refusal_text}
use Rattle.arrivals_text.specs.Answer.{table_text, text_of_arrivals}
use Rattle.arrivals_text.specs.Question.{QuestionAndText}

-- "Otherwise the header shown below, then a line per junction: its number, its label, its predecessor." "A junction's label is the
-- least arrival over all walks from the source." "The predecessor of a reached junction other than the source is the
-- lowest_numbered arc into it that, left at its tail's label, arrives at the junction's label." There is one of each for every
-- junction of the town.
pub record TableMeans (input labels predecessors : List ℕ) : Type 0 where
  pub short_enough : length input ≤ 65536
  pub source : ℕ
  pub departure : ℕ
  pub text : List ℕ
  pub question : QuestionAndText input source departure text
  pub town : Town
  pub described : DescribesTown text town
  pub source_below : source < town.junctions
  pub departure_below : departure < day
  pub earliest : Earliest (net_of (network_of town)) source departure (λ j. get_or labels j never)
  pub certified : Certified (net_of (network_of town)) source departure labels predecessors
  pub lowest : Lowest (net_of (network_of town)) source labels predecessors

-- A refusal's cases, with its number and its line.
pub data RefusalMeans (input : List ℕ) : ℕ → ℕ → Type 0 where
  -- "For more than 65,536 bytes in all it prints only `refused 20 line 0`."
  input_too_long : 65536 < length input → RefusalMeans input 20 0
  -- "Then a first line not of that form, or none, gives `refused 25 line 0`."
  no_question : length input ≤ 65536 → ((source departure : ℕ) (text : List ℕ) → QuestionAndText input source departure text → ⊥) → RefusalMeans input 25 0
  -- "Then Load's refusals with their town-file line."
  faulty_text : {source departure number line : ℕ} {text : List ℕ} →
      length input ≤ 65536 → QuestionAndText input source departure text → first_fault text ≡ refused_at number line → RefusalMeans input number line
  -- "Then 9 or 10 with line 0": "9, source not below the junction count; 10, departure 864,000 or above".
  unknown_source : {source departure : ℕ} {text : List ℕ} {town : Town} →
      length input ≤ 65536 → QuestionAndText input source departure text → DescribesTown text town → town.junctions ≤ source → RefusalMeans input 9 0
  late_departure : {source departure : ℕ} {text : List ℕ} {town : Town} →
      length input ≤ 65536 → QuestionAndText input source departure text → DescribesTown text town → source < town.junctions → day ≤ departure → RefusalMeans input 10 0

-- ---- What is proved of it

-- The program prints the table of two lists of the same length exactly where they are the labels and predecessors asked for.
abbrev pub PrintsTable : Type 0
PrintsTable = (input : List ℕ) → Bytes input → (labels predecessors : List ℕ) →
    ((text_of_arrivals input ≡ table_text labels predecessors) × (length predecessors ≡ length labels)) ↔ TableMeans input labels predecessors

-- It prints a refusal exactly in one of that refusal's cases.
abbrev pub PrintsRefusal : Type 0
PrintsRefusal = (input : List ℕ) → Bytes input → (number line : ℕ) →
    (text_of_arrivals input ≡ refusal_text number line) ↔ RefusalMeans input number line

-- Every input of bytes has a table or a refusal.
abbrev pub TableOrRefusal : Type 0
TableOrRefusal = (input : List ℕ) → Bytes input →
    ((labels : List ℕ) × (predecessors : List ℕ) × TableMeans input labels predecessors) ⊎ ((number : ℕ) × (line : ℕ) × RefusalMeans input number line)
