-- The answer to an input in each case of the paper, and so what each answer means. Different answers have different texts.
use Prim.Native.Nat.{ℕ, ◌≤◌, ◌<◌}
use mathlib.Core.Path.{◌≡◌, refl, sym, ◌∙◌}
use mathlib.Core.Bool.{Bool, true, false}
use mathlib.Core.List.{List}
use mathlib.Core.Logic.{◌⊎◌, inl, inr}
use native.Mathlib.Omega.{arith}
use lib.ListN.{length}
use borrow.Author.Tests.{lt-ltb, le-ltb}
use Rattle.model.specs.Ticks.{day}
use Rattle.model.specs.Rules.{first_broken}
use Rattle.model.proofs.Demands.{demand_2, only_tables_of_network}
use Rattle.model.proofs.Tests.{ltb_cases}
use Rattle.townfile.specs.FirstFault.{Reading, refused_at, accepted, first_fault}
use Rattle.townfile.specs.Grammar.{Bytes, Town, DescribesTown, network_of}
use Rattle.townfile.specs.declared.progress.Progress.{Progress}
use Rattle.townfile.proofs.Described.{faultless_described}
use Rattle.question_line.proofs.Answers.{rest_bytes}
use Rattle.question_line.proofs.Towns.{answer_faulty, answer_described}
use Rattle.formatting.specs.Texts.{refusal_text, answer_text}
use Rattle.formatting.proofs.Texts.{same_refusal}
use Rattle.town_labels.specs.Labelling.{Labelling, labelling_of, network_labelling, town_labelling}
use Rattle.arrivals_text.specs.Answer.{answer_to, table_text, table_of, text_of_arrivals}
use Rattle.arrivals_text.specs.Meaning.{TableMeans, PrintsTable, PrintsRefusal, TableOrRefusal}
use Rattle.arrivals_text.specs.Meaning.{RefusalMeans, input_too_long, no_question, faulty_text, unknown_source, late_departure}
use Rattle.arrivals_text.specs.Question.{QuestionAndText, asks}
use Rattle.arrivals_text.proofs.Answers.{answer_too_long, answer_not_asked, answer_asked}
use Rattle.arrivals_text.proofs.Questions.{asks_when_of_form}
use Rattle.arrivals_text.proofs.ReadBack.{same_arrivals, table_no_refusal}

abbrev Means : List ℕ → Reading Labelling → Type 0
Means input (refused_at number line) = RefusalMeans input number line
Means input (accepted labelling) = TableMeans input labelling.labels labelling.predecessors

-- ---- The answer in each case

module _ (input : List ℕ) (bytes : Bytes input) where
  module _ (short : length input ≤ 65536) {source departure : ℕ} {text : List ℕ} (question : QuestionAndText input source departure text) where
    answer_question : answer_to input ≡ town_labelling text source departure
    answer_question =
        let asked = (asks_when_of_form input bytes source departure text).1 question in
        answer_asked input short asked.0 ∙ rw (asked.1, asked.2, asked.3)

    module _ {town : Town} (described : DescribesTown text town) where
      answer_town : answer_to input ≡ network_labelling (network_of town) source departure
      answer_town = answer_question ∙ answer_described _ text described.1

      answer_unknown : town.junctions ≤ source → answer_to input ≡ refused_at 9 0
      unfolding network_labelling first_broken
      answer_unknown outside = answer_town ∙ rw (le-ltb source town.junctions outside)

      module _ (below : source < town.junctions) where
        answer_late : day ≤ departure → answer_to input ≡ refused_at 10 0
        unfolding network_labelling first_broken
        answer_late late = answer_town ∙ rw (lt-ltb source town.junctions below, le-ltb departure day late)

        answer_table : departure < day → answer_to input ≡ accepted (labelling_of (network_of town) source departure)
        unfolding network_labelling first_broken
        answer_table early = answer_town ∙ rw (lt-ltb source town.junctions below, lt-ltb departure day early)

  -- ---- From a meaning to the answer

  meant_table : {labels predecessors : List ℕ} → TableMeans input labels predecessors → answer_to input ≡ accepted (record { labels = labels; predecessors = predecessors })
  meant_table {labels} {predecessors} m =
      let kept = m.described.1.kept.network_accepted in
      let only = only_tables_of_network (network_of m.town) kept m.source m.departure m.source_below m.departure_below labels predecessors in
      let tables = only.0 (m.certified, m.lowest) in
      rw (tables.0, tables.1) (answer_table m.short_enough m.question m.described m.source_below m.departure_below)

  meant_refusal : {number line : ℕ} → RefusalMeans input number line → answer_to input ≡ refused_at number line
  meant_refusal (input_too_long long) = answer_too_long input long
  meant_refusal (no_question short none) = go (asks input) refl
    where
      go : (test : Bool) → asks input ≡ test → answer_to input ≡ refused_at 25 0
      go true a = absurd (none _ _ _ ((asks_when_of_form input bytes _ _ _).0 (a, refl, refl, refl)))
      go false a = answer_not_asked input short a
  meant_refusal (faulty_text short question fault) = answer_question short question ∙ answer_faulty _ _ fault
  meant_refusal (unknown_source short question described outside) = answer_unknown short question described outside
  meant_refusal (late_departure short question described below late) = answer_late short question described below late

  -- ---- From the answer to its meaning

  described_means : length input ≤ 65536 → {source departure : ℕ} {text : List ℕ} → QuestionAndText input source departure text →
      {town : Town} → DescribesTown text town → Means input (answer_to input)
  described_means short {source} {departure} question {town} described = elim (ltb_cases source town.junctions) [
    | inl below ↦ elim (ltb_cases departure day) [
      | inl early ↦ rw (answer_table short question described below.1 early.1) (table_means below.1 early.1)
      | inr late ↦ rw (answer_late short question described below.1 late.1) (late_departure short question described below.1 late.1)
    ]
    | inr outside ↦ rw (answer_unknown short question described outside.1) (unknown_source short question described outside.1)
  ]
    where
      table_means : source < town.junctions → departure < day → Means input (accepted (labelling_of (network_of town) source departure))
      table_means below early =
          let kept = described.1.kept.network_accepted in
          let tables = (only_tables_of_network (network_of town) kept source departure below early _ _).1 (refl, refl) in
          record {
            short_enough = short;
            source = source;
            departure = departure;
            text = _;
            question = question;
            town = town;
            described = described;
            source_below = below;
            departure_below = early;
            earliest = demand_2 (network_of town) kept source departure below early;
            certified = tables.0;
            lowest = tables.1;
          }

  text_bytes : {source departure : ℕ} {text : List ℕ} → QuestionAndText input source departure text → Bytes text
  text_bytes question = rest_bytes bytes (record { bytes = question.bytes; fields = question.two_fields; in_all = question.in_all })

  asked_means : length input ≤ 65536 → {source departure : ℕ} {text : List ℕ} → QuestionAndText input source departure text → Means input (answer_to input)
  asked_means short {text = text} question = go (first_fault text) refl
    where
      go : (reading : Reading Progress) → first_fault text ≡ reading → Means input (answer_to input)
      go (refused_at number line) e = rw (answer_question short question ∙ answer_faulty _ _ e) (faulty_text short question e)
      go (accepted p) e = described_means short question (p.held, (faultless_described (text_bytes question) e).1)

  unasked : asks input ≡ false → (source departure : ℕ) (text : List ℕ) → QuestionAndText input source departure text → ⊥
  unasked a source departure text question =
      let asked = ((asks_when_of_form input bytes source departure text).1 question).0 in
      let z : ◌≡◌ {A = ℕ} 0 1 = cc in
      omega arith

  means : Means input (answer_to input)
  means = elim (ltb_cases 65536 (length input)) [
    | inl long ↦ rw (answer_too_long input long.1) (input_too_long long.1)
    | inr short ↦ go short.1 (asks input) refl
  ]
    where
      go : length input ≤ 65536 → (test : Bool) → asks input ≡ test → Means input (answer_to input)
      go short true a = asked_means short ((asks_when_of_form input bytes _ _ _).0 (a, refl, refl, refl))
      go short false a = rw (answer_not_asked input short a) (no_question short (unasked a))

-- ---- The text

same_length : {input labels predecessors : List ℕ} → TableMeans input labels predecessors → length predecessors ≡ length labels
same_length m = m.certified.predecessors_long ∙ sym m.certified.labels_long

pub prints_table : PrintsTable
unfolding text_of_arrivals
prints_table input bytes labels predecessors = (
  (λ printed. go (answer_to input) (means input bytes) printed.0 printed.1),
  (λ m. (rw (meant_table input bytes m), same_length m)),
)
  where
    go : (answer : Reading Labelling) → Means input answer → answer_text table_of answer ≡ table_text labels predecessors →
        length predecessors ≡ length labels → TableMeans input labels predecessors
    go (refused_at number line) m e long = absurd (table_no_refusal labels predecessors number line (sym e))
    go (accepted labelling) m e long =
        let same = same_arrivals labelling.labels labelling.predecessors labels predecessors (same_length m) long e in
        rw (same.0, same.1) at m

pub prints_refusal : PrintsRefusal
unfolding text_of_arrivals
prints_refusal input bytes number line = (go (answer_to input) (means input bytes), (λ m. rw (meant_refusal input bytes m)))
  where
    go : (answer : Reading Labelling) → Means input answer → answer_text table_of answer ≡ refusal_text number line → RefusalMeans input number line
    go (refused_at number' line') m e = let same = same_refusal number' line' number line e in rw (same.0, same.1) at m
    go (accepted labelling) m e = absurd (table_no_refusal labelling.labels labelling.predecessors number line e)

pub table_or_refusal : TableOrRefusal
table_or_refusal input bytes = go (answer_to input) (means input bytes)
  where
    go : (answer : Reading Labelling) → Means input answer →
        ((labels : List ℕ) × (predecessors : List ℕ) × TableMeans input labels predecessors) ⊎ ((number : ℕ) × (line : ℕ) × RefusalMeans input number line)
    go (refused_at number line) m = inr (number, line, m)
    go (accepted labelling) m = inl (labelling.labels, labelling.predecessors, m)
