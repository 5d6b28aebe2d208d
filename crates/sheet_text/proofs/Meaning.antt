-- The answer to an input in each case of the paper, and so what each answer means. Different answers have different texts.
use Prim.Native.Nat.{ℕ, zero, suc, ◌*◌, ◌≤◌, ◌<◌}
use mathlib.Core.Path.{◌≡◌, refl, sym, ◌∙◌}
use mathlib.Core.Bool.{Bool, true, false, not, ◌&&◌}
use mathlib.Core.List.{List, [], ◌∷◌}
use mathlib.Core.Logic.{◌⊎◌, inl, inr}
use native.Mathlib.Omega.{arith}
use lib.Dec.{leb, ltb}
use lib.ListN.{length, get_or}
use borrow.Author.Tests.{lt-ltb, le-ltb}
use Rattle.checking.proofs.QuestionRules.{no_closures_keep}
use Rattle.model.specs.Ticks.{day}
use Rattle.model.specs.Rules.{first_broken, every}
use Rattle.model.proofs.Rules.{every_at, at_every}
use Rattle.model.proofs.Tests.{ltb_cases}
use Rattle.townfile.specs.FirstFault.{Reading, refused_at, accepted, first_fault}
use Rattle.townfile.specs.Grammar.{Bytes, Town, DescribesTown, network_of}
use Rattle.townfile.specs.declared.progress.Progress.{Progress}
use Rattle.townfile.proofs.Described.{faultless_described}
use Rattle.sheeting.specs.Sheet.{max_departures, in_day, ShiftTaken}
use Rattle.sheeting.proofs.Means.{figures_of_network_mean}
use Rattle.sheet_text.proofs.Listed.{none_listed, too_many_listed, count_kept}
use Rattle.question_line.proofs.Answers.{rest_bytes}
use Rattle.question_line.proofs.Towns.{answer_faulty, answer_described}
use Rattle.formatting.specs.Texts.{refusal_text, answer_text}
use Rattle.formatting.proofs.Texts.{same_refusal}
use Rattle.sheet_text.specs.Answer.{SheetFigures, sheet_in, network_sheet_lem, town_sheet_lem, sheet_for, sheet_lines, lines_of, sheet_text_lem}
use Rattle.sheet_text.specs.Meaning.{PrintedSheetMeans, SheetRefusalMeans, input_too_long, no_question, faulty_text, unknown_source, wrong_count, late_departure}
use Rattle.sheet_text.specs.Meaning.{PrintsSheet, PrintsSheetRefusal, SheetOrRefusal}
use Rattle.sheet_text.specs.Question.{asks_shift, ShiftAndText}
use Rattle.sheet_text.proofs.Answers.{sheet_too_long, sheet_not_asked, sheet_asked}
use Rattle.sheet_text.proofs.Networks.{figures_long}
use Rattle.sheet_text.proofs.Questions.{asks_shift_when_of_form}
use Rattle.sheet_text.proofs.ReadBack.{same_sheet, sheet_no_refusal}

abbrev Means : List ℕ → Reading SheetFigures → Type 0
Means input (refused_at number line) = SheetRefusalMeans input number line
Means input (accepted sheet) = PrintedSheetMeans input sheet.junctions sheet.figures

-- ---- The departures' tests

abbrev Late : List ℕ → Type 0
Late departures = (k : ℕ) × (k < length departures) × (day ≤ get_or departures k 0)

all_or_late : (departures : List ℕ) → ((k : ℕ) → k < length departures → get_or departures k 0 < day) ⊎ Late departures
all_or_late [] = inl (λ k h. absurd (omega arith))
all_or_late (departure ∷ departures) = go (ltb_cases departure day) (all_or_late departures)
  where
    go : ((ltb departure day ≡ true) × (departure < day)) ⊎ ((ltb departure day ≡ false) × (day ≤ departure)) →
        ((k : ℕ) → k < length departures → get_or departures k 0 < day) ⊎ Late departures →
        ((k : ℕ) → k < suc (length departures) → get_or (departure ∷ departures) k 0 < day) ⊎ Late (departure ∷ departures)
    go (inr late) others = inr (0, omega arith, late.1)
    go (inl early) (inr late) = inr (suc late.0, omega (arith, late.1), late.2)
    go (inl early) (inl all) = inl each
      where
        each : (k : ℕ) → k < suc (length departures) → get_or (departure ∷ departures) k 0 < day
        each zero h = early.1
        each (suc k) h = all k (omega arith)

late_fails : (departures : List ℕ) (k : ℕ) → k < length departures → day ≤ get_or departures k 0 → every in_day departures ≡ false
late_fails departures k h late = go (every in_day departures) refl
  where
    go : (test : Bool) → every in_day departures ≡ test → test ≡ false
    go true all = sym (every_at in_day 0 departures all k h) ∙ le-ltb (get_or departures k 0) day late
    go false all = refl

-- ---- The answer in each case

module _ (input : List ℕ) (bytes : Bytes input) where
  module _ (short : length input ≤ 65536) {source : ℕ} {departures text : List ℕ} (question : ShiftAndText input source departures text) where
    answer_question : sheet_for input ≡ town_sheet_lem text source departures
    answer_question =
        let asked = (asks_shift_when_of_form input bytes source departures text).1 question in
        sheet_asked input short asked.0 ∙ rw (asked.1, asked.2, asked.3)

    module _ {town : Town} (described : DescribesTown text town) where
      answer_town : sheet_for input ≡ network_sheet_lem (network_of town) source departures
      answer_town = answer_question ∙ answer_described _ text described.1

      answer_unknown : town.junctions ≤ source → sheet_for input ≡ refused_at 9 0
      unfolding network_sheet_lem first_broken
      answer_unknown outside = answer_town ∙ rw (le-ltb source town.junctions outside)

      module _ (below : source < town.junctions) where
        answer_count : (length departures ≡ 0) ⊎ (max_departures < length departures) → sheet_for input ≡ refused_at 30 0
        unfolding network_sheet_lem first_broken
        answer_count count = answer_town ∙ rw (lt-ltb source town.junctions below, broken count)
          where
            broken : (length departures ≡ 0) ⊎ (max_departures < length departures) → not (ltb 0 (length departures) && leb (length departures) max_departures) ≡ true
            broken (inl none) = none_listed none
            broken (inr many) = too_many_listed many

        module _ (some : 0 < length departures) (few : length departures ≤ max_departures) where
          count_keeps_law : not (ltb 0 (length departures) && leb (length departures) max_departures) ≡ false
          count_keeps_law = count_kept (λ none. omega arith) few

          answer_late : (k : ℕ) → k < length departures → day ≤ get_or departures k 0 → sheet_for input ≡ refused_at 10 0
          unfolding network_sheet_lem first_broken
          answer_late k h late = answer_town ∙ rw (lt-ltb source town.junctions below, count_keeps_law, late_fails departures k h late)

          answer_sheet : ((k : ℕ) → k < length departures → get_or departures k 0 < day) → sheet_for input ≡ accepted (sheet_in (network_of town) source departures)
          unfolding network_sheet_lem first_broken
          answer_sheet all =
              let days = at_every in_day 0 departures (λ k h. lt-ltb (get_or departures k 0) day (all k h)) in
              answer_town ∙ rw (lt-ltb source town.junctions below, count_keeps_law, days)

  -- ---- From a meaning to the answer

  meant_sheet : {junctions : ℕ} {figures : List ℕ} → PrintedSheetMeans input junctions figures → sheet_for input ≡ accepted (record { junctions = junctions; figures = figures })
  meant_sheet m =
      let t = m.taken in
      rw (m.line_each, m.are_figures) (answer_sheet m.short_enough m.question m.described t.source_below t.some t.at_most t.departures_below)

  meant_refusal : {number line : ℕ} → SheetRefusalMeans input number line → sheet_for input ≡ refused_at number line
  meant_refusal (input_too_long long) = sheet_too_long input long
  meant_refusal (no_question short none) = go (asks_shift input) refl
    where
      go : (test : Bool) → asks_shift input ≡ test → sheet_for input ≡ refused_at 25 0
      go true a = absurd (none _ _ _ ((asks_shift_when_of_form input bytes _ _ _).0 (a, refl, refl, refl)))
      go false a = sheet_not_asked input short a
  meant_refusal (faulty_text short question fault) = answer_question short question ∙ answer_faulty _ _ fault
  meant_refusal (unknown_source short question described outside) = answer_unknown short question described outside
  meant_refusal (wrong_count short question described below count) = answer_count short question described below count
  meant_refusal (late_departure short question described below some few k h late) = answer_late short question described below some few k h late

  -- ---- From the answer to its meaning

  module _ (short : length input ≤ 65536) {source : ℕ} {departures text : List ℕ} (question : ShiftAndText input source departures text) where
    module _ {town : Town} (described : DescribesTown text town) where
      module _ (below : source < town.junctions) where
        count_means : (length departures ≡ 0) ⊎ (max_departures < length departures) → Means input (sheet_for input)
        count_means count = rw (answer_count short question described below count) (wrong_count short question described below count)

        listed_means : 0 < length departures → length departures ≤ max_departures → Means input (sheet_for input)
        listed_means some few = go (all_or_late departures)
          where
            taken : ((k : ℕ) → k < length departures → get_or departures k 0 < day) → ShiftTaken (network_of town) source departures
            taken all = record {
              accepted = described.1.kept.network_accepted;
              closures_kept = no_closures_keep refl;
              source_below = below;
              some = some;
              at_most = few;
              departures_below = all;
            }

            sheet : ((k : ℕ) → k < length departures → get_or departures k 0 < day) → Means input (accepted (sheet_in (network_of town) source departures))
            sheet all = record {
              short_enough = short;
              source = source;
              departures = departures;
              text = text;
              question = question;
              town = town;
              described = described;
              taken = taken all;
              line_each = refl;
              are_figures = refl;
              figures_mean = figures_of_network_mean (network_of town) described.1.kept.network_accepted source below departures all;
            }

            go : ((k : ℕ) → k < length departures → get_or departures k 0 < day) ⊎ Late departures → Means input (sheet_for input)
            go (inl all) = rw (answer_sheet short question described below some few all) (sheet all)
            go (inr late) =
                rw (answer_late short question described below some few late.0 late.1 late.2)
                (late_departure short question described below some few late.0 late.1 late.2)

      described_means : Means input (sheet_for input)
      described_means = elim (ltb_cases source town.junctions) [
        | inl below ↦ elim (ltb_cases 0 (length departures)) [
          | inl some ↦ elim (ltb_cases max_departures (length departures)) [
            | inl many ↦ count_means below.1 (inr many.1)
            | inr few ↦ listed_means below.1 some.1 few.1
          ]
          | inr none ↦ count_means below.1 (inl (omega (arith, none.1)))
        ]
        | inr outside ↦ rw (answer_unknown short question described outside.1) (unknown_source short question described outside.1)
      ]

    asked_means : Means input (sheet_for input)
    asked_means = go (first_fault text) refl
      where
        go : (reading : Reading Progress) → first_fault text ≡ reading → Means input (sheet_for input)
        go (refused_at number line) e = rw (answer_question short question ∙ answer_faulty _ _ e) (faulty_text short question e)
        go (accepted p) e = described_means (p.held, (faultless_described (rest_bytes bytes question) e).1)

  unasked : asks_shift input ≡ false → (source : ℕ) (departures text : List ℕ) → ShiftAndText input source departures text → ⊥
  unasked a source departures text question =
      let asked = ((asks_shift_when_of_form input bytes source departures text).1 question).0 in
      let z : ◌≡◌ {A = ℕ} 0 1 = cc in
      omega arith

  means : Means input (sheet_for input)
  means = elim (ltb_cases 65536 (length input)) [
    | inl long ↦ rw (sheet_too_long input long.1) (input_too_long long.1)
    | inr short ↦ go short.1 (asks_shift input) refl
  ]
    where
      go : length input ≤ 65536 → (test : Bool) → asks_shift input ≡ test → Means input (sheet_for input)
      go short true a = asked_means short ((asks_shift_when_of_form input bytes _ _ _).0 (a, refl, refl, refl))
      go short false a = rw (sheet_not_asked input short a) (no_question short (unasked a))

-- ---- The text

four_each : {input : List ℕ} {junctions : ℕ} {figures : List ℕ} → PrintedSheetMeans input junctions figures → length figures ≡ 4 * junctions
four_each m = rw (m.are_figures, m.line_each) (figures_long (network_of m.town) m.source m.departures)

pub prints_sheet : PrintsSheet
unfolding sheet_text_lem
prints_sheet input bytes junctions figures = (
  (λ printed. go (sheet_for input) (means input bytes) printed.0 printed.1),
  (λ m. (rw (meant_sheet input bytes m), four_each m)),
)
  where
    go : (answer : Reading SheetFigures) → Means input answer → answer_text lines_of answer ≡ sheet_lines figures 0 junctions →
        length figures ≡ 4 * junctions → PrintedSheetMeans input junctions figures
    go (refused_at number line) m e long = absurd (sheet_no_refusal figures junctions number line (sym e))
    go (accepted sheet) m e long =
        let same = same_sheet sheet.figures figures sheet.junctions junctions (four_each m) long e in
        rw (same.0, same.1) at m

pub prints_sheet_refusal : PrintsSheetRefusal
unfolding sheet_text_lem
prints_sheet_refusal input bytes number line = (go (sheet_for input) (means input bytes), (λ m. rw (meant_refusal input bytes m)))
  where
    go : (answer : Reading SheetFigures) → Means input answer → answer_text lines_of answer ≡ refusal_text number line → SheetRefusalMeans input number line
    go (refused_at number' line') m e = let same = same_refusal number' line' number line e in rw (same.0, same.1) at m
    go (accepted sheet) m e = absurd (sheet_no_refusal sheet.figures sheet.junctions number line e)

pub sheet_or_refusal : SheetOrRefusal
sheet_or_refusal input bytes = go (sheet_for input) (means input bytes)
  where
    go : (answer : Reading SheetFigures) → Means input answer →
        ((junctions : ℕ) × (figures : List ℕ) × PrintedSheetMeans input junctions figures) ⊎ ((number : ℕ) × (line : ℕ) × SheetRefusalMeans input number line)
    go (refused_at number line) m = inr (number, line, m)
    go (accepted sheet) m = inl (sheet.junctions, sheet.figures, m)
