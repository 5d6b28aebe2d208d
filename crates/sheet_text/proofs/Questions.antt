-- The question is a line of the mark `QU` with a source: what the code keeps of its numbers, and the grammar's form.
use Prim.Native.Nat.{ℕ, suc, ◌-◌, ◌<◌, min}
use mathlib.Core.Path.{◌≡◌, refl, ap}
use mathlib.Core.Bool.{true, false, and-false}
use mathlib.Core.List.{List, [], ◌∷◌}
use mathlib.Core.Logic.{◌↔◌}
use native.Mathlib.Omega.{arith}
use lib.Dec.{ltb}
use lib.ListN.{length, get_or, take, drop, replicate, length-take}
use lib.Seq.{take_at}
use borrow.Author.Tests.{lt-ltb, le-ltb, ltb-true}
use Rattle.model.specs.Rules.{written}
use Rattle.model.proofs.Rules.{true_both, both_true}
use Rattle.townfile.specs.Grammar.{Bytes}
use Rattle.question_line.specs.Line.{numbers_in, of_form, rest_of}
use Rattle.question_line.specs.Question.{mark_qu, source_in, town_text}
use Rattle.question_line.proofs.Forms.{of_form_when_written}
use Rattle.sheet_text.specs.Question.{asks_shift, departures_in, ShiftAndText, AsksShiftWhenOfForm}

-- ---- What the code keeps

-- The table has room for the source and 97 departures.
pub kept_source : (numbers : List ℕ) → 0 < length numbers → get_or (written (take 98 numbers) (replicate 98 0)) 0 0 ≡ get_or numbers 0 0
kept_source [] some = absurd (omega arith)
kept_source (source ∷ departures) some = refl

pub kept_departures : (numbers : List ℕ) → 0 < length numbers →
    take (min (length numbers) 98 - 1) (drop 1 (written (take 98 numbers) (replicate 98 0))) ≡ take 97 (drop 1 numbers)
kept_departures [] some = absurd (omega arith)
kept_departures (source ∷ departures) some =
    let count = min (suc (length departures)) 98 - 1 in
    let long : length (take 97 departures) ≡ count = omega (arith, length-take 97 departures) in
    take_at (take 97 departures) (drop (suc (length (take 97 departures))) (replicate 98 0)) count long

-- ---- Whether the line asks

module _ (input : List ℕ) where
  pub other_form : of_form mark_qu input ≡ false → asks_shift input ≡ false
  unfolding asks_shift
  other_form e = rw e

  pub no_source : length (numbers_in input) ≡ 0 → asks_shift input ≡ false
  unfolding asks_shift
  no_source none = rw (le-ltb 0 (length (numbers_in input)) (omega (arith, none))) (and-false (of_form mark_qu input))

  pub asks_source : of_form mark_qu input ≡ true → 0 < length (numbers_in input) → asks_shift input ≡ true
  unfolding asks_shift
  asks_source form some = both_true form (lt-ltb 0 (length (numbers_in input)) some)

-- ---- The grammar's form

first_and_rest : (numbers : List ℕ) → 0 < length numbers → numbers ≡ get_or numbers 0 0 ∷ drop 1 numbers
first_and_rest [] some = absurd (omega arith)
first_and_rest (n ∷ numbers) some = refl

module _ (input : List ℕ) (bytes : Bytes input) (source : ℕ) (departures text : List ℕ) where
  abbrev Asks : Type 0
  Asks = (asks_shift input ≡ true) × (source_in input ≡ source) × (departures_in input ≡ departures) × (town_text input ≡ text)

  line_written : ((of_form mark_qu input ≡ true) × (numbers_in input ≡ source ∷ departures) × (rest_of input ≡ text)) ↔ ShiftAndText input source departures text
  line_written = of_form_when_written 81 85 (omega arith, omega arith) (omega arith, omega arith) input bytes (source ∷ departures) text

  asks_form : Asks → ShiftAndText input source departures text
  unfolding asks_shift
  asks_form asked =
      let both = true_both (of_form mark_qu input) (ltb 0 (length (numbers_in input))) asked.0 in
      let numbers = first_and_rest (numbers_in input) (ltb-true 0 (length (numbers_in input)) both.1) in
      line_written.0 (both.0, (rw (asked.1, asked.2) at numbers), asked.3)

  form_asks : ShiftAndText input source departures text → Asks
  form_asks line =
      let form = line_written.1 line in
      let same = form.1 in (
        asks_source input form.0 (omega (arith, ap length same)),
        ap (λ numbers. get_or numbers 0 0) same,
        ap (drop 1) same,
        form.2,
      )

pub asks_shift_when_of_form : AsksShiftWhenOfForm
asks_shift_when_of_form input bytes source departures text = (asks_form input bytes source departures text, form_asks input bytes source departures text)
