-- The question is a line of the mark `QU` with two numbers: what the code finds, and the grammar's form, are those of such a line.
use Prim.Native.Nat.{ℕ}
use mathlib.Core.Path.{◌≡◌, refl, sym, ap, ◌∙◌}
use mathlib.Core.Bool.{true, false}
use mathlib.Core.List.{List, [], ◌∷◌}
use mathlib.Core.Logic.{◌↔◌}
use native.Mathlib.Omega.{arith}
use lib.Dec.{eqb}
use lib.ListN.{length, get_or, take, replicate}
use borrow.Author.Tests.{eq-eqb, ne_eqb, eqb-true}
use Rattle.std.specs.Prelude.{Some, None}
use Rattle.model.specs.Rules.{written}
use Rattle.model.proofs.Rules.{true_both, both_true}
use Rattle.townfile.specs.Grammar.{Bytes}
use Rattle.question_line.specs.Line.{numbers_in, of_form, rest_of, LineAndRest}
use Rattle.question_line.specs.Question.{mark_qu, source_in, town_text}
use Rattle.question_line.proofs.Asked.{NumbersAsked}
use Rattle.question_line.proofs.Forms.{of_form_when_written}
use Rattle.arrivals_text.specs.Question.{asks, departure_in, QuestionAndText, AsksWhenOfForm}
use Rattle.arrivals_text.specs.Code.Found.{question, question_in_lem}

two_of : (numbers : List ℕ) → length numbers ≡ 2 → numbers ≡ get_or numbers 0 0 ∷ get_or numbers 1 0 ∷ []
two_of [] e = absurd (omega arith)
two_of (a ∷ []) e = absurd (omega arith)
two_of (a ∷ b ∷ []) e = refl
two_of (a ∷ b ∷ c ∷ numbers) e = absurd (omega arith)

-- ---- What the code finds

module _ (input : List ℕ) where
  not_asked : asks input ≡ false → None ≡ question_in_lem input
  unfolding question_in_lem
  not_asked e = rw e

  pub other_form : of_form mark_qu input ≡ false → None ≡ question_in_lem input
  unfolding asks
  other_form e = not_asked (rw e)

  module _ {count next : ℕ} (line : NumbersAsked mark_qu input count next) where
    pub other_count : (count ≡ 2 → ⊥) → None ≡ question_in_lem input
    unfolding asks
    other_count e = not_asked (rw (line.form, ne_eqb (length (numbers_in input)) 2 (λ two. e (sym line.counted ∙ two))))

    module _ (two : count ≡ 2) {table : List ℕ} (copied : table ≡ written (take 2 (numbers_in input)) (replicate 2 0)) where
      pub asked : Some (question (get_or table 0 0) (get_or table 1 0) next) ≡ question_in_lem input
      unfolding question_in_lem asks
      asked =
          let as_many = line.counted ∙ two in
          let numbers = two_of (numbers_in input) as_many in
          rw (line.form, eq-eqb (length (numbers_in input)) 2 as_many, line.behind, copied, numbers)

-- ---- The grammar's form

module _ (input : List ℕ) (bytes : Bytes input) (source departure : ℕ) (text : List ℕ) where
  abbrev numbers : List ℕ
  numbers = source ∷ departure ∷ []

  line_written : ((of_form mark_qu input ≡ true) × (numbers_in input ≡ numbers) × (rest_of input ≡ text)) ↔ LineAndRest 81 85 input numbers text
  line_written = of_form_when_written 81 85 (omega arith, omega arith) (omega arith, omega arith) input bytes numbers text

  asks_form : (asks input ≡ true) × (source_in input ≡ source) × (departure_in input ≡ departure) × (town_text input ≡ text) → QuestionAndText input source departure text
  unfolding asks
  asks_form asked =
      let both = true_both (of_form mark_qu input) (eqb (length (numbers_in input)) 2) asked.0 in
      let two = two_of (numbers_in input) (eqb-true (length (numbers_in input)) 2 both.1) in
      let line = line_written.0 (both.0, (rw (asked.1, asked.2) at two), asked.3) in
      record { bytes = line.bytes; two_fields = line.fields; in_all = line.in_all }

  form_asks : QuestionAndText input source departure text → (asks input ≡ true) × (source_in input ≡ source) × (departure_in input ≡ departure) × (town_text input ≡ text)
  unfolding asks
  form_asks question =
      let form = line_written.1 (record { bytes = question.bytes; fields = question.two_fields; in_all = question.in_all }) in
      let same = form.1 in (
        both_true form.0 (eq-eqb (length (numbers_in input)) 2 (ap length same)),
        ap (λ numbers. get_or numbers 0 0) same,
        ap (λ numbers. get_or numbers 1 0) same,
        form.2,
      )

pub asks_when_of_form : AsksWhenOfForm
asks_when_of_form input bytes source departure text = (asks_form input bytes source departure text, form_asks input bytes source departure text)
