-- The digits of a field that has the form, taken one by one: those left, behind the number so far, give the whole number. It is below
-- 10,000,000, so no sum on the way to it is too great, and the first byte that is no digit ends it.
use Prim.Native.Nat.{ℕ, ◌+◌, ◌-◌, ◌*◌, ◌≤◌, ◌<◌}
use mathlib.Core.Path.{◌≡◌, refl, ap, ◌∙◌}
use mathlib.Core.Bool.{true}
use mathlib.Core.Logic.{inl, inr}
use mathlib.Core.List.{List}
use native.Mathlib.Omega.{arith}
use lib.ListN.{length, get_or}
use Rattle.model.specs.Rules.{every}
use Rattle.model.proofs.Tests.{eqb_cases}
use Rattle.townfile.specs.Bytes.{space, digit}
use Rattle.townfile.specs.Numbers.{decimal_from, decimal}
use Rattle.townfile.proofs.Between.{every_between}
use Rattle.townfile.proofs.NumberForm.{keeps_number}
use Rattle.fields.specs.Fields.{line_from, word_from, field_keeps}
use Rattle.loading.specs.Code.Filling.{EndsInside, taken_at}
use Rattle.fields.proofs.LineFrom.{word_at, up_to_length}
use Rattle.fields.proofs.Digits.{decimal_grows, all_digits, number_below, value_left, end_left, digits_left}
use Rattle.fields.proofs.FieldsLeft.{kept_field, gap_line, no_bytes}

-- The digits of the field at a place are taken up to another, and come to a value.
pub record DigitsTaken (text : List ℕ) (at i value : ℕ) : Type 0 where
  pub same_value : decimal_from value (word_from text i) ≡ decimal (word_from text (at + 1))
  pub same_end : i + length (word_from text i) ≡ at + 1 + length (word_from text (at + 1))
  pub digits : every digit (word_from text i) ≡ true
  pub below : decimal (word_from text (at + 1)) < 10000000
  pub inside : at + 1 + length (word_from text (at + 1)) < length text

module _ {text : List ℕ} {at i value : ℕ} (taken : DigitsTaken text at i value) where
  pub value_below : value < 10000000
  value_below = omega (arith, decimal_grows value (word_from text i), taken.same_value, taken.below)

  is_digit : 0 < length (word_from text i) → (48 ≤ get_or text i 0) × (get_or text i 0 ≤ 57)
  is_digit some =
      let here : i + 0 ≡ i = omega arith in
      rw (word_at text i 0 some, here) at (every_between 48 57 (word_from text i) taken.digits 0 some)

  pub digit_taken : 48 ≤ get_or text i 0 → get_or text i 0 < 58 → DigitsTaken text at (i + 1) (value * 10 + (get_or text i 0 - 48))
  digit_taken low high =
      let here : i < length text = omega (arith, taken.same_end, taken.inside) in
      record {
        same_value = value_left text i value here low high ∙ taken.same_value;
        same_end = end_left text i value here low high ∙ taken.same_end;
        digits = digits_left text i value here low high ∙ taken.digits;
        below = taken.below;
        inside = taken.inside;
      }

  pub digits_end : ((48 ≤ get_or text i 0) × (get_or text i 0 ≤ 57) → ⊥) → record { value = value; next = i } ≡ taken_at text at
  unfolding decimal_from
  digits_end other = elim (eqb_cases (length (word_from text i)) 0) [
    | inl none ↦
        let no_word = no_bytes (word_from text i) none.0 in
        let value_is : value ≡ decimal (word_from text (at + 1)) = rw no_word at taken.same_value in
        let end_is : i ≡ at + 1 + length (word_from text (at + 1)) = omega (arith, none.1, taken.same_end) in
        rw (← value_is, ← end_is)
    | inr some ↦ absurd (other (is_digit (omega (arith, some.1))))
  ]

-- ---- The first digit

module _ (text : List ℕ) (at : ℕ) (keeps : field_keeps text at ≡ true) (ends : EndsInside text at) where
  none_taken : DigitsTaken text at (at + 1) 0
  none_taken =
      let read = kept_field text at keeps in
      record {
        same_value = refl;
        same_end = refl;
        digits = all_digits (word_from text (at + 1)) read.form;
        below = number_below (word_from text (at + 1)) read.form;
        inside = omega (arith, ap length (gap_line text at read.gap), up_to_length space (line_from text (at + 1)), ends);
      }

  pub first_is_digit : (48 ≤ get_or text (at + 1) 0) × (get_or text (at + 1) 0 ≤ 57)
  first_is_digit = is_digit none_taken (keeps_number (word_from text (at + 1)) (kept_field text at keeps).form).some_digit

  pub first_taken : DigitsTaken text at (at + 2) (get_or text (at + 1) 0 - 48)
  first_taken =
      let value : 0 * 10 + (get_or text (at + 1) 0 - 48) ≡ get_or text (at + 1) 0 - 48 = omega arith in
      let place : at + 1 + 1 ≡ at + 2 = omega arith in
      rw (value, place) at (digit_taken none_taken first_is_digit.0 (omega (arith, first_is_digit.1)))
