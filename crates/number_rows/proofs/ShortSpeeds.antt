-- The short reading of speeds. Where a word ends behind the digits that were read, they are the word. So a row whose spaces and line
-- feed stand behind each of its numbers is one of fields, and at each place what is left of it comes to what the whole comes to.
use Prim.Native.Nat.{ℕ, suc, ◌+◌, ◌-◌, ◌≤◌, ◌<◌}
use mathlib.Core.Path.{◌≡◌, refl, ◌∙◌}
use mathlib.Core.Bool.{true, ◌&&◌}
use mathlib.Core.List.{List, [], ◌∷◌}
use Rattle.std.specs.Prelude.{Some}
use native.Mathlib.Omega.{arith}
use lib.ListN.{length, get_or}
use borrow.Author.Tests.{le-leb}
use Rattle.model.specs.Limits.{max_speed}
use Rattle.model.specs.Rules.{every}
use Rattle.model.proofs.Rules.{both_true}
use Rattle.townfile.specs.Bytes.{digit}
use Rattle.townfile.specs.Numbers.{decimal_from, decimal}
use Rattle.townfile.specs.Grammar.{Number}
use Rattle.townfile.proofs.Between.{every_between}
use Rattle.townfile.proofs.NumberForm.{number_keeps_law}
use Rattle.fields.specs.Fields.{word_from, field, field_at}
use Rattle.number_rows.specs.NumbersRead.{numbers_read, row_keeps}
use Rattle.number_rows.specs.Code.ShortSpeeds.{SpeedWord, ShortWord, ShortField, ShortRow}
use Rattle.fields.proofs.LineFrom.{space_ends, gap_begins}
use Rattle.fields.proofs.Digits.{digit_is, digit_bounds, digit_word}
use Rattle.number_rows.proofs.NumberLoops.{Left, left_goes_on, row_next}

-- ---- A word of few digits

-- A digit before what is known of the word from the next place on.
digit_before : (text : List ℕ) (i next : ℕ) → next ≡ i + 1 → i < length text → digit (get_or text i 0) ≡ true →
    {more : List ℕ} → word_from text next ≡ more → word_from text i ≡ get_or text i 0 ∷ more
digit_before text i next is inside d e =
    let bounds = digit_bounds (get_or text i 0) d in
    digit_word text i inside bounds.0 (omega (arith, bounds.1)) ∙ rw (← is, e)

speed_word : (text : List ℕ) (first end byte : ℕ) (more : List ℕ) → word_from text first ≡ byte ∷ more → every digit (byte ∷ more) ≡ true → length more ≤ 2 →
    (byte ≡ 48 → length more ≡ 0) → decimal (byte ∷ more) ≤ max_speed → first + suc (length more) ≡ end → SpeedWord text first end
speed_word text first end byte more word digits few alone small behind =
    record { form = rw word (number_keeps_law number); limit = rw word (le-leb (decimal (byte ∷ more)) max_speed small); behind = rw word behind }
  where
    number : Number (byte ∷ more) (decimal (byte ∷ more))
    number =
        record {
          some_digit = omega arith;
          few_digits = omega arith;
          digits = every_between 48 57 (byte ∷ more) digits;
          no_leading_zero = λ zero. omega (arith, alone zero);
          value = refl;
        }

module _ (text : List ℕ) (first : ℕ) where
  abbrev byte₁ : ℕ
  byte₁ = get_or text first 0

  abbrev byte₂ : ℕ
  byte₂ = get_or text (first + 1) 0

  abbrev byte₃ : ℕ
  byte₃ = get_or text (first + 2) 0

  -- The only digit may be 0.
  pub one_digit_read : first < length text → digit byte₁ ≡ true → ShortWord text first (first + 1)
  unfolding decimal_from
  one_digit_read inside d₁ =
      let bounds = digit_bounds byte₁ d₁ in
      let word : (e : word_from text (first + 1) ≡ []) → word_from text first ≡ byte₁ ∷ [] = λ e. digit_before text first (first + 1) refl inside d₁ e in
      record {
        near = omega arith;
        word = λ e. speed_word text first (first + 1) byte₁ [] (word e) (both_true d₁ refl) (omega arith) (λ zero. refl) (omega arith) (omega arith);
      }

  module _ (inside : first + 3 ≤ length text) (low : 49 ≤ byte₁) (high : byte₁ < 58) (d₂ : digit byte₂ ≡ true) where
    d₁ : digit byte₁ ≡ true
    d₁ = digit_is byte₁ (omega arith) high

    two_before : {more : List ℕ} → word_from text (first + 2) ≡ more → word_from text first ≡ byte₁ ∷ byte₂ ∷ more
    two_before e = digit_before text first (first + 1) refl (omega arith) d₁ (digit_before text (first + 1) (first + 2) (omega arith) (omega arith) d₂ e)

    pub two_digits_read : ShortWord text first (first + 2)
    unfolding decimal_from
    two_digits_read =
        let bounds = digit_bounds byte₂ d₂ in
        let digits : every digit (byte₁ ∷ byte₂ ∷ []) ≡ true = both_true d₁ (both_true d₂ refl) in
        record {
          near = omega arith;
          word = λ e. speed_word text first (first + 2) byte₁ (byte₂ ∷ []) (two_before e) digits (omega arith) (λ zero. omega arith) (omega arith) (omega arith);
        }

    module _ (d₃ : digit byte₃ ≡ true) where
      pub three_are_digits : every digit (byte₁ ∷ byte₂ ∷ byte₃ ∷ []) ≡ true
      three_are_digits = both_true d₁ (both_true d₂ (both_true d₃ refl))

      three_before : word_from text (first + 3) ≡ [] → word_from text first ≡ byte₁ ∷ byte₂ ∷ byte₃ ∷ []
      three_before e = two_before (digit_before text (first + 2) (first + 3) (omega arith) (omega arith) d₃ e)

      pub three_digits_read : decimal (byte₁ ∷ byte₂ ∷ byte₃ ∷ []) ≤ max_speed → ShortWord text first (first + 3)
      three_digits_read small =
          record {
            near = omega arith;
            word = λ e. speed_word text first (first + 3) byte₁ (byte₂ ∷ byte₃ ∷ []) (three_before e) three_are_digits (omega arith) (λ zero. omega arith) small (omega arith);
          }

-- ---- A field

field_is : (text : List ℕ) (at end : ℕ) → at < length text → ShortField text at end → word_from text end ≡ [] →
    field_at text at ≡ Some (field (decimal (word_from text (at + 1))) end)
unfolding field_at
field_is text at end inside read e =
    let word = read.digits.word e in
    rw (gap_begins text at inside read.gap, word.form, word.behind)

-- ---- The row

-- What is left of it behind k speeds comes to what the whole comes to, if a word ends there.
abbrev pub RowLeft : List ℕ → ℕ → ℕ → ℕ → ℕ → Type 0
RowLeft text at count k i =
    (numbers : ℕ) → count ≤ numbers → word_from text i ≡ [] → Left (row_keeps count) text at numbers true (row_keeps (count - k)) k i

module _ (text : List ℕ) (at count k i : ℕ) (left : RowLeft text at count k i) (inside : i < length text) where
  pub row_goes_on : k < count → {next : ℕ} → ShortField text i next → RowLeft text at count (k + 1) next
  row_goes_on more {next} read numbers fits e =
      let here = left numbers fits (space_ends text i inside read.gap) in
      left_goes_on here (omega arith) true (row_keeps (count - (k + 1))) (field_is text i next inside read e) refl
      (λ speeds. row_next count k more _ speeds ∙ rw (read.digits.word e).limit)

  pub row_ends : count ≡ k → ShortRow text at count i
  row_ends all = record {
    inside = inside;
    front = λ numbers fits e.
        let none : count - k ≡ 0 = omega arith in
        let left_over : numbers - count ≡ numbers - k = omega arith in
        rw left_over (rw none at (left numbers fits e).same);
  }

-- Where a word ends behind the speeds, what is left of the row is its end.
pub row_behind : {text : List ℕ} {at count end : ℕ} (holds : ℕ) → ShortRow text at count end → word_from text end ≡ [] →
    numbers_read (λ numbers. true && row_keeps 0 numbers) holds text end ≡ numbers_read (row_keeps count) (count + holds) text at
row_behind {count = count} holds row e = let rest : count + holds - count ≡ holds = omega arith in rw rest at (row.front (count + holds) (omega arith) e)
