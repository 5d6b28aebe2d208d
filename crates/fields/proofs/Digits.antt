-- A number digit by digit: what is left from a place on, behind what has been read, gives what the whole gives. A number whose first
-- digit is not 0 has as many digits as its size tells, so they need not be counted.
use Prim.Native.Nat.{ℕ, suc, ◌+◌, ◌-◌, ◌*◌, ◌^◌, ◌≤◌, ◌<◌}
use mathlib.Core.Path.{◌≡◌, refl, sym, ap, ◌∙◌}
use mathlib.Core.Bool.{Bool, true, false, cond, ◌&&◌, and-false}
use mathlib.Core.Logic.{◌⊎◌, inl, inr}
use mathlib.Core.List.{List, [], ◌∷◌}
use Rattle.std.specs.Prelude.{Some, None}
use native.Mathlib.Nat.{lt_of_lt_of_le, le_trans, pow-suc, pow-le-pow_right}
use native.Mathlib.Omega.{arith}
use lib.Dec.{leb, ltb, eqb, eqb-suc-zero}
use lib.ListN.{length, get_or}
use borrow.Author.Tests.{lt-ltb, le-ltb, leb-true, le-leb, lt-leb, ne_eqb}
use Rattle.model.specs.Rules.{every}
use Rattle.model.proofs.Rules.{true_both, both_true}
use Rattle.model.proofs.Tests.{eqb_cases, leb_cases}
use Rattle.townfile.specs.Bytes.{line_feed, space, digit}
use Rattle.townfile.specs.Numbers.{decimal_from, decimal, number_keeps}
use Rattle.townfile.proofs.Between.{between_every}
use Rattle.townfile.proofs.NumberForm.{keeps_number}
use Rattle.fields.specs.Fields.{line_from, word_from, field, field_at}
use Rattle.fields.specs.Code.Digits.{just_zero_lem, number_from}
use Rattle.fields.proofs.LineFrom.{line_ends, word_ends, separator_ends, word_goes_on, no_gap_begins}

-- ---- A digit

pub digit_is : (byte : ℕ) → 48 ≤ byte → byte < 58 → digit byte ≡ true
digit_is byte low high = both_true (le-leb 48 byte low) (le-leb byte 57 (omega arith))

pub digit_bounds : (byte : ℕ) → digit byte ≡ true → (48 ≤ byte) × (byte ≤ 57)
digit_bounds byte e = let bounds = true_both (leb 48 byte) (leb byte 57) e in (leb-true 48 byte bounds.0, leb-true byte 57 bounds.1)

pub below_digits : (byte : ℕ) → byte < 48 → digit byte ≡ false
below_digits byte h = rw (lt-leb 48 byte h)

pub above_digits : (byte : ℕ) → 58 ≤ byte → digit byte ≡ false
above_digits byte h = rw (le-leb 48 byte (omega arith), lt-leb byte 57 (omega arith))

-- A digit begins the word at its place.
pub digit_word : (text : List ℕ) (i : ℕ) → i < length text → 48 ≤ get_or text i 0 → get_or text i 0 < 58 → word_from text i ≡ get_or text i 0 ∷ word_from text (i + 1)
digit_word text i inside low high = word_goes_on text i inside (λ e. omega arith) (λ e. omega arith)

-- ---- How great a number is

pub decimal_grows : (n : ℕ) (bytes : List ℕ) → n ≤ decimal_from n bytes
unfolding decimal_from
decimal_grows n [] = omega arith
decimal_grows n (byte ∷ bytes) = omega (arith, decimal_grows (n * 10 + (byte - 48)) bytes)

-- A number of k digits and more behind it, and how many there are in all.
decimal_least : (least k n : ℕ) (bytes : List ℕ) → 10 ^ k ≤ n → least ≤ k + length bytes → 10 ^ least ≤ decimal_from n bytes
unfolding decimal_from
decimal_least least k n [] h many = le_trans (pow-le-pow_right {n = 10} (omega arith) {i = least} {j = k} (omega arith)) h
decimal_least least k n (byte ∷ bytes) h many = decimal_least least (suc k) (n * 10 + (byte - 48)) bytes (omega (arith, pow-suc 10 k)) (omega arith)

decimal_below : (most k n : ℕ) (bytes : List ℕ) → every digit bytes ≡ true → n < 10 ^ k → k + length bytes ≤ most → decimal_from n bytes < 10 ^ most
unfolding decimal_from
decimal_below most k n [] e h few = lt_of_lt_of_le h (pow-le-pow_right {n = 10} (omega arith) {i = k} {j = most} (omega arith))
decimal_below most k n (byte ∷ bytes) e h few =
    let parts = true_both (digit byte) (every digit bytes) e in
    let high = (digit_bounds byte parts.0).1 in
    decimal_below most (suc k) (n * 10 + (byte - 48)) bytes parts.1 (omega (arith, pow-suc 10 k)) (omega arith)

-- So many digits and such a size are the same, where the first digit is not 0.
few_digits : (first : ℕ) (more : List ℕ) → 1 ≤ first → first < 10 → every digit more ≡ true → leb (suc (length more)) 7 ≡ ltb (decimal_from first more) 10000000
few_digits first more low high e = elim (leb_cases (suc (length more)) 7) [
  | inl few ↦ rw few.0 (sym (lt-ltb (decimal_from first more) 10000000 (decimal_below 7 1 first more e high (omega (arith, few.1)))))
  | inr many ↦ rw many.0 (sym (le-ltb (decimal_from first more) 10000000 (decimal_least 7 0 first more low (omega (arith, many.1)))))
]

pub all_digits : (bytes : List ℕ) → number_keeps bytes ≡ true → every digit bytes ≡ true
all_digits bytes e = between_every 48 57 bytes (keeps_number bytes e).digits

pub number_below : (bytes : List ℕ) → number_keeps bytes ≡ true → decimal bytes < 10000000
number_below bytes e = decimal_below 7 0 0 bytes (all_digits bytes e) (omega arith) (omega (arith, (keeps_number bytes e).few_digits))

-- ---- The form of a number, by its first digit

unless_true : (test : Bool) → (test ≡ true → ⊥) → test ≡ false
unless_true true other = absurd (other refl)
unless_true false other = refl

keeps_zero : (more : List ℕ) → number_keeps (48 ∷ more) ≡ eqb (length more) 0
unfolding number_keeps
keeps_zero [] = refl
keeps_zero (byte ∷ more) = unless_true _ (λ e. omega (arith, (keeps_number (48 ∷ byte ∷ more) e).no_leading_zero refl)) ∙ sym (eqb-suc-zero (length more))

keeps_digit : (first : ℕ) (more : List ℕ) → 49 ≤ first → first < 58 → number_keeps (first ∷ more) ≡ (every digit more && ltb (decimal_from (first - 48) more) 10000000)
unfolding number_keeps
keeps_digit first more low high =
    rw (lt-ltb 0 (suc (length more)) (omega arith), digit_is first (omega arith) high, ne_eqb first 48 (λ e. omega arith))
    (go (every digit more) (leb (suc (length more)) 7) (ltb (decimal_from (first - 48) more) 10000000) (few_digits (first - 48) more (omega arith) (omega arith)))
  where
    go : (digits few below : Bool) → (digits ≡ true → few ≡ below) → (few && digits && true) ≡ (digits && below)
    go true true below same = same refl
    go true false below same = same refl
    go false true below same = refl
    go false false below same = refl

keeps_no_other : (first : ℕ) (more : List ℕ) → digit first ≡ false → number_keeps (first ∷ more) ≡ false
keeps_no_other first more e = unless_true _ (λ kept. let z : ◌≡◌ {A = ℕ} 0 1 = cc (rw e at (all_digits (first ∷ more) kept)) in omega arith)

-- ---- No field

pub no_field_at_end : (text : List ℕ) (at : ℕ) → length text ≤ at → None ≡ field_at text at
unfolding field_at
no_field_at_end text at h = rw (line_ends text at h)

pub no_field_without_gap : (text : List ℕ) (at : ℕ) → at < length text → (get_or text at 0 ≡ space → ⊥) → None ≡ field_at text at
unfolding field_at
no_field_without_gap text at h e = rw (no_gap_begins text at h e)

-- ---- A field by its first digit

module _ (text : List ℕ) (at : ℕ) (gap : eqb (get_or (line_from text at) 0 0) space ≡ true) where
  no_digit : word_from text (at + 1) ≡ [] → None ≡ field_at text at
  unfolding field_at number_keeps
  no_digit e = rw (gap, e)

  pub no_digit_at_end : length text ≤ at + 1 → None ≡ field_at text at
  no_digit_at_end h = no_digit (word_ends text (at + 1) (line_ends text (at + 1) h))

  module _ (inside : at + 1 < length text) where
    pub no_first_digit : digit (get_or text (at + 1) 0) ≡ false → None ≡ field_at text at
    unfolding field_at
    no_first_digit e = elim (eqb_cases (get_or text (at + 1) 0) line_feed) [
      | inl feed ↦ no_digit (separator_ends text (at + 1) inside (inl feed.1))
      | inr other ↦ elim (eqb_cases (get_or text (at + 1) 0) space) [
        | inl parted ↦ no_digit (separator_ends text (at + 1) inside (inr parted.1))
        | inr byte ↦ rw (gap, word_goes_on text (at + 1) inside other.1 byte.1, keeps_no_other (get_or text (at + 1) 0) (word_from text (at + 1 + 1)) e)
      ]
    ]

    pub first_zero : get_or text (at + 1) 0 ≡ 48 → just_zero_lem text (at + 1 + 1) ≡ field_at text at
    unfolding field_at just_zero_lem decimal_from
    first_zero e =
        let word = digit_word text (at + 1) inside (omega arith) (omega arith) in
        rw (gap, word, e, keeps_zero (word_from text (at + 1 + 1))) (go (word_from text (at + 1 + 1)))
      where
        go : (more : List ℕ) → cond (eqb (length more) 0) (Some (field 0 (at + 1 + 1))) None
            ≡ cond (eqb (length more) 0) (Some (field (decimal (48 ∷ more)) (at + 1 + length (48 ∷ more)))) None
        go [] = refl
        go (byte ∷ more) = rw (eqb-suc-zero (length more))

    pub first_digit : (get_or text (at + 1) 0 ≡ 48 → ⊥) → 48 ≤ get_or text (at + 1) 0 → get_or text (at + 1) 0 < 58 →
        number_from text (at + 1 + 1) (get_or text (at + 1) 0 - 48) ≡ field_at text at
    unfolding field_at number_from decimal_from
    first_digit other low high =
        let first = get_or text (at + 1) 0 in
        let more = word_from text (at + 1 + 1) in
        let word : word_from text (at + 1) ≡ first ∷ more = digit_word text (at + 1) inside low high in
        let value : 0 * 10 + (first - 48) ≡ first - 48 = omega arith in
        let end : at + 1 + suc (length more) ≡ at + 1 + 1 + length more = omega arith in
        rw (gap, word, keeps_digit first more (omega arith) high, decimal_from, value, end)

-- ---- The end of a 0

module _ (text : List ℕ) (end : ℕ) where
  pub zero_ends : word_from text end ≡ [] → Some (field 0 end) ≡ just_zero_lem text end
  unfolding just_zero_lem
  zero_ends e = rw e

  pub zero_goes_on : end < length text → ((get_or text end 0 ≡ line_feed) ⊎ (get_or text end 0 ≡ space) → ⊥) → None ≡ just_zero_lem text end
  unfolding just_zero_lem
  zero_goes_on h other = rw (word_goes_on text end h (λ feed. other (inl feed)) (λ gap. other (inr gap)), eqb-suc-zero (length (word_from text (end + 1))))

-- ---- Further digits

-- A digit more, and what is left behind it.
module _ (text : List ℕ) (i value : ℕ) (inside : i < length text) (low : 48 ≤ get_or text i 0) (high : get_or text i 0 < 58) where
  abbrev with_digit : ℕ
  with_digit = value * 10 + (get_or text i 0 - 48)

  word : word_from text i ≡ get_or text i 0 ∷ word_from text (i + 1)
  word = digit_word text i inside low high

  pub value_left : decimal_from with_digit (word_from text (i + 1)) ≡ decimal_from value (word_from text i)
  unfolding decimal_from
  value_left = rw word

  pub end_left : i + 1 + length (word_from text (i + 1)) ≡ i + length (word_from text i)
  end_left = rw word (omega arith)

  pub digits_left : every digit (word_from text (i + 1)) ≡ every digit (word_from text i)
  digits_left = rw (word, digit_is (get_or text i 0) low high)

  pub number_goes_on : number_from text (i + 1) with_digit ≡ number_from text i value
  unfolding number_from
  number_goes_on = rw (digits_left, value_left, end_left)

  pub number_too_long : 999999 < value → None ≡ number_from text i value
  unfolding number_from
  number_too_long h =
      let long = le-ltb (decimal_from value (word_from text i)) 10000000 (omega (arith, decimal_grows with_digit (word_from text (i + 1)), value_left)) in
      rw (long, and-false)

module _ (text : List ℕ) (i value : ℕ) where
  pub number_ends : word_from text i ≡ [] → value < 10000000 → Some (field value i) ≡ number_from text i value
  unfolding number_from decimal_from
  number_ends e h = rw (e, lt-ltb value 10000000 h) (ap (λ next. Some (field value next)) (omega arith))

  pub number_stops : i < length text → ((get_or text i 0 ≡ line_feed) ⊎ (get_or text i 0 ≡ space) → ⊥) → digit (get_or text i 0) ≡ false → None ≡ number_from text i value
  unfolding number_from
  number_stops h other e = rw (word_goes_on text i h (λ feed. other (inl feed)) (λ gap. other (inr gap)), e)
