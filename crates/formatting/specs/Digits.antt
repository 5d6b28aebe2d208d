-- A number as the programs print it: in decimal, and up to seven digits in the town file's form: "A number is decimal, 1 to 7 digits, without a
-- leading zero unless it is just 0."
use Rattle.std.specs.Prelude.{ℕ, zero, suc, ◌+◌, ◌≤◌, ◌<◌, ◌/◌, ◌%◌, ◌≡◌, cond, List, [], ◌∷◌, ◌++◌, ltb, length, get_or}
use Rattle.townfile.specs.Numbers.{decimal}
use Rattle.townfile.specs.Grammar.{Number}

-- The digits of a number that has at most one more than k of them: the last digit stands behind those of the number's tenth.
unfoldable pub digits_within : ℕ → ℕ → List ℕ
digits_within zero n = (48 + n) ∷ []
digits_within (suc k) n = cond (ltb n 10) ((48 + n) ∷ []) (digits_within k (n / 10) ++ ((48 + n % 10) ∷ []))

-- No number has more digits than it counts, and one.
unfoldable pub digits_of : ℕ → List ℕ
digits_of n = digits_within n n

-- Decimal digits of any count, "without a leading zero unless it is just 0".
pub record Decimal (bytes : List ℕ) (n : ℕ) : Type 0 where
  pub some_digit : 1 ≤ length bytes
  pub digits : (i : ℕ) → i < length bytes → (48 ≤ get_or bytes i 0) × (get_or bytes i 0 ≤ 57)
  pub no_leading_zero : get_or bytes 0 0 ≡ 48 → length bytes ≡ 1
  pub value : decimal bytes ≡ n

-- ---- What is proved of it

-- Every number is printed so, the sheet's sums of up to ten digits too; read as the file's numbers are read, it is that number.
abbrev pub DigitsAreDecimal : Type 0
DigitsAreDecimal = (n : ℕ) → Decimal (digits_of n) n

-- One of up to seven digits is printed in the file's form.
abbrev pub DigitsKeepForm : Type 0
DigitsKeepForm = (n : ℕ) → n < 10000000 → Number (digits_of n) n
