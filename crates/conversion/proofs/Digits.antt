-- A number has few digits where it is small, since its first one is not 0; so fields of small numbers are short, one by one.
use Prim.Native.Nat.{ℕ, zero, suc, ◌+◌, ◌-◌, ◌*◌, ◌≤◌, ◌<◌}
use mathlib.Core.Path.{◌≡◌}
use mathlib.Core.List.{List, [], ◌∷◌}
use mathlib.Core.Logic.{inl, inr}
use native.Mathlib.Nat.{mul-suc}
use native.Mathlib.Omega.{arith}
use lib.ListN.{length, get_or, length-append}
use Rattle.model.proofs.Tests.{leb_cases}
use Rattle.townfile.specs.Numbers.{decimal_from}
use Rattle.townfile.specs.Grammar.{Number, Fields, no_fields, field}

-- A number with zeros behind it.
unfoldable pub with_zeros : (zeros n : ℕ) → ℕ
with_zeros zero n = n
with_zeros (suc zeros) n = with_zeros zeros (n * 10)

decimal_grows : (zeros least n : ℕ) (bytes : List ℕ) → least ≤ n → zeros ≤ length bytes → with_zeros zeros least ≤ decimal_from n bytes
unfolding decimal_from with_zeros
decimal_grows zero least n [] h k = h
decimal_grows zero least n (byte ∷ bytes) h k = decimal_grows zero least (n * 10 + (byte - 48)) bytes (omega arith) (omega arith)
decimal_grows (suc zeros) least n [] h k = absurd (omega arith)
decimal_grows (suc zeros) least n (byte ∷ bytes) h k = decimal_grows zeros (least * 10) (n * 10 + (byte - 48)) bytes (omega arith) (omega arith)

-- A number below 1 with so many zeros has at most so many digits.
pub few_digits : (digits : ℕ) (bytes : List ℕ) {n : ℕ} → Number bytes n → n < with_zeros digits 1 → 1 ≤ digits → length bytes ≤ digits
unfolding decimal_from
few_digits digits [] number small some = omega arith
few_digits digits (byte ∷ bytes) number small some = elim (leb_cases (length (byte ∷ bytes)) digits) [
  | inl few ↦ few.1
  | inr many ↦
      (let not_0 : byte ≡ 48 → ⊥ = λ e. omega (arith, number.no_leading_zero e, many.1) in
      let first : 1 ≤ 0 * 10 + (byte - 48) = omega (arith, (number.digits 0 (omega arith)).0, not_0) in
      absurd (omega (arith, decimal_grows digits 1 (0 * 10 + (byte - 48)) bytes first (omega (arith, many.1)), number.value)))
]

-- A first field takes its digits and a space.
pub record FirstField (digits : ℕ) (bytes numbers : List ℕ) : Type 0 where
  pub rest : List ℕ
  pub fields : Fields rest numbers
  pub short : length bytes ≤ suc digits + length rest

pub first_short : (digits : ℕ) {bytes numbers : List ℕ} {n : ℕ} → Fields bytes (n ∷ numbers) → n < with_zeros digits 1 → 1 ≤ digits →
    FirstField digits bytes numbers
first_short digits (field {bytes} {rest} number fields) small some =
    record { rest = rest; fields = fields; short = omega (arith, few_digits digits bytes number small some, length-append bytes rest) }

pub fields_short : (digits : ℕ) {bytes numbers : List ℕ} → Fields bytes numbers → ((k : ℕ) → k < length numbers → get_or numbers k 0 < with_zeros digits 1) →
    1 ≤ digits → length bytes ≤ suc digits * length numbers
fields_short digits no_fields small some = omega arith
fields_short digits (field {bytes} {rest} {numbers} number fields) small some =
    let here = few_digits digits bytes number (small 0 (omega arith)) some in
    let later = fields_short digits fields (λ k h. small (suc k) (omega arith)) some in
    omega (arith, here, later, length-append bytes rest, mul-suc (suc digits) (length numbers))
