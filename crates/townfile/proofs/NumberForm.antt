-- The test of a number asks one by one for what makes one. Its bytes are digits, so no smaller byte stands in it.
use Prim.Native.Nat.{ℕ, ◌<◌}
use mathlib.Core.Path.{◌≡◌, refl}
use mathlib.Core.Bool.{true, not, ◌&&◌, ◌||◌}
use mathlib.Core.List.{List}
use mathlib.Core.Logic.{inl, inr}
use native.Mathlib.Omega.{arith}
use lib.Dec.{leb, ltb, eqb}
use lib.ListN.{length, get_or}
use borrow.Author.Tests.{ltb-true, lt-ltb, leb-true, le-leb, eqb-true, eq-eqb}
use Rattle.model.specs.Rules.{every}
use Rattle.model.proofs.Rules.{true_both, both_true}
use Rattle.model.proofs.Tests.{eqb_cases}
use Rattle.townfile.specs.Bytes.{digit}
use Rattle.townfile.specs.Numbers.{decimal, number_keeps}
use Rattle.townfile.specs.Grammar.{Number}
use Rattle.townfile.proofs.Between.{every_between, between_every}
use Rattle.townfile.proofs.Lacks.{Lacks}

-- The test "not a, or b" is the statement "a, then b".
unless_then : (a b c d : ℕ) → (not (eqb a b) || eqb c d) ≡ true → a ≡ b → c ≡ d
unless_then a b c d e same = eqb-true c d (rw (eq-eqb a b same) at e)

then_unless : (a b c d : ℕ) → (a ≡ b → c ≡ d) → (not (eqb a b) || eqb c d) ≡ true
then_unless a b c d follows = elim (eqb_cases a b) [
  | inl same ↦ rw same.0 (eq-eqb c d (follows same.1))
  | inr other ↦ rw other.0
]

pub keeps_number : (bytes : List ℕ) → number_keeps bytes ≡ true → Number bytes (decimal bytes)
unfolding number_keeps
keeps_number bytes e =
    let all = true_both (ltb 0 (length bytes) && leb (length bytes) 7 && every digit bytes) (not (eqb (get_or bytes 0 0) 48) || eqb (length bytes) 1) e in
    let digits-too = true_both (ltb 0 (length bytes) && leb (length bytes) 7) (every digit bytes) all.0 in
    let lengths = true_both (ltb 0 (length bytes)) (leb (length bytes) 7) digits-too.0 in
    record {
      some_digit = ltb-true 0 (length bytes) lengths.0;
      few_digits = leb-true (length bytes) 7 lengths.1;
      digits = every_between 48 57 bytes digits-too.1;
      no_leading_zero = unless_then (get_or bytes 0 0) 48 (length bytes) 1 all.1;
      value = refl;
    }

pub number_keeps_law : {bytes : List ℕ} {n : ℕ} → Number bytes n → number_keeps bytes ≡ true
unfolding number_keeps
number_keeps_law {bytes} number =
    both_true
    (both_true (both_true (lt-ltb 0 (length bytes) number.some_digit) (le-leb (length bytes) 7 number.few_digits)) (between_every 48 57 bytes number.digits))
    (then_unless (get_or bytes 0 0) 48 (length bytes) 1 number.no_leading_zero)

pub number_lacks : {bytes : List ℕ} {n : ℕ} → Number bytes n → (byte : ℕ) → byte < 48 → Lacks byte bytes
number_lacks number byte small i h e = omega (arith, (number.digits i h).0)
