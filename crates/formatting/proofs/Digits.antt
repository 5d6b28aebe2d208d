-- The printed digits of a number: the last digit stands behind those of the number's tenth, and tenth by tenth they are read back.
use Prim.Native.Nat.{ℕ, zero, suc, ◌+◌, ◌-◌, ◌*◌, ◌≤◌, ◌<◌, ◌/◌, ◌%◌, ◌^◌}
use mathlib.Core.Path.{◌≡◌, refl, sym, ap, ◌∙◌}
use mathlib.Core.Bool.{true}
use mathlib.Core.Logic.{inl, inr}
use mathlib.Core.List.{List, [], ◌∷◌, ◌++◌}
use native.Mathlib.Nat.{div-add-mod', mod-lt, div-lt_self, div-lt_iff_lt-mul}
use native.Mathlib.Omega.{arith}
use lib.ListN.{length, get_or, length-append, get_or-append}
use borrow.Author.Tests.{lt-ltb, le-ltb, le-leb}
use Rattle.std.specs.Fmt.{decimal as printed}
use Rattle.std.proofs.lemmas.Fmt.{decimal_by_steps}
use Rattle.model.specs.Rules.{every}
use Rattle.model.proofs.Rules.{both_true, true_both}
use Rattle.model.proofs.Tests.{ltb_cases}
use Rattle.townfile.specs.Bytes.{digit}
use Rattle.townfile.specs.Numbers.{decimal_from, decimal}
use Rattle.townfile.proofs.Between.{every_between}
use Rattle.townfile.proofs.Lacks.{Lacks}
use Rattle.formatting.specs.Digits.{digits_within, digits_of, DigitsAreDecimal, DigitsKeepForm}

-- ---- A digit more

tenth_below : (n : ℕ) → 10 ≤ n → n / 10 < n
tenth_below n h = div-lt_self {n = n} {k = 10} (omega arith) (omega arith)

-- The count of digits does not matter once there are enough.
within_settled : (k k' n : ℕ) → n ≤ k → n ≤ k' → digits_within k n ≡ digits_within k' n
unfolding digits_within
within_settled zero zero n h h' = refl
within_settled zero (suc k') n h h' = rw (lt-ltb n 10 (omega arith))
within_settled (suc k) zero n h h' = rw (lt-ltb n 10 (omega arith))
within_settled (suc k) (suc k') n h h' = elim (ltb_cases n 10) [
  | inl one ↦ rw one.0
  | inr more ↦
      let below = tenth_below n more.1 in
      rw more.0 (ap (λ digits. digits ++ ((48 + n % 10) ∷ [])) (within_settled k k' (n / 10) (omega arith) (omega arith)))
]

pub digits_one : (n : ℕ) → n < 10 → digits_of n ≡ (48 + n) ∷ []
unfolding digits_of digits_within
digits_one zero h = refl
digits_one (suc n) h = rw (lt-ltb (suc n) 10 h)

pub digits_more : (n : ℕ) → 10 ≤ n → digits_of n ≡ digits_of (n / 10) ++ ((48 + n % 10) ∷ [])
unfolding digits_of digits_within
digits_more zero h = absurd (omega arith)
digits_more (suc n) h =
    let below = tenth_below (suc n) h in
    rw (le-ltb (suc n) 10 h) (ap (λ digits. digits ++ ((48 + suc n % 10) ∷ [])) (within_settled n (suc n / 10) (suc n / 10) (omega arith) (omega arith)))

-- The library prints them so.
pub decimal_digits : (n : ℕ) → n < 2 ^ 64 → digits_of n ≡ printed n
decimal_digits = decimal_by_steps (λ n digits. digits_of n ≡ digits) digits_one
    (λ n digits more same. digits_more n more ∙ ap (λ tenth. tenth ++ ((48 + n % 10) ∷ [])) same)

-- ---- Read back

decimal_append : (n : ℕ) (bytes more : List ℕ) → decimal_from n (bytes ++ more) ≡ decimal_from (decimal_from n bytes) more
unfolding decimal_from
decimal_append n [] more = refl
decimal_append n (byte ∷ bytes) more = decimal_append (n * 10 + (byte - 48)) bytes more

within_gives : (k n : ℕ) → decimal (digits_within k n) ≡ n
unfolding digits_within decimal_from
within_gives zero n = omega arith
within_gives (suc k) n = elim (ltb_cases n 10) [
  | inl one ↦ rw one.0 (omega arith)
  | inr more ↦ rw (more.0, decimal_append 0 (digits_within k (n / 10)) ((48 + n % 10) ∷ []), within_gives k (n / 10)) (omega (arith, div-add-mod' n 10))
]

digits_give_number : (n : ℕ) → decimal (digits_of n) ≡ n
unfolding digits_of
digits_give_number n = within_gives n n

pub same_digits : (n m : ℕ) → digits_of n ≡ digits_of m → n ≡ m
same_digits n m e = sym (digits_give_number n) ∙ ap decimal e ∙ digits_give_number m

-- ---- How many there are

abbrev pub tens : ℕ → ℕ
tens zero = 1
tens (suc k) = tens k * 10

within_short : (k n m : ℕ) → n < tens (suc m) → length (digits_within k n) ≤ suc m
unfolding digits_within
within_short zero n m h = omega arith
within_short (suc k) n m h = elim (ltb_cases n 10) [
  | inl one ↦ rw one.0 (omega arith)
  | inr more ↦ rw (more.0, length-append (digits_within k (n / 10)) ((48 + n % 10) ∷ [])) (go m h more.1 (within_short k (n / 10)))
]
  where
    go : (m : ℕ) → n < tens (suc m) → 10 ≤ n → ((m : ℕ) → n / 10 < tens (suc m) → length (digits_within k (n / 10)) ≤ suc m) → length (digits_within k (n / 10)) + 1 ≤ suc m
    go zero h more tenth = absurd (omega arith)
    go (suc m) h more tenth = omega (arith, tenth m ((div-lt_iff_lt-mul {k = 10} {x = n} {y = tens (suc m)} (omega arith)).1 h))

pub digits_short : (n m : ℕ) → n < tens (suc m) → length (digits_of n) ≤ suc m
unfolding digits_of
digits_short n m h = within_short n n m h

-- ---- Their form

some_within : (k n : ℕ) → 1 ≤ length (digits_within k n)
unfolding digits_within
some_within zero n = omega arith
some_within (suc k) n = elim (ltb_cases n 10) [
  | inl one ↦ rw one.0 (omega arith)
  | inr more ↦ rw (more.0, length-append (digits_within k (n / 10)) ((48 + n % 10) ∷ [])) (omega arith)
]

every_append : (bytes more : List ℕ) → every digit bytes ≡ true → every digit more ≡ true → every digit (bytes ++ more) ≡ true
every_append [] more p q = q
every_append (byte ∷ bytes) more p q = let parts = true_both (digit byte) (every digit bytes) p in both_true parts.0 (every_append bytes more parts.1 q)

is_digit : (n : ℕ) → n < 10 → every digit ((48 + n) ∷ []) ≡ true
is_digit n h = both_true (both_true (le-leb 48 (48 + n) (omega arith)) (le-leb (48 + n) 57 (omega arith))) refl

within_digits : (k n : ℕ) → n ≤ k → every digit (digits_within k n) ≡ true
unfolding digits_within
within_digits zero n h = is_digit n (omega arith)
within_digits (suc k) n h = elim (ltb_cases n 10) [
  | inl one ↦ rw one.0 (is_digit n one.1)
  | inr more ↦
      let below = tenth_below n more.1 in
      rw more.0 (every_append (digits_within k (n / 10)) ((48 + n % 10) ∷ []) (within_digits k (n / 10) (omega arith)) (is_digit (n % 10) (mod-lt n {m = 10} (omega arith))))
]

-- Only 0 begins with the digit 0.
within_leads : (k n : ℕ) → n ≤ k → get_or (digits_within k n) 0 0 ≡ 48 → n ≡ 0
unfolding digits_within
within_leads zero n h e = omega arith
within_leads (suc k) n h e = elim (ltb_cases n 10) [
  | inl one ↦ (let first : 48 + n ≡ 48 = rw one.0 at e in omega arith)
  | inr more ↦
      let below = tenth_below n more.1 in
      let tenth = digits_within k (n / 10) in
      let first : get_or tenth 0 0 ≡ 48 = sym (get_or-append tenth ((48 + n % 10) ∷ []) 0 0 (some_within k (n / 10))) ∙ (rw more.0 at e) in
      omega (arith, within_leads k (n / 10) (omega arith) first, div-add-mod' n 10, mod-lt n {m = 10} (omega arith))
]

digits_between : (n i : ℕ) → i < length (digits_of n) → (48 ≤ get_or (digits_of n) i 0) × (get_or (digits_of n) i 0 ≤ 57)
unfolding digits_of
digits_between n = every_between 48 57 (digits_of n) (within_digits n n (omega arith))

-- No smaller byte stands among them.
pub digits_lack : (byte n : ℕ) → byte < 48 → Lacks byte (digits_of n)
digits_lack byte n small i h e = omega (arith, (digits_between n i h).0)

zero_alone : (n : ℕ) → n ≡ 0 → length (digits_of n) ≡ 1
zero_alone n e = rw (e, digits_one 0 (omega arith))

pub digits_are_decimal : DigitsAreDecimal
unfolding digits_of
digits_are_decimal n = record {
  some_digit = some_within n n;
  digits = digits_between n;
  no_leading_zero = λ e. zero_alone n (within_leads n n (omega arith) e);
  value = digits_give_number n;
}

pub digits_keep_form : DigitsKeepForm
digits_keep_form n h =
    let d = digits_are_decimal n in
    record { some_digit = d.some_digit; few_digits = digits_short n 6 h; digits = d.digits; no_leading_zero = d.no_leading_zero; value = d.value }
