-- The highest entry of a table, and the rule that it decides: every entry is within a limit exactly where the highest is.
use Prim.Native.Nat.{ℕ, zero, suc, ◌<◌, ◌≤◌}
use mathlib.Core.Path.{◌≡◌, refl, sym, ap, ◌∙◌}
use mathlib.Core.Bool.{Bool, true, false, not, ◌&&◌, and_assoc, and-true}
use mathlib.Core.List.{List, [], ◌∷◌}
use mathlib.Core.Logic.{⊎_elim}
use native.Mathlib.Omega.{arith}
use lib.ListN.{length, get_or}
use lib.Dec.{leb}
use borrow.Author.Tests.{not-false}
use Rattle.std.specs.List.{fold}
use Rattle.std.specs.Ordering.{ord_max, nat_cmp}
use Rattle.std.proofs.lemmas.Bool.Decides.{nat_tests}
use Rattle.model.specs.Rules.{every}
use Rattle.model.proofs.Rules.{kept_within, within_kept}
use Rattle.model.proofs.Tests.{leb_cases}
use Rattle.checking.specs.Highest.{Highest}

abbrev pub highest_of : ℕ → List ℕ → ℕ
highest_of low numbers = fold (ord_max nat_cmp) low numbers

both_within : (limit a b : ℕ) → leb (ord_max nat_cmp a b) limit ≡ (leb a limit && leb b limit)
both_within limit a b = grind (arith, nat_tests)

pub highest_within : (limit low : ℕ) (numbers : List ℕ) → leb (highest_of low numbers) limit ≡ (leb low limit && every (λ x. leb x limit) numbers)
highest_within limit low [] = sym (and-true (leb low limit))
highest_within limit low (n ∷ ns) =
    highest_within limit (ord_max nat_cmp low n) ns
    ∙ ap (λ t. t && every (λ x. leb x limit) ns) (both_within limit low n)
    ∙ and_assoc (leb low limit) (leb n limit) (every (λ x. leb x limit) ns)

-- No entry is higher, nor the value below which none is taken; and what lies above all of them lies above it.
left_no_higher : (a b : ℕ) → a ≤ ord_max nat_cmp a b
left_no_higher a b = grind (arith, nat_tests)

right_no_higher : (a b : ℕ) → b ≤ ord_max nat_cmp a b
right_no_higher a b = grind (arith, nat_tests)

both_under : (limit a b : ℕ) → a < limit → b < limit → ord_max nat_cmp a b < limit
both_under limit a b p q = grind (arith, nat_tests)

low_no_higher : (low : ℕ) (numbers : List ℕ) → low ≤ highest_of low numbers
low_no_higher low [] = omega arith
low_no_higher low (n ∷ ns) = omega (arith, low_no_higher (ord_max nat_cmp low n) ns, left_no_higher low n)

pub no_higher : (low : ℕ) (numbers : List ℕ) (i : ℕ) → i < length numbers → get_or numbers i 0 ≤ highest_of low numbers
no_higher low [] i inside = absurd (omega arith)
no_higher low (n ∷ ns) zero inside = omega (arith, low_no_higher (ord_max nat_cmp low n) ns, right_no_higher low n)
no_higher low (n ∷ ns) (suc i) inside = no_higher (ord_max nat_cmp low n) ns i (omega arith)

pub least : (limit low : ℕ) (numbers : List ℕ) → low < limit → ((i : ℕ) → i < length numbers → get_or numbers i 0 < limit) → highest_of low numbers < limit
least limit low [] some below = some
least limit low (n ∷ ns) some below =
    least limit (ord_max nat_cmp low n) ns (both_under limit low n some (below 0 (omega arith))) (λ i inside. below (suc i) (omega arith))

-- What the fold from 0 comes to is the highest entry, and of any number that is that the rule holds.
pub fold_is_highest : (numbers : List ℕ) → Highest numbers (highest_of 0 numbers)
fold_is_highest numbers = record { no_higher = no_higher 0 numbers; least = λ n some below. least n 0 numbers some below }

pub highest_decides : {numbers : List ℕ} {high : ℕ} (limit : ℕ) → Highest numbers high → leb high limit ≡ every (λ x. leb x limit) numbers
highest_decides {numbers} {high} limit h = ⊎_elim within above (leb_cases high limit)
  where
    within : (leb high limit ≡ true) × (high ≤ limit) → leb high limit ≡ every (λ x. leb x limit) numbers
    within w = w.0 ∙ sym (not-false _ (within_kept limit numbers (λ i inside. omega (arith, h.no_higher i inside, w.1))))

    above : (leb high limit ≡ false) × (limit < high) → leb high limit ≡ every (λ x. leb x limit) numbers
    above w = w.0 ∙ go (every (λ x. leb x limit) numbers) refl
      where
        go : (kept : Bool) → every (λ x. leb x limit) numbers ≡ kept → false ≡ kept
        go false e = refl
        go true e =
            let all = kept_within limit numbers (ap not e) in
            absurd (omega (arith, w.1, h.least (suc limit) (omega arith) (λ i inside. omega (arith, all i inside))))
