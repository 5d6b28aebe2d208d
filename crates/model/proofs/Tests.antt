-- A test on numbers, taken apart: its value together with what that value says; and two tests of which one holds.
use Prim.Native.Nat.{ℕ, ◌≤◌, ◌<◌}
use mathlib.Core.Path.{◌≡◌, refl}
use mathlib.Core.Bool.{Bool, true, false, ◌||◌, or-true}
use mathlib.Core.Logic.{◌⊎◌, inl, inr, ⊎_elim}
use lib.Dec.{leb, ltb, eqb}
use borrow.Author.Tests.{leb-true, leb-false, ltb-true, ltb-false, eqb-true, eqb-false, eq-eqb}

cases : {Yes No : Type 0} (test : Bool) → (test ≡ true → Yes) → (test ≡ false → No) → ((test ≡ true) × Yes) ⊎ ((test ≡ false) × No)
cases true when_true when_false = inl (refl, when_true refl)
cases false when_true when_false = inr (refl, when_false refl)

module _ (a b : ℕ) where
  pub leb_cases : ((leb a b ≡ true) × (a ≤ b)) ⊎ ((leb a b ≡ false) × (b < a))
  leb_cases = cases (leb a b) (leb-true a b) (leb-false a b)

  pub ltb_cases : ((ltb a b ≡ true) × (a < b)) ⊎ ((ltb a b ≡ false) × (b ≤ a))
  ltb_cases = cases (ltb a b) (ltb-true a b) (ltb-false a b)

  pub eqb_cases : ((eqb a b ≡ true) × (a ≡ b)) ⊎ ((eqb a b ≡ false) × (a ≡ b → ⊥))
  eqb_cases = cases (eqb a b) (eqb-true a b) (eqb-false a b)

pub either_true : (a b : Bool) → (a || b) ≡ true → (a ≡ true) ⊎ (b ≡ true)
either_true true b e = inl refl
either_true false b e = inr e

-- A number is one of two exactly where one of two tests says so.
module _ (n a b : ℕ) where
  pub one_of : (eqb n a || eqb n b) ≡ true → (n ≡ a) ⊎ (n ≡ b)
  one_of e = ⊎_elim (λ h. inl (eqb-true n a h)) (λ h. inr (eqb-true n b h)) (either_true (eqb n a) (eqb n b) e)

  pub is_one_of : (n ≡ a) ⊎ (n ≡ b) → (eqb n a || eqb n b) ≡ true
  is_one_of (inl e) = rw (eq-eqb n a e)
  is_one_of (inr e) = rw (eq-eqb n b e) (or-true (eqb n a))
