-- The first place whose mask has a day, looked for from the front.
use Prim.Native.Nat.{ℕ, zero, suc, ◌/◌, ◌^◌, ◌≤◌, ◌<◌}
use mathlib.Core.Path.{◌≡◌, refl, sym, ap, ◌∙◌}
use mathlib.Core.Bool.{Bool, true, false, cond}
use mathlib.Core.List.{List, [], ◌∷◌}
use native.Mathlib.Omega.{arith}
use lib.Dec.{eqb}
use lib.Bits.{bit_and, and_mask}
use lib.ListN.{length, get_or}
use borrow.Author.Tests.{eq-eqb, ne_eqb}
use Rattle.week.specs.WeekList.{bit, place_of_lem}

-- A mask's bit, as the code takes it.
abbrev pub Bit : ℕ → ℕ → ℕ
Bit day mask = bit_and (mask / 2 ^ day) 1

-- The place before which no mask has the day, and whose mask has it if there is one.
pub first_place : (day : ℕ) (masks : List ℕ) (place : ℕ) → place ≤ length masks → ((k : ℕ) → k < place → Bit day (get_or masks k 0) ≡ 1 → ⊥) →
    (place < length masks → Bit day (get_or masks place 0) ≡ 1) → place ≡ place_of_lem day masks
unfolding place_of_lem
first_place day [] place inside not has = omega (arith, inside)
first_place day (mask ∷ masks) zero inside not has =
    rw (eq-eqb (bit day mask) 1 (sym (and_mask (mask / 2 ^ day) 1) ∙ has (omega arith))) refl
first_place day (mask ∷ masks) (suc place) inside not has =
    rw (ne_eqb (bit day mask) 1 (λ is. not 0 (omega arith) (and_mask (mask / 2 ^ day) 1 ∙ is)))
    (ap suc (first_place day masks place (omega (arith, inside)) (λ k less. not (suc k) (omega (arith, less))) (λ less. has (omega (arith, less)))))

pub place_short : (day : ℕ) (masks : List ℕ) → place_of_lem day masks ≤ length masks
unfolding place_of_lem
place_short day [] = omega arith
place_short day (mask ∷ masks) = go (eqb (bit day mask) 1) (place_short day masks)
  where
    go : (has : Bool) → place_of_lem day masks ≤ length masks → cond has 0 (suc (place_of_lem day masks)) ≤ suc (length masks)
    go true rest = omega arith
    go false rest = omega arith
