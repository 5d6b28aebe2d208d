-- A given list looked at mask by mask: what the masks from a place on come to after those before it is what the whole list comes to.
use Prim.Native.Nat.{ℕ, ◌+◌, ◌*◌, ◌≤◌, ◌<◌}
use mathlib.Core.Path.{◌≡◌, refl, sym, ◌∙◌}
use mathlib.Core.Bool.{true}
use mathlib.Core.List.{List}
use native.Mathlib.Numerals.{add-one}
use native.Mathlib.Omega.{arith}
use lib.Bits.{bit_or}
use lib.Count.{ones}
use lib.ListN.{length, get_or, drop, drop_of_length-le}
use lib.Seq.{drop-cons}
use Rattle.refusals.specs.Rules.{every}
use Rattle.week.specs.WeekList.{weekdays, mask_keeps, together, total}

module _ (masks : List ℕ) where
  pub record SoFar (days sum place : ℕ) : Type 0 where
    pub keep : every mask_keeps (drop place masks) ≡ every mask_keeps masks
    pub days_are : together days (drop place masks) ≡ together 0 masks
    pub sum_is : total ones sum (drop place masks) ≡ total ones 0 masks
    pub few : sum ≤ weekdays * place

  module _ {days sum place : ℕ} (so_far : SoFar days sum place) where
    pub one_more : place < length masks → mask_keeps (get_or masks place 0) ≡ true → ones (get_or masks place 0) ≤ weekdays →
        SoFar (bit_or days (get_or masks place 0)) (sum + ones (get_or masks place 0)) (place + 1)
    unfolding together total
    one_more inside keeps fits =
        let split = drop-cons masks place 0 inside in
        record {
          keep = rw (add-one place) (sym (rw (split, keeps) refl) ∙ so_far.keep);
          days_are = rw (add-one place) (sym (rw split refl) ∙ so_far.days_are);
          sum_is = rw (add-one place) (sym (rw split refl) ∙ so_far.sum_is);
          few = omega (arith, so_far.few, fits);
        }

    pub all_looked_at : length masks ≤ place → (every mask_keeps masks ≡ true) × (together 0 masks ≡ days) × (total ones 0 masks ≡ sum)
    unfolding together total
    all_looked_at end =
        let nothing = drop_of_length-le masks end in
        (sym so_far.keep ∙ rw nothing refl, sym so_far.days_are ∙ rw nothing refl, sym so_far.sum_is ∙ rw nothing refl)
