-- A scan of a table from its start: what the test says of the entries that are left is what it says of all. And of the fences, where each is tested with the
-- one before it: what the test says of those that are left, by the next of them.
use Prim.Native.Nat.{ℕ, ◌+◌, ◌-◌, ◌<◌, ◌≤◌}
use mathlib.Core.Path.{◌≡◌, refl}
use mathlib.Core.Bool.{Bool, true, false, ◌&&◌}
use mathlib.Core.List.{List, [], ◌∷◌}
use native.Mathlib.Numerals.{add-one}
use lib.ListN.{length, get_or, take, drop, drop_of_length-le}
use lib.Seq.{drop-cons}
use native.Mathlib.Omega.{arith}
use lib.Dec.{eqb, ltb}
use Rattle.std.proofs.lemmas.Bool.Decides.{nat_tests}
use Rattle.std.proofs.lemmas.List.{take_rest}
use Rattle.model.specs.Ticks.{day}
use Rattle.model.specs.Rules.{every, rise_from, fences_keep_lem}

-- The law of a scan, of tables of any entries.
module _ {A : Type 0} (d : A) (test : A → Bool) (xs : List A) (i : ℕ) (so_far : every test (drop i xs) ≡ every test xs) where
  pub every_fails : i < length xs → test (get_or xs i d) ≡ false → false ≡ every test xs
  every_fails h e = rw (drop-cons xs i d h, e) at so_far

  pub every_goes_on : i < length xs → test (get_or xs i d) ≡ true → every test (drop (i + 1) xs) ≡ every test xs
  every_goes_on h e = rw add-one (rw (drop-cons xs i d h, e) at so_far)

  pub every_ends : length xs ≤ i → true ≡ every test xs
  every_ends h = rw (drop_of_length-le xs h) at so_far

-- The fences: the first of them, and then each with the one before it.
pub none_keep : (fences : List ℕ) → length fences ≡ 0 → true ≡ fences_keep_lem fences
unfolding fences_keep_lem
none_keep [] e = refl
none_keep (f ∷ fs) e = absurd (omega arith)

pub first_decides : (fences : List ℕ) → 1 ≤ length fences →
    fences_keep_lem fences ≡ (eqb (get_or fences 0 0) 0 && rise_from (get_or fences 0 0) (take (length fences - 1) (drop 1 fences)))
unfolding fences_keep_lem
first_decides [] some = absurd (omega arith)
first_decides (f ∷ fs) some = rw (take_rest (f ∷ fs) 1)

module _ (before : ℕ) (fences : List ℕ) (i : ℕ) where
  pub rise_goes_on : i < length fences →
      rise_from before (drop i fences) ≡ (ltb before (get_or fences i 0) && ltb (get_or fences i 0) day && rise_from (get_or fences i 0) (drop (i + 1) fences))
  unfolding rise_from
  rise_goes_on h = rw (add-one, drop-cons fences i 0 h)

  pub rise_ends : length fences ≤ i → rise_from before (drop i fences) ≡ true
  unfolding rise_from
  rise_ends h = rw (drop_of_length-le fences h)

-- ---- What the goals need of a scan, and of the first fence

pub ruleset rise_steps = (rise_goes_on, rise_ends, nat_tests)

pub ruleset first_steps = (none_keep, first_decides, nat_tests)
