-- The numbers copied one by one: those left, put behind those copied, are all of them, and nothing is put outside the table.
use Prim.Native.Nat.{ℕ, zero, suc, ◌+◌, ◌≤◌}
use mathlib.Core.Path.{◌≡◌, refl, sym, ap, ◌∙◌}
use mathlib.Core.List.{List, [], ◌∷◌, ◌++◌}
use native.Mathlib.Numerals.{add-one}
use native.Mathlib.Omega.{arith}
use lib.ListN.{length, set, take, drop, length-set, length-take}
use lib.Seq.{sets, sets-eq}
use Rattle.model.specs.Rules.{written}
use Rattle.fields.specs.Fields.{numbers_from}
use Rattle.fields.proofs.FieldsLeft.{FieldRead, number_goes}

set_outside : (table : List ℕ) (at value : ℕ) → length table ≤ at → set table at value ≡ table
set_outside [] at value h = refl
set_outside (entry ∷ table) zero value h = absurd (omega arith)
set_outside (entry ∷ table) (suc at) value h = ap {B = List ℕ} (λ rest. entry ∷ rest) (set_outside table at value (omega arith))

pub sets_outside : (values table : List ℕ) (at : ℕ) → length table ≤ at → sets table at values ≡ table
sets_outside [] table at h = refl
sets_outside (value ∷ values) table at h = rw (set_outside table at value h) (sets_outside values table (suc at) (omega arith))

-- As many as there is room for.
sets_room : (room : ℕ) (values table : List ℕ) (at : ℕ) → at + room ≡ length table → sets table at values ≡ sets table at (take room values)
sets_room room [] table at h = ap (sets table at) (sym (take_nil room))
  where
    take_nil : (room : ℕ) → take {A = ℕ} room [] ≡ []
    take_nil zero = refl
    take_nil (suc room) = refl
sets_room zero (value ∷ values) table at h = sets_outside (value ∷ values) table at (omega arith)
sets_room (suc room) (value ∷ values) table at h = sets_room room values (set table at value) (suc at) (omega (arith, length-set table at value))

pub sets_written : (values table : List ℕ) → sets table 0 values ≡ written (take (length table) values) table
sets_written values table =
    let front = take (length table) values in
    let from_start : 0 + length front ≡ length front = omega arith in
    sets_room (length table) values table 0 (omega arith) ∙ sets-eq front table 0 (omega (arith, length-take (length table) values)) ∙ ap (λ k. front ++ drop k table) from_start

-- ---- A number more

pub number_copied : (text table : List ℕ) (at i : ℕ) {value next : ℕ} → FieldRead text at value next →
    sets (set table i value) (i + 1) (numbers_from text next) ≡ sets table i (numbers_from text at)
number_copied text table at i {value} {next} r = rw (number_goes text at value next r, add-one i)
