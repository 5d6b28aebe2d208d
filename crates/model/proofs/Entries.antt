-- Entries of a table, and the default that stands for one outside it.
use Prim.Native.Nat.{ℕ, zero, suc, ◌<◌}
use mathlib.Core.Path.{◌≡◌, refl, sym}
use mathlib.Core.Bool.{true, true≢false, and-eq-true_iff}
use mathlib.Core.List.{List, [], ◌∷◌}
use native.Mathlib.Omega.{arith}
use lib.Dec.{eqb}
use lib.ListN.{length, get_or, replicate}
use borrow.Author.Tests.{eqb-true, eq-eqb}
use Rattle.model.specs.Labels.{same?}

-- An entry within a list does not depend on the default.
pub get_or-inside : {A : Type 0} (xs : List A) (i : ℕ) (d e : A) → i < length xs → get_or xs i d ≡ get_or xs i e
get_or-inside [] i d e h = absurd (omega arith)
get_or-inside (x ∷ xs) zero d e h = refl
get_or-inside (x ∷ xs) (suc i) d e h = get_or-inside xs i d e (omega arith)

-- In a list of one value every entry is that value, also outside it.
pub get_or-all : {A : Type 0} (n : ℕ) (x : A) (k : ℕ) → get_or (replicate n x) k x ≡ x
get_or-all zero x k = refl
get_or-all (suc n) x zero = refl
get_or-all (suc n) x (suc k) = get_or-all n x k

-- Tables have the same entries exactly where they are the same.
pub same_tables : (xs ys : List ℕ) → same? xs ys ≡ true → xs ≡ ys
unfolding same?
same_tables [] [] e = refl
same_tables [] (y ∷ ys) e = absurd (true≢false (sym e))
same_tables (x ∷ xs) [] e = absurd (true≢false (sym e))
same_tables (x ∷ xs) (y ∷ ys) e =
    let tests = (and-eq-true_iff (eqb x y) (same? xs ys)).0 e in
    rw (eqb-true x y tests.0, same_tables xs ys tests.1)

pub same_itself : (xs : List ℕ) → same? xs xs ≡ true
unfolding same?
same_itself [] = refl
same_itself (x ∷ xs) = rw (eq-eqb x x refl) (same_itself xs)
