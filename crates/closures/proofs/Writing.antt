-- The rows that are written, one record after another, and what they come to.
use Prim.Native.Nat.{ℕ, ◌<◌, ◌+◌}
use mathlib.Core.Path.{◌≡◌, ◌∙◌}
use mathlib.Core.List.{List, [], ◌∷◌, ◌++◌, map-append}
use lib.ListN.{take, length, get_or, set}
use lib.Seq.{take-suc, take-suc-set}
use native.Mathlib.Numerals.{add-one}
use Rattle.model.specs.Closures.{closure_of, closures_of, no_closure}
use Rattle.model.specs.declared.closure.Closure.{Closure}

abbrev pub row_of : Closure → List ℕ
row_of x = x.arc ∷ x.first ∷ x.end ∷ x.party ∷ []

-- One more row behind the first i.
pub row_written : (rows : List (List ℕ)) (i : ℕ) (row : List ℕ) → i < length rows →
    closures_of (take (i + 1) (set rows i row)) ≡ closures_of (take i rows) ++ (closure_of row ∷ [])
row_written rows i row inside = rw (add-one, take-suc-set rows i row inside) (map-append closure_of (take i rows) (row ∷ []))

pub one_more : (list : List Closure) (rows : List (List ℕ)) (i : ℕ) → i < length list → i < length rows → closures_of (take i rows) ≡ take i list
    → closures_of (take (i + 1) (set rows i (row_of (get_or list i no_closure)))) ≡ take (i + 1) list
one_more list rows i in_List in_rows so_far =
    row_written rows i (row_of (get_or list i no_closure)) in_rows ∙ rw (so_far, add-one, take-suc list i no_closure in_List)
