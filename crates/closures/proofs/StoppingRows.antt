-- The rows that stop the asker, by a scan from the front: of the first rows those that do have been written, one after another.
use Prim.Native.Nat.{ℕ, ◌+◌, ◌<◌}
use mathlib.Core.Path.{◌≡◌, sym, ap, ◌∙◌}
use mathlib.Core.Bool.{true, false, cond}
use mathlib.Core.List.{List, [], ◌∷◌, ◌++◌, map-append, append-nil}
use lib.ListN.{take, length, get_or, set}
use lib.Seq.{take-suc}
use native.Mathlib.Numerals.{add-one}
use Rattle.model.specs.Closures.{closure_of, closures_of}
use Rattle.model.specs.Parties.{stops?, closures_for}
use Rattle.model.specs.declared.closure.Closure.{Closure}
use Rattle.model.proofs.Parties.{for_append}
use Rattle.closures.proofs.Writing.{row_written}

module _ (asker : ℕ) (table : List (List ℕ)) where
  -- Those of the first k rows.
  abbrev pub kept_of : ℕ → List Closure
  kept_of k = closures_for asker (closures_of (take k table))

  module _ (k : ℕ) (inside : k < length table) where
    -- The next row.
    abbrev next : List ℕ
    next = get_or table k []

    kept_more : kept_of (k + 1) ≡ kept_of k ++ cond (stops? asker (closure_of next)) (closure_of next ∷ []) []
    kept_more =
        rw (add-one, take-suc table k [] inside)
        (ap (closures_for asker) (map-append closure_of (take k table) (next ∷ [])) ∙ for_append asker (closures_of (take k table)) (closure_of next ∷ []))

    pub row_put : (rows : List (List ℕ)) (count : ℕ) → stops? asker (closure_of next) ≡ true → count < length rows → closures_of (take count rows) ≡ kept_of k →
        closures_of (take (count + 1) (set rows count next)) ≡ kept_of (k + 1)
    row_put rows count stops room so_far = rw (kept_more, stops) (row_written rows count next room ∙ rw so_far)

    pub row_passed : (rows : List (List ℕ)) (count : ℕ) → stops? asker (closure_of next) ≡ false → closures_of (take count rows) ≡ kept_of k →
        closures_of (take count rows) ≡ kept_of (k + 1)
    row_passed rows count stops so_far = rw (kept_more, stops) (so_far ∙ sym (append-nil (kept_of k)))
