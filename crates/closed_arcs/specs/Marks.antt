-- For each arc the part of the list of closures in which its records stand. An arc's mark is the start and the end of its part.
use Rattle.std.specs.Prelude.{ℕ, ◌+◌, ◌≤◌, ◌<◌, cond, List, [], ◌∷◌, eqb, length, get_or, replicate}
use Rattle.model.specs.Closures.{max_closures, no_closure}
use Rattle.model.specs.Limits.{max_arcs}
use Rattle.model.specs.declared.closure.Closure.{Closure}

-- The number of its first record, and that after its last.
abbrev pub start_of : List ℕ → ℕ
start_of mark = get_or mark 0 0

abbrev pub end_of : List ℕ → ℕ
end_of mark = get_or mark 1 0

abbrev pub mark_of : List (List ℕ) → ℕ → List ℕ
mark_of marks a = get_or marks a []

-- No part: it ends where the list starts.
abbrev pub no_mark : List ℕ
no_mark = replicate 2 0

-- No arc has a part.
abbrev pub unmarked : List (List ℕ)
unmarked = replicate max_arcs no_mark

-- The part with record k added: it ends after k, and where there was none it starts at k.
abbrev pub extended : List ℕ → ℕ → List ℕ
extended mark k = cond (eqb (end_of mark) 0) (k ∷ (k + 1) ∷ []) (start_of mark ∷ (k + 1) ∷ [])

-- Each part lies in the list, and each record in the part of its arc. A part may hold other arcs' records too, which close nothing to its own arc.
pub record Marked (closures : List Closure) (marks : List (List ℕ)) : Type 0 where
  pub in_order : (a : ℕ) → start_of (mark_of marks a) ≤ end_of (mark_of marks a)
  pub in_list : (a : ℕ) → end_of (mark_of marks a) ≤ length closures
  pub in_bytes : (a : ℕ) → end_of (mark_of marks a) ≤ max_closures
  pub in_part : length closures ≤ max_closures → (k : ℕ) → k < length closures → (get_or closures k no_closure).arc < max_arcs →
      let mark = mark_of marks (get_or closures k no_closure).arc in
      (start_of mark ≤ k) × (k < end_of mark)
