-- Document 02, order 10: "Small cabinets receive labels and predecessors by radio and only check them. The check says yes exactly when every label is
-- right and every predecessor is an arc into its junction that attains its label from its tail's label. It need not be the lowest_numbered one.
-- Unreached junctions and the source carry the usual marks."
use Rattle.std.specs.Prelude.{ℕ, zero, suc, ◌≤◌, ◌<◌, ◌≡◌, Bool, true, ◌&&◌, ◌||◌, cond, List, ◌↔◌, ltb, eqb, length, get_or}
use Rattle.model.specs.Ticks.{last, never}
use Rattle.model.specs.Walks.{Net, Sound, Earliest}
use Rattle.model.specs.Labels.{no_arc, labels_of, attains, same?, Attains, Certified}

-- Whether a junction's predecessor is right: the mark for the source and for an unreached junction, and for any other an arc that attains its label.
unfoldable pub predecessor_right? : Net → ℕ → List ℕ → ℕ → ℕ → Bool
predecessor_right? N source labels j a = cond (eqb j source || eqb (get_or labels j never) never) (eqb a no_arc) (ltb a N.arcs && attains N labels j a)

-- Whether the predecessors of the first k junctions are right.
unfoldable pub predecessors_right? : Net → ℕ → List ℕ → List ℕ → ℕ → Bool
predecessors_right? N source labels predecessors zero = true
predecessors_right? N source labels predecessors (suc j) =
    predecessors_right? N source labels predecessors j && predecessor_right? N source labels j (get_or predecessors j no_arc)

-- Whether the tables are right: the labels are those of Labels, and each predecessor is right by them.
unfoldable pub tables_right? : Net → ℕ → ℕ → List ℕ → List ℕ → Bool
tables_right? N source departure labels predecessors = same? labels (labels_of N source departure) && predecessors_right? N source labels predecessors N.junctions

-- The same in plain words.
pub record TablesRight (N : Net) (source departure : ℕ) (labels predecessors : List ℕ) : Type 0 where
  -- "every label is right": over all walks.
  pub labels_right : Earliest N source departure (λ j. get_or labels j never)
  -- "every predecessor is an arc into its junction that attains its label from its tail's label"
  pub attained : (j : ℕ) → j < N.junctions → (j ≡ source → ⊥) → (get_or labels j never ≡ never → ⊥) → Attains N labels j (get_or predecessors j no_arc)
  -- "Unreached junctions and the source carry the usual marks." The label of an unreached junction is never, and no other.
  pub unreached_mark : (j : ℕ) → j < N.junctions → get_or labels j never ≡ never → get_or predecessors j no_arc ≡ no_arc
  pub source_mark : get_or predecessors source no_arc ≡ no_arc

-- ---- What is proved of them

-- Two tables with an entry for each junction, on a net on which the labels of a departure are asked.
pub record Sent (N : Net) (source departure : ℕ) (labels predecessors : List ℕ) : Type 0 where
  pub sound : Sound N
  pub source_inside : source < N.junctions
  pub departs : departure ≤ last
  pub labels_long : length labels ≡ N.junctions
  pub predecessors_long : length predecessors ≡ N.junctions

-- The test says yes exactly where the tables are right.
abbrev pub RightWhenTested : Type 0
RightWhenTested = (N : Net) (source departure : ℕ) (labels predecessors : List ℕ) → Sent N source departure labels predecessors →
    (tables_right? N source departure labels predecessors ≡ true) ↔ TablesRight N source departure labels predecessors

-- And they are right exactly where they satisfy the conditions of `Certified`, which ask for no walk and no labelling. Predecessors in a circle never
-- do: driving takes time, so that each label would be greater than itself.
abbrev pub RightWhenCertified : Type 0
RightWhenCertified = (N : Net) (source departure : ℕ) (labels predecessors : List ℕ) → Sent N source departure labels predecessors →
    TablesRight N source departure labels predecessors ↔ Certified N source departure labels predecessors
