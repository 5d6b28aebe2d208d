-- The labels and the predecessors of a net, as lists by junction.
use Rattle.std.specs.Prelude.{ℕ, zero, suc, ◌≤◌, ◌<◌, min, ◌≡◌, Bool, true, false, ◌&&◌, ◌||◌, cond, List, [], ◌∷◌, ◌⊎◌, ◌↔◌, eqb, length, get_or, set, replicate}
use Rattle.model.specs.Ticks.{last, never}
use Rattle.model.specs.Walks.{Net, Sound, Earliest}

-- "An unreached junction has label 4,294,967,295. It and the source have predecessor 65,535."
abbrev pub no_arc : ℕ
no_arc = 65535

-- Arc a offers its head the arrival of a vehicle that leaves its tail at the old label.
unfoldable pub offer : Net → List ℕ → ℕ → List ℕ → List ℕ
offer N old a new = set new (N.head a) (min (get_or new (N.head a) never) (N.drive a (get_or old (N.tail a) never)))

-- The first k arcs offer.
unfoldable pub offers : Net → List ℕ → ℕ → List ℕ
offers N old zero = old
offers N old (suc a) = offer N old a (offers N old a)

-- The least arrivals over the walks of at most k arcs.
unfoldable pub within : Net → ℕ → ℕ → ℕ → List ℕ
within N source departure zero = set (replicate N.junctions never) source departure
within N source departure (suc k) = let before = within N source departure k in offers N before N.arcs

-- The labels: no walk of more arcs than there are junctions arrives sooner than the shorter ones.
unfoldable pub labels_of : Net → ℕ → ℕ → List ℕ
labels_of N source departure = within N source departure N.junctions

-- An arc attains a junction's label if, left at its tail's label, it arrives at the junction at its label.
unfoldable pub attains : Net → List ℕ → ℕ → ℕ → Bool
attains N labels j a = eqb (N.head a) j && eqb (N.drive a (get_or labels (N.tail a) never)) (get_or labels j never)

-- The first of the k arcs from a on that attains the junction's label, or none.
unfoldable pub first_attaining : Net → List ℕ → ℕ → ℕ → ℕ → ℕ
first_attaining N labels j a zero = no_arc
first_attaining N labels j a (suc k) = let later = first_attaining N labels j (suc a) k in cond (attains N labels j a) a later

-- "The predecessor of a reached junction other than the source is the lowest_numbered arc into it that, left at its tail's
-- label, arrives at the junction's label."
unfoldable pub predecessor_of : Net → ℕ → List ℕ → ℕ → ℕ
predecessor_of N source labels j = cond (eqb j source || eqb (get_or labels j never) never) no_arc (first_attaining N labels j 0 N.arcs)

-- The numbers from j on, k of them, through f.
unfoldable pub tabulate : (ℕ → ℕ) → ℕ → ℕ → List ℕ
tabulate f j zero = []
tabulate f j (suc k) = f j ∷ tabulate f (suc j) k

unfoldable pub predecessors_of : Net → ℕ → ℕ → List ℕ
predecessors_of N source departure = tabulate (predecessor_of N source (labels_of N source departure)) 0 N.junctions

-- Whether two tables have the same entries.
unfoldable pub same? : List ℕ → List ℕ → Bool
same? [] [] = true
same? [] (label ∷ labels) = false
same? (label ∷ labels) [] = false
same? (label ∷ labels) (label' ∷ labels') = eqb label label' && same? labels labels'

-- ---- The conditions that make two tables the labels and the predecessors, without a search

-- A reached junction's label is attained by an arc, left at its tail's label.
pub record Attains (N : Net) (labels : List ℕ) (j a : ℕ) : Type 0 where
  pub is_arc : a < N.arcs
  pub into : N.head a ≡ j
  pub arrives : N.drive a (get_or labels (N.tail a) never) ≡ get_or labels j never
  pub reached : get_or labels j never < never

-- The source has the departure and no predecessor; no arc would lower a label; and any other junction is unreached, with the
-- usual marks, or its predecessor attains its label.
pub record Certified (N : Net) (source departure : ℕ) (labels predecessors : List ℕ) : Type 0 where
  pub labels_long : length labels ≡ N.junctions
  pub predecessors_long : length predecessors ≡ N.junctions
  pub source_label : get_or labels source never ≡ departure
  pub source_predecessor : get_or predecessors source no_arc ≡ no_arc
  pub no_lower : (a : ℕ) → a < N.arcs → get_or labels (N.head a) never ≤ N.drive a (get_or labels (N.tail a) never)
  pub others : (j : ℕ) → j < N.junctions → (j ≡ source → ⊥) →
      ((get_or labels j never ≡ never) × (get_or predecessors j no_arc ≡ no_arc)) ⊎ Attains N labels j (get_or predecessors j no_arc)

-- Each predecessor is the lowest_numbered arc that attains its junction's label.
abbrev pub Lowest : Net → ℕ → List ℕ → List ℕ → Type 0
Lowest N source labels predecessors = (j a : ℕ) → j < N.junctions → (j ≡ source → ⊥) → a < get_or predecessors j no_arc → Attains N labels j a → ⊥

-- ---- What is proved of them

-- The labels are the earliest arrivals over all walks.
abbrev pub LabelsAreEarliest : Type 0
LabelsAreEarliest = (N : Net) → Sound N → (source departure : ℕ) → source < N.junctions → departure ≤ last →
    Earliest N source departure (λ j. get_or (labels_of N source departure) j never)

-- The labels and the predecessors are the only tables that satisfy the conditions.
abbrev pub OnlyTables : Type 0
OnlyTables = (N : Net) → Sound N → (source departure : ℕ) → source < N.junctions → departure ≤ last →
    (labels predecessors : List ℕ) →
    (Certified N source departure labels predecessors × Lowest N source labels predecessors)
    ↔ ((labels ≡ labels_of N source departure) × (predecessors ≡ predecessors_of N source departure))
