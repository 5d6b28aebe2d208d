-- The front of a table, as long as is asked or as the table is: what is written there stands there, and the rest stays. Labels keeps the length of
-- what it is lent.
use Prim.Native.Nat.{ℕ, min}
use mathlib.Core.Path.{◌≡◌, refl, sym, ◌∙◌}
use mathlib.Core.List.{List, ◌++◌, append-nil}
use mathlib.Core.Logic.{by_cases}
use native.Mathlib.Decide.{dec_lt}
use native.Mathlib.Omega.{arith}
use lib.ListN.{length, take, drop, length-take, drop_of_length-le}
use lib.Seq.{take_at, take_all}
use Rattle.model.specs.Network.{Network}
use Rattle.model.specs.Rules.{Outcome, refused, replied, written}
use Rattle.labelling.specs.Labels.{labels_answer, labels_after, predecessors_after}
use Rattle.labelling.specs.Within.{front, labels_within_lem, predecessors_within}
use Rattle.labelling.proofs.LabelRules.{answered, demand_2_of_call}

module _ (table : List ℕ) (n k : ℕ) (lesser : k ≡ min n (length table)) where
  pub front_is : take k table ≡ take n table
  front_is =
      by_cases (dec_lt n (length table))
      (λ shorter. let same : k ≡ n = omega arith in rw same)
      (λ not-shorter. take_all k table (omega arith) ∙ sym (take_all n table (omega arith)))

  -- A front that comes back as long as it was lent is written into the table.
  pub front_back : (entries : List ℕ) → length entries ≡ length (take k table) → entries ++ drop k table ≡ written entries table
  front_back entries long = let is-long : length entries ≡ k = omega (arith, length-take k table) in rw is-long

-- What is written at a table's front, as long as the front was, is its front.
pub front_written : (n : ℕ) (entries table : List ℕ) → length entries ≡ length (take n table) → take n (written entries table) ≡ entries
front_written n entries table long =
    let is-long : length entries ≡ min n (length table) = long ∙ length-take n table in
    by_cases (dec_lt n (length table))
    (λ shorter. take_at entries (drop (length entries) table) n (omega arith))
    (λ not-shorter. rw (drop_of_length-le table {i = length entries} (omega arith), append-nil) (take_all n entries (omega arith)))

-- Labels leaves as many entries as it was lent, so that the front of each buffer is what it leaves there.
module _ (N : Network) (asker source departure : ℕ) (labels predecessors : List ℕ) where
  tables_long : (length (labels_after N asker source departure labels predecessors) ≡ length labels)
      × (length (predecessors_after N asker source departure labels predecessors) ≡ length predecessors)
  tables_long = go (labels_answer N asker source departure labels predecessors) refl
    where
      go : (outcome : Outcome (Unit {0})) → labels_answer N asker source departure labels predecessors ≡ outcome →
          (length (labels_after N asker source departure labels predecessors) ≡ length labels)
          × (length (predecessors_after N asker source departure labels predecessors) ≡ length predecessors)
      go (refused number) e = rw e (refl, refl)
      go (replied tt) e =
          let tables = (demand_2_of_call N asker source departure labels predecessors e).1 in
          let asked = (answered N asker source departure labels predecessors e).1 in
          (tables.labels_long ∙ sym asked.labels_long, tables.predecessors_long ∙ sym asked.predecessors_long)

module _ (N : Network) (asker source departure : ℕ) (labels predecessors : List ℕ) where
  pub labels_front : front N (labels_within_lem N asker source departure labels predecessors) ≡ labels_after N asker source departure (front N labels) (front N predecessors)
  labels_front = front_written N.junctions _ labels (tables_long N asker source departure (front N labels) (front N predecessors)).0

  pub predecessors_front : front N (predecessors_within N asker source departure labels predecessors)
      ≡ predecessors_after N asker source departure (front N labels) (front N predecessors)
  predecessors_front = front_written N.junctions _ predecessors (tables_long N asker source departure (front N labels) (front N predecessors)).1
