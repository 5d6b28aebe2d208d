-- In a network that the check accepts a predecessor has at most three digits, so that the output has room for the table.
use Prim.Native.Nat.{ℕ, zero, suc, ◌+◌, ◌≤◌, ◌<◌}
use mathlib.Core.Path.{◌≡◌, refl, sym, ◌∙◌}
use mathlib.Core.Bool.{Bool, true, false, cond, ◌||◌}
use mathlib.Core.Logic.{◌⊎◌, inl, inr}
use mathlib.Core.List.{List}
use native.Mathlib.Omega.{arith}
use lib.Dec.{eqb}
use lib.ListN.{length, get_or}
use Rattle.model.specs.Ticks.{never}
use Rattle.model.specs.Labels.{no_arc, labels_of, predecessors_of, predecessor_of, first_attaining, attains}
use Rattle.model.specs.Network.{Network, Accepted, net_of, arcs}
use Rattle.model.specs.NetworkRules.{network_check_lem}
use Rattle.model.specs.Rules.{replied}
use Rattle.model.specs.Walks.{Net}
use Rattle.model.proofs.NetworkRules.{accepts_when_kept}
use Rattle.model.proofs.Predecessors.{get_d_tabulate}
use Rattle.town_labels.proofs.Networks.{labels_count, predecessors_count}
use Rattle.formatting.specs.Texts.{number_unless}
use Rattle.formatting.proofs.Digits.{digits_short}
use Rattle.formatting.proofs.Texts.{dash, no_dash}
use Rattle.arrivals_text.specs.Code.Tables.{TableFits}

-- ---- A predecessor is an arc or none

first_below : (N : Net) (labels : List ℕ) (j a k : ℕ) → (first_attaining N labels j a k ≡ no_arc) ⊎ (first_attaining N labels j a k < a + k)
unfolding first_attaining
first_below N labels j a zero = inl refl
first_below N labels j a (suc k) = go (attains N labels j a) (first_below N labels j (suc a) k)
  where
    go : (attained : Bool) → (first_attaining N labels j (suc a) k ≡ no_arc) ⊎ (first_attaining N labels j (suc a) k < suc a + k) →
        (cond attained a (first_attaining N labels j (suc a) k) ≡ no_arc) ⊎ (cond attained a (first_attaining N labels j (suc a) k) < a + suc k)
    go true later = inr (omega arith)
    go false (inl none) = inl none
    go false (inr below) = inr (omega arith)

short_arc : (p arcs : ℕ) → arcs ≤ 640 → (p ≡ no_arc) ⊎ (p < arcs) → length (number_unless no_arc p) ≤ 3
short_arc p arcs few (inl none) = rw (dash no_arc p none) (omega arith)
short_arc p arcs few (inr below) = rw (no_dash no_arc p (λ e. omega arith)) (digits_short p 2 (omega arith))

predecessor_below : (N : Net) (source : ℕ) (labels : List ℕ) (j : ℕ) → (predecessor_of N source labels j ≡ no_arc) ⊎ (predecessor_of N source labels j < N.arcs)
unfolding predecessor_of
predecessor_below N source labels j = go (eqb j source || eqb (get_or labels j never) never) (first_below N labels j 0 N.arcs)
  where
    go : (test : Bool) → (first_attaining N labels j 0 N.arcs ≡ no_arc) ⊎ (first_attaining N labels j 0 N.arcs < 0 + N.arcs) →
        (cond test no_arc (first_attaining N labels j 0 N.arcs) ≡ no_arc) ⊎ (cond test no_arc (first_attaining N labels j 0 N.arcs) < N.arcs)
    go true first = inl refl
    go false (inl none) = inl none
    go false (inr below) = inr (omega arith)

-- ---- The table of a network

module _ (N : Network) (source departure : ℕ) (checked : network_check_lem N ≡ replied tt) where
  keeps : Accepted N
  keeps = (accepts_when_kept N).0 checked

  predecessor_short : (labels : List ℕ) (j : ℕ) → length (number_unless no_arc (predecessor_of (net_of N) source labels j)) ≤ 3
  predecessor_short labels j = short_arc (predecessor_of (net_of N) source labels j) (arcs N) keeps.arcs_fit (predecessor_below (net_of N) source labels j)

  pub table_fits : TableFits (labels_of (net_of N) source departure) (predecessors_of (net_of N) source departure)
  unfolding predecessors_of
  table_fits =
      let labels = labels_of (net_of N) source departure in
      let many = labels_count N source departure in
      let entry = get_d_tabulate (predecessor_of (net_of N) source labels) 0 N.junctions in
      record {
        same_length = predecessors_count N source departure ∙ sym many;
        few = omega (arith, many, keeps.junctions_fit);
        short = λ j h. rw (entry j 0 (omega (arith, many))) (predecessor_short labels (0 + j));
      }
