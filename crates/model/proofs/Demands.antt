-- Demand 2 for labels, the only tables, and what demand 3 rests on: the theory of nets, for accepted networks. A departure is below
-- the day, and so by the last tick.
use Prim.Native.Nat.{ℕ, ◌≤◌, ◌<◌}
use native.Mathlib.Omega.{arith}
use Rattle.model.specs.Ticks.{day}
use Rattle.model.specs.Network.{Network, net_of}
use Rattle.model.specs.Walks.{Arrives}
use Rattle.model.specs.Demands.{label, Demand2, OnlyTablesOfNetwork, GetsBetter}
use Rattle.model.proofs.Least.{labels_are_earliest}
use Rattle.model.proofs.OnlyTables.{only_tables}
use Rattle.model.proofs.Improvement.{better_walk, better_labels}
use Rattle.model.proofs.Networks.{accepted_sound, improves_better}

pub demand_2 : Demand2
demand_2 N accepted source departure inside departs =
    labels_are_earliest (net_of N) (accepted_sound N accepted) source departure inside (omega arith)

pub only_tables_of_network : OnlyTablesOfNetwork
only_tables_of_network N accepted source departure inside departs =
    only_tables (net_of N) (accepted_sound N accepted) source departure inside (omega arith)

module _ {A B : Network} {early late : ℕ} (better : GetsBetter A B early late) (source : ℕ) where
  pub arrivals_no_later : (j t : ℕ) → Arrives (net_of A) source late j t → (t' : ℕ) × (t' ≤ t) × Arrives (net_of B) source early j t'
  arrivals_no_later j t walk = better_walk (improves_better A B better.improves) better.leaves_no_later walk

  pub labels_no_later : source < A.junctions → late < day → (j : ℕ) → j < A.junctions → label B source early j ≤ label A source late j
  labels_no_later inside departs =
      better_labels (net_of A) (net_of B) (accepted_sound A better.first_accepted) (accepted_sound B better.second_accepted)
      (improves_better A B better.improves) source early late inside better.leaves_no_later (omega arith)
