-- Two drive functions that agree on every arc at every tick give the same labels, predecessors and routes: each step asks a drive only for its
-- value. Lists that close the same ticks give such functions.
use Prim.Native.Nat.{ℕ, zero, suc}
use mathlib.Core.Path.{◌≡◌, refl, ap}
use mathlib.Core.List.{List, reverse}
use mathlib.Core.Logic.{◌↔◌}
use lib.ListN.{get_or}
use Rattle.model.specs.Ticks.{never}
use Rattle.model.specs.Closures.{Closed}
use Rattle.model.specs.Walks.{Net}
use Rattle.model.specs.Labels.{offer, offers, within, labels_of, attains, first_attaining, predecessor_of, tabulate, predecessors_of}
use Rattle.model.specs.Network.{Network, closed_by, roads_of, speed_on, drive_of, net_of}
use Rattle.model.specs.Routes.{arcs_back, route_of, ClosuresAreUnion}
use Rattle.model.specs.declared.closure.Closure.{Closure}
use Rattle.model.proofs.Holds.{same_arrival}
use Rattle.model.proofs.Closures.{closed_alike}

-- ---- Nets that differ in their drives' names alone

module _ (junctions arcs : ℕ) (tail head : ℕ → ℕ) (d e : ℕ → ℕ → ℕ) (same : (a t : ℕ) → d a t ≡ e a t) (source departure : ℕ) where
  abbrev net_by : (ℕ → ℕ → ℕ) → Net
  net_by drive = record { junctions = junctions; arcs = arcs; tail = tail; head = head; drive = drive }

  same_offers : (old : List ℕ) (k : ℕ) → offers (net_by d) old k ≡ offers (net_by e) old k
  unfolding offers offer
  same_offers old zero = refl
  same_offers old (suc a) = rw (same_offers old a, same a (get_or old (tail a) never))

  same_within : (k : ℕ) → within (net_by d) source departure k ≡ within (net_by e) source departure k
  unfolding within
  same_within zero = refl
  same_within (suc k) = rw (same_within k) (same_offers (within (net_by e) source departure k) arcs)

  pub same_labels : labels_of (net_by d) source departure ≡ labels_of (net_by e) source departure
  unfolding labels_of
  same_labels = same_within junctions

  same_first : (labels : List ℕ) (j a k : ℕ) → first_attaining (net_by d) labels j a k ≡ first_attaining (net_by e) labels j a k
  unfolding first_attaining attains
  same_first labels j a zero = refl
  same_first labels j a (suc k) = rw (same_first labels j (suc a) k, same a (get_or labels (tail a) never))

  same_tabulated : (j k : ℕ) → tabulate (predecessor_of (net_by d) source (labels_of (net_by d) source departure)) j k ≡
      tabulate (predecessor_of (net_by e) source (labels_of (net_by e) source departure)) j k
  unfolding tabulate predecessor_of
  same_tabulated j zero = refl
  same_tabulated j (suc k) = rw (same_tabulated (suc j) k, same_labels, same_first (labels_of (net_by e) source departure) j 0 arcs)

  pub same_predecessors : predecessors_of (net_by d) source departure ≡ predecessors_of (net_by e) source departure
  unfolding predecessors_of
  same_predecessors = same_tabulated 0 junctions

  pub same_route : (j : ℕ) → route_of (net_by d) source departure j ≡ route_of (net_by e) source departure j
  unfolding route_of
  same_route j = ap (λ (predecessors : List ℕ). reverse (arcs_back tail source predecessors junctions j)) same_predecessors

-- ---- Lists that close the same ticks

module _ (N : Network) (closures : List Closure) (alike : (a t : ℕ) → Closed N.closures a t ↔ Closed closures a t) where
  same_drive : (a t : ℕ) → drive_of (roads_of N) a t ≡ drive_of (roads_of (closed_by N closures)) a t
  unfolding drive_of speed_on
  same_drive a t = same_arrival _ _ _ _ t (λ u. closed_alike N.closures closures a u _ (alike a u))

pub closures_are_union : ClosuresAreUnion
closures_are_union N closures alike source departure =
    let M = net_of N in
    let d = M.drive in
    let e = drive_of (roads_of (closed_by N closures)) in
    let same = same_drive N closures alike in (
      same_labels M.junctions M.arcs M.tail M.head d e same source departure,
      same_predecessors M.junctions M.arcs M.tail M.head d e same source departure,
      same_route M.junctions M.arcs M.tail M.head d e same source departure,
    )
