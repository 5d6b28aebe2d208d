-- A better net arrives no later: a walk of the worse net, taken on the better one, is never behind. So no label is later.
use Prim.Native.Nat.{ℕ, ◌≤◌, ◌<◌}
use native.Mathlib.Omega.{arith}
use native.Mathlib.Decide.{ℕ_discrete}
use mathlib.Core.Path.{◌≡◌}
use lib.ListN.{get_or}
use Rattle.model.specs.Ticks.{last, never}
use Rattle.model.specs.Walks.{Net, Sound, Arrives, start, along, Earliest}
use Rattle.model.specs.Labels.{labels_of}
use Rattle.model.proofs.Walks.{earliest_at_most_never}
use Rattle.model.proofs.Least.{labels_are_earliest}

-- B has what A has, and an arc that is left no later on B than on A arrives no later.
pub record Better (A B : Net) : Type 0 where
  pub more_junctions : A.junctions ≤ B.junctions
  pub more_arcs : A.arcs ≤ B.arcs
  pub same_tail : (a : ℕ) → a < A.arcs → A.tail a ≡ B.tail a
  pub same_head : (a : ℕ) → a < A.arcs → A.head a ≡ B.head a
  pub no_later : (a s t : ℕ) → a < A.arcs → s ≤ t → B.drive a s ≤ A.drive a t

module _ {A B : Net} (better : Better A B) {source early late : ℕ} (no_later : early ≤ late) where
  pub better_walk : {j t : ℕ} → Arrives A source late j t → (t' : ℕ) × (t' ≤ t) × Arrives B source early j t'
  better_walk start = (early, no_later, start)
  better_walk (along a {t = t} is_arc w arrives) = go (better_walk w)
    where
      go : (t' : ℕ) × (t' ≤ t) × Arrives B source early (A.tail a) t' → (t' : ℕ) × (t' ≤ A.drive a t) × Arrives B source early (A.head a) t'
      go (s, before, v) =
          let sooner : B.drive a s ≤ A.drive a t = better.no_later a s t is_arc before in
          let v' : Arrives B source early (B.head a) (B.drive a s) = along a (omega arith) (rw (better.same_tail a is_arc) at v) (omega arith) in
          (B.drive a s, sooner, rw (better.same_head a is_arc) v')

pub better_labels : (A B : Net) → Sound A → Sound B → Better A B → (source early late : ℕ) → source < A.junctions → early ≤ late →
    late ≤ last → (j : ℕ) → j < A.junctions → get_or (labels_of B source early) j never ≤ get_or (labels_of A source late) j never
better_labels A B sound-a sound-b better source early late inside no_later departs j is_junction =
    go (ℕ_discrete (get_or (labels_of A source late) j never) never)
  where
    of_a : Earliest A source late (λ i. get_or (labels_of A source late) i never)
    of_a = labels_are_earliest A sound-a source late inside departs

    of_b : Earliest B source early (λ i. get_or (labels_of B source early) i never)
    of_b = labels_are_earliest B sound-b source early (omega arith) (omega arith)

    go : Dec (get_or (labels_of A source late) j never ≡ never) → get_or (labels_of B source early) j never ≤ get_or (labels_of A source late) j never
    go (yes unreached) = omega (arith, earliest_at_most_never (omega arith) of_b j (omega arith))
    go (no reached) =
        let (u, sooner, v) = better_walk better no_later (of_a.attained j is_junction reached) in
        omega (arith, of_b.no_sooner j u v)
