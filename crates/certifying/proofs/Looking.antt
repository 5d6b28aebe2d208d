-- The look at each junction: those before the one at hand stand, and the interval of each label that is reached stands beside it.
use Prim.Native.Nat.{ℕ, ◌+◌, ◌<◌}
use mathlib.Core.Path.{◌≡◌, ap, ◌∙◌}
use mathlib.Core.Bool.{Bool, true, false}
use mathlib.Core.List.{List}
use Rattle.std.specs.Prelude.{Decides}
use Rattle.std.proofs.Common.{below_more}
use Rattle.std.proofs.lemmas.Bool.Decides.{not_from_Decides}
use native.Mathlib.Omega.{arith}
use lib.ListN.{length, get_or, set}
use lib.Seq.{get_or-set_same, get_or-set_other}
use Rattle.model.specs.Ticks.{never}
use Rattle.model.specs.Intervals.{interval_of_lem}
use Rattle.model.specs.Labels.{no_arc}
use Rattle.model.proofs.Entries.{get_or-inside}
use Rattle.certifying.specs.Code.Certifying.{Stands, AllStand}

module _ (fences heads : List ℕ) (source departure : ℕ) (labels predecessors : List ℕ) where
  pub record LookedSoFar (intervals : List ℕ) (k : ℕ) : Type 0 where
    pub stand : AllStand heads source departure labels predecessors k
    pub beside : (j : ℕ) → j < k → get_or labels j never < never → get_or intervals j 0 ≡ interval_of_lem fences (get_or labels j never)

module _ {fences heads : List ℕ} {source departure : ℕ} {labels predecessors : List ℕ} {intervals : List ℕ} {k : ℕ}
    (so_far : LookedSoFar fences heads source departure labels predecessors intervals k)
    -- the junction at hand
    (here : k < length labels) (as_many : length predecessors ≡ length labels) {r : Bool}
    (decides : Decides r (Stands heads source departure k (get_or labels k 0) (get_or predecessors k 0))) where
  decides_here : Decides r (Stands heads source departure k (get_or labels k never) (get_or predecessors k no_arc))
  decides_here = rw (← get_or-inside labels k 0 never here, ← get_or-inside predecessors k 0 no_arc (omega (arith, as_many))) decides

  pub falls : r ≡ false → AllStand heads source departure labels predecessors (length labels) → ⊥
  falls e all = not_from_Decides r decides_here e (all k here)

  pub next_unreached : r ≡ true → get_or labels k 0 ≡ never → LookedSoFar fences heads source departure labels predecessors intervals (k + 1)
  next_unreached e is_never = record {
    stand = below_more _ _ so_far.stand (decides_here.0 e);
    beside = below_more _ _ so_far.beside (λ reached. absurd (omega (arith, reached, get_or-inside labels k 0 never here)));
  }

  pub next_reached : r ≡ true → k < length intervals → (interval : ℕ) → interval ≡ interval_of_lem fences (get_or labels k 0) →
      LookedSoFar fences heads source departure labels predecessors (set intervals k interval) (k + 1)
  next_reached e room interval is = record {
    stand = below_more _ _ so_far.stand (decides_here.0 e);
    beside = below_more _ _ (λ j less reached. get_or-set_other intervals k j interval 0 (omega arith) ∙ so_far.beside j less reached)
        (λ reached. get_or-set_same intervals k interval 0 room ∙ (is ∙ ap (interval_of_lem fences) (get_or-inside labels k 0 never here)));
  }
