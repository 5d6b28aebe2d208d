-- The labels are the earliest arrivals: a walk without repetition visits no more junctions than there are rounds, and each
-- walk has one that arrives no later.
use Prim.Native.Nat.{ℕ, ◌≤◌, ◌<◌}
use mathlib.Core.Path.{◌≡◌}
use native.Mathlib.Omega.{arith}
use lib.ListN.{length, get_or}
use Rattle.model.specs.Ticks.{never}
use Rattle.model.specs.Walks.{Net, Sound, Arrives}
use Rattle.model.specs.Labels.{labels_of, LabelsAreEarliest}
use Rattle.model.proofs.Walks.{are_earliest, visited, Simple, shorten, simple_length}
use Rattle.model.proofs.Within.{within_length, within_attained, within_no_sooner}

module _ (N : Net) (source departure : ℕ) where
  pub labels_length : length (labels_of N source departure) ≡ N.junctions
  unfolding labels_of
  labels_length = within_length N source departure N.junctions

  pub labels_attained : Sound N → (j : ℕ) → (get_or (labels_of N source departure) j never ≡ never → ⊥) → Arrives N source departure j (get_or (labels_of N source departure) j never)
  unfolding labels_of
  labels_attained sound = within_attained N sound source departure N.junctions

pub labels_no_sooner : (N : Net) → Sound N → (source departure : ℕ) → source < N.junctions → (j t : ℕ) → Arrives N source departure j t →
    get_or (labels_of N source departure) j never ≤ t
unfolding labels_of
labels_no_sooner N sound source departure inside j t w =
    let short : Simple N source departure j t = shorten sound w in
    let few : length (visited short.walk) ≤ N.junctions = simple_length sound inside short in
    omega (arith, within_no_sooner N sound source departure inside N.junctions short.walk (omega arith))

pub labels_are_earliest : LabelsAreEarliest
labels_are_earliest N sound source departure inside departs =
    are_earliest sound departs (λ j is_junction. labels_attained N source departure sound j) (labels_no_sooner N sound source departure inside)
