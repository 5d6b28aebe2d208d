-- The theory of passes and of tables, for the network of a question that is taken.
use Prim.Native.Nat.{ℕ, ◌≤◌}
use mathlib.Core.Path.{◌≡◌}
use mathlib.Core.Logic.{◌↔◌}
use native.Mathlib.Omega.{arith}
use Rattle.model.specs.Ticks.{last}
use Rattle.model.specs.Labels.{labels_of}
use Rattle.model.specs.Network.{Network, net_of}
use Rattle.model.specs.Passes.{after_passes, passes_of, IsFirstUnchanged}
use Rattle.model.specs.Walks.{Sound}
use Rattle.model.proofs.Networks.{accepted_sound}
use Rattle.model.proofs.Passes.{passes_are_first_unchanged, passes_at_most_junctions, passes_leave_labels}
use Rattle.checking.specs.Question.{Taken}

module _ {N : Network} {source departure : ℕ} (q : Taken N source departure) where
  pub sound : Sound (net_of N)
  sound = accepted_sound N q.accepted

  pub departs : departure ≤ last
  departs = omega (arith, q.departure_below)

  pub first_unchanged_law : (n : ℕ) → (n ≡ passes_of (net_of N) source departure) ↔ IsFirstUnchanged (net_of N) source departure n
  first_unchanged_law n = passes_are_first_unchanged (net_of N) sound source departure q.source_below departs n

  pub number_bounds : (1 ≤ passes_of (net_of N) source departure) × (passes_of (net_of N) source departure ≤ N.junctions)
  number_bounds = passes_at_most_junctions (net_of N) sound source departure q.source_below departs

  pub leaves_labels : after_passes (net_of N) source departure (passes_of (net_of N) source departure) ≡ labels_of (net_of N) source departure
  leaves_labels = passes_leave_labels (net_of N) sound source departure q.source_below departs
