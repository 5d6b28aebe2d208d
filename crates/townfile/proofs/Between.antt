-- A test of every byte against two bounds, and what it says of each byte.
use Prim.Native.Nat.{ℕ, ◌≤◌, ◌<◌}
use mathlib.Core.Path.{◌≡◌}
use mathlib.Core.Bool.{Bool, true, ◌&&◌}
use mathlib.Core.List.{List}
use lib.Dec.{leb}
use lib.ListN.{length, get_or}
use borrow.Author.Tests.{leb-true, le-leb}
use Rattle.model.specs.Rules.{every}
use Rattle.model.proofs.Rules.{true_both, both_true, every_at, at_every}

module _ (low high : ℕ) (bytes : List ℕ) where
  abbrev within : ℕ → Bool
  within byte = leb low byte && leb byte high

  pub every_between : every within bytes ≡ true → (i : ℕ) → i < length bytes → (low ≤ get_or bytes i 0) × (get_or bytes i 0 ≤ high)
  every_between e i h =
      let parts = true_both (leb low (get_or bytes i 0)) (leb (get_or bytes i 0) high) (every_at within 0 bytes e i h) in
      (leb-true low (get_or bytes i 0) parts.0, leb-true (get_or bytes i 0) high parts.1)

  pub between_every : ((i : ℕ) → i < length bytes → (low ≤ get_or bytes i 0) × (get_or bytes i 0 ≤ high)) → every within bytes ≡ true
  between_every all = at_every within 0 bytes (λ i h. both_true (le-leb low (get_or bytes i 0) (all i h).0) (le-leb (get_or bytes i 0) high (all i h).1))
