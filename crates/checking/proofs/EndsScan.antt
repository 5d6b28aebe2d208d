-- A scan of the arcs' ends, in two tables of one length: what the test says of the arcs that are left, by the next of them.
use Prim.Native.Nat.{ℕ, ◌+◌, ◌<◌, ◌≤◌}
use mathlib.Core.Path.{◌≡◌}
use mathlib.Core.Bool.{true, ◌&&◌, and_assoc, and-true}
use mathlib.Core.List.{List}
use native.Mathlib.Numerals.{add-one}
use native.Mathlib.Omega.{arith}
use lib.ListN.{length, get_or, drop, drop_of_length-le}
use lib.Seq.{drop-cons}
use Rattle.model.specs.NetworkRules.{ends_keep_lem}
use Rattle.checking.specs.Code.Ends.{arc_ends_keep_lem}

module _ (junctions : ℕ) (tails heads : List ℕ) (a : ℕ) where
  pub ends_go_on : length heads ≡ length tails → a < length tails →
      ends_keep_lem junctions (drop a tails) (drop a heads)
      ≡ (arc_ends_keep_lem junctions (get_or tails a 0) (get_or heads a 0) && ends_keep_lem junctions (drop (a + 1) tails) (drop (a + 1) heads))
  unfolding ends_keep_lem
  ends_go_on same inside = rw (add-one, drop-cons tails a 0 inside, drop-cons heads a 0 (omega arith))

  pub ends_end : length tails ≤ a → ends_keep_lem junctions (drop a tails) (drop a heads) ≡ true
  unfolding ends_keep_lem
  ends_end h = rw (drop_of_length-le tails h)

pub ruleset ends_steps = (ends_go_on, ends_end, and_assoc, and-true)
