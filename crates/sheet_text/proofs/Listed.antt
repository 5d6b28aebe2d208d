-- The count of a list of departures, as the sheet asks it: above 0, and at most 96.
use Prim.Native.Nat.{ℕ, ◌≤◌, ◌<◌}
use mathlib.Core.Path.{◌≡◌}
use mathlib.Core.Bool.{true, false, not, ◌&&◌}
use native.Mathlib.Omega.{arith}
use lib.Dec.{leb, ltb}
use borrow.Author.Tests.{lt-ltb, le-ltb, le-leb, lt-leb}
use Rattle.sheeting.specs.Sheet.{max_departures}

module _ {n : ℕ} where
  pub none_listed : n ≡ 0 → not (ltb 0 n && leb n max_departures) ≡ true
  none_listed none = rw (le-ltb 0 n (omega arith))

  pub too_many_listed : max_departures < n → not (ltb 0 n && leb n max_departures) ≡ true
  too_many_listed many = rw (lt-ltb 0 n (omega arith), lt-leb n max_departures many)

  pub count_kept : (n ≡ 0 → ⊥) → n ≤ max_departures → not (ltb 0 n && leb n max_departures) ≡ false
  count_kept some few = rw (lt-ltb 0 n (omega arith), le-leb n max_departures few)
