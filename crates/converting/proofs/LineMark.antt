-- A line with a mark has its two bytes, and all that stands behind them is the rest of the line.
use Prim.Native.Nat.{ℕ, ◌-◌, ◌≤◌, ◌<◌}
use mathlib.Core.Path.{◌≡◌}
use mathlib.Core.List.{List, [], ◌∷◌}
use native.Mathlib.Omega.{arith}
use lib.ListN.{length, take, drop, length-drop}
use lib.Seq.{take_all}
use Rattle.townfile.specs.Lines.{first_two}

pub mark_long : (line : List ℕ) {mark : ℕ} → first_two line ≡ mark → 0 < mark → 2 ≤ length line
unfolding first_two
mark_long [] is some = absurd (omega arith)
mark_long (byte ∷ []) is some = absurd (omega arith)
mark_long (first ∷ second ∷ bytes) is some = omega arith

pub behind_mark_law : (line : List ℕ) → take (length line - 2) (drop 2 line) ≡ drop 2 line
behind_mark_law line = take_all (length line - 2) (drop 2 line) (omega (arith, length-drop 2 line))
