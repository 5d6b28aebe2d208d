-- `scan::scan`: at each turn what the lines from here on come to is what the text comes to.
use Prim.Native.Nat.{◌+◌, ◌-◌, ◌≤◌}
use mathlib.Core.Path.{◌≡◌}
use lib.ListN.{length, drop}
use Rattle.townfile.specs.Bytes.{line_feed, pieces}
use Rattle.townfile.specs.FirstFault.{lines_from, first_fault}
use Rattle.scanning.proofs.scan.scan.Given as goal

abbrev pub invariant-loop-at : goal.invariant-loop-at
invariant-loop-at l = (lines_from l.progress l.line (pieces line_feed (drop l.at l.text)) ≡ first_fault l.text) × ((l.at ≤ length l.text) × (l.line ≤ l.at + 1))

abbrev pub decreases-loop-at : goal.decreases-loop-at
decreases-loop-at l = length l.text - l.at
