-- `fill::fill`: at each turn storing what the lines that are left give comes to storing what all give; behind the last line none is left.
use Prim.Native.Nat.{◌-◌}
use lib.ListN.{length}
use Rattle.townfile.specs.Lent.{lent_tables, SameTables}
use Rattle.loading.proofs.Filling.{FilledFrom}
use Rattle.loading.proofs.fill.fill.Given as goal

abbrev pub invariant-loop-at : goal.invariant-loop-at
invariant-loop-at l =
    FilledFrom l.intervals l.held l.text
    (lent_tables l.initial.tables) l.at l.fence l.arc
    (lent_tables l.tables)
    × SameTables l.initial.tables l.tables

abbrev pub decreases-loop-at : goal.decreases-loop-at
decreases-loop-at l = length l.text - l.at
