-- One arc's part of the test of all arcs' ends.
use Rattle.std.specs.Prelude.{ℕ, Bool, not, ◌&&◌, ltb, eqb}

abbrev pub arc_ends_keep_lem : ℕ → ℕ → ℕ → Bool
arc_ends_keep_lem junctions tail head = ltb tail junctions && ltb head junctions && not (eqb tail head)
