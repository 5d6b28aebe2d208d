-- What the parts of the program ask of their tables.
use Rattle.std.specs.Prelude.{ℕ, ◌*◌, ◌≤◌, ◌<◌, List, length}
use Rattle.sheeting.specs.Figures.{figure_in}

-- Buffers that a sheet of one departure too many still has room in.
pub record PartsFit (junctions : ℕ) (departures labels figures : List ℕ) : Type 0 where
  pub few_junctions : junctions ≤ 200
  pub few_departures : length departures ≤ 97
  pub labels_long : 19400 ≤ length labels
  pub figures_long : 800 ≤ length figures

-- Figures whose lines the output has room for.
pub record LinesFit (junctions : ℕ) (figures : List ℕ) : Type 0 where
  pub few : junctions ≤ 200
  pub long : 4 * junctions ≤ length figures
  pub counts_short : (j : ℕ) → j < junctions → figure_in figures j 0 < 100
