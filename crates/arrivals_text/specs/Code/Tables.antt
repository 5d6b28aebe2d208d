-- What the parts of the program ask of the tables that they print.
use Rattle.std.specs.Prelude.{ℕ, ◌≤◌, ◌<◌, ◌≡◌, List, length, get_or}
use Rattle.model.specs.Labels.{no_arc}
use Rattle.formatting.specs.Texts.{number_unless}

-- Tables whose lines the buffer has room for.
pub record TableFits (labels predecessors : List ℕ) : Type 0 where
  pub same_length : length predecessors ≡ length labels
  pub few : length labels ≤ 200
  pub short : (j : ℕ) → j < length labels → length (number_unless no_arc (get_or predecessors j 0)) ≤ 3
