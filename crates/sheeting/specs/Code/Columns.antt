-- A junction's column of a table of rows, as the code reads it.
use Rattle.std.specs.Prelude.{ℕ, zero, suc, ◌+◌, ◌-◌, ◌*◌, ◌≤◌, ◌<◌, min, max, ◌≡◌, cond, List, [], ◌∷◌, ◌++◌, ◌⊎◌, eqb, length, get_or}
use Rattle.model.specs.Ticks.{last, never}
use Rattle.sheeting.specs.Figures.{least, greatest, sum, four_of}
use Rattle.sheeting.specs.declared.figures.Figures.{Figures}

-- The journeys of the departures whose labels stand at a place and from there on a row apart.
unfoldable pub column_ticks : List ℕ → ℕ → ℕ → List ℕ → List ℕ
column_ticks labels junctions at [] = []
column_ticks labels junctions at (departure ∷ departures) =
    let others = column_ticks labels junctions (at + junctions) departures in
    cond (eqb (get_or labels at 0) never) others ((get_or labels at 0 - departure) ∷ others)

-- The figures of the k columns from j on.
unfoldable pub column_figures_lem : List ℕ → List ℕ → ℕ → ℕ → ℕ → List ℕ
column_figures_lem labels departures junctions j zero = []
column_figures_lem labels departures junctions j (suc k) = four_of (column_ticks labels junctions j departures) ++ column_figures_lem labels departures junctions (suc j) k

abbrev pub figures_in : List ℕ → Figures
figures_in ticks = record { count = length ticks; least = least ticks; greatest = greatest ticks; sum = sum ticks }

abbrev pub in_turn : Figures → List ℕ
in_turn f = f.count ∷ f.least ∷ f.greatest ∷ f.sum ∷ []

-- With one more journey.
abbrev pub with_journey_lem : Figures → ℕ → Figures
with_journey_lem f ticks = record {
  count = f.count + 1;
  least = cond (eqb f.count 0) ticks (min ticks f.least);
  greatest = max ticks f.greatest;
  sum = f.sum + ticks;
}

-- The column's labels: each is unreached or lies between its departure and the last tick.
pub record ColumnKept (labels departures : List ℕ) (junctions j : ℕ) : Type 0 where
  pub long : length labels ≡ length departures * junctions
  pub few : length departures ≤ 96
  pub inside : j < junctions
  pub in_time : (k : ℕ) → k < length departures →
      (get_or labels (k * junctions + j) 0 ≡ never) ⊎ ((get_or departures k 0 ≤ get_or labels (k * junctions + j) 0) × (get_or labels (k * junctions + j) 0 ≤ last))
