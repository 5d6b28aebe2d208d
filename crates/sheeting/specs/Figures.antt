-- "Four figures for each junction in turn: how many departures reach it, and the least, the greatest and the sum of the journey ticks,
-- label less departure, over those that do. A junction that none reaches shows 0 in all four."
use Rattle.std.specs.Prelude.{ℕ, zero, suc, ◌+◌, ◌-◌, ◌*◌, ◌≤◌, ◌<◌, min, max, ◌≡◌, cond, List, [], ◌∷◌, ◌++◌, map, eqb, length, get_or}
use Rattle.model.specs.Ticks.{day, never}
use Rattle.model.specs.Network.{Network, Accepted, net_of}
use Rattle.model.specs.Walks.{Arrives}
use Rattle.model.specs.Demands.{label}

-- The departures of the list that reach a junction.
unfoldable pub reaching : Network → ℕ → ℕ → List ℕ → List ℕ
reaching N source j [] = []
reaching N source j (departure ∷ departures) =
    let others = reaching N source j departures in
    cond (eqb (label N source departure j) never) others (departure ∷ others)

-- "Journey ticks, label less departure."
abbrev pub journey : Network → ℕ → ℕ → ℕ → ℕ
journey N source j departure = label N source departure j - departure

abbrev pub journeys : Network → ℕ → ℕ → List ℕ → List ℕ
journeys N source j departures = map (journey N source j) (reaching N source j departures)

unfoldable pub least : List ℕ → ℕ
least [] = 0
least (x ∷ []) = x
least (x ∷ (y ∷ xs)) = min x (least (y ∷ xs))

unfoldable pub greatest : List ℕ → ℕ
greatest [] = 0
greatest (x ∷ xs) = max x (greatest xs)

unfoldable pub sum : List ℕ → ℕ
sum [] = 0
sum (x ∷ xs) = x + sum xs

-- The four figures of journeys.
abbrev pub four_of : List ℕ → List ℕ
four_of ticks = length ticks ∷ least ticks ∷ greatest ticks ∷ sum ticks ∷ []

-- Those of the k junctions from j on, in turn.
unfoldable pub figures_from : Network → ℕ → List ℕ → ℕ → ℕ → List ℕ
figures_from N source departures j zero = []
figures_from N source departures j (suc k) = four_of (journeys N source j departures) ++ figures_from N source departures (suc j) k

unfoldable pub figures_of : Network → ℕ → List ℕ → List ℕ
figures_of N source departures = figures_from N source departures 0 N.junctions

-- ---- What they mean

-- A journey in terms of walks: one arrives after so many ticks, and none sooner.
pub record Journey (N : Network) (source departure j ticks : ℕ) : Type 0 where
  pub attained : Arrives (net_of N) source departure j (departure + ticks)
  pub no_sooner : (t : ℕ) → Arrives (net_of N) source departure j t → departure + ticks ≤ t

-- The journeys to a junction, one for each departure of the list that reaches it by the last tick, in list order.
pub data Journeys (N : Network) (source j : ℕ) : List ℕ → List ℕ → Type 0 where
  no_departure : Journeys N source j [] []
  reaches : (departure ticks : ℕ) {departures others : List ℕ} → Journey N source departure j ticks →
      Journeys N source j departures others → Journeys N source j (departure ∷ departures) (ticks ∷ others)
  unreached : (departure : ℕ) {departures others : List ℕ} → ((t : ℕ) → Arrives (net_of N) source departure j t → ⊥) →
      Journeys N source j departures others → Journeys N source j (departure ∷ departures) others

-- A number stands in a list.
abbrev pub Among : ℕ → List ℕ → Type 0
Among n numbers = (k : ℕ) × (k < length numbers) × (get_or numbers k 0 ≡ n)

-- Four numbers are a junction's figures: how many departures reach it; the least and the greatest of their journeys, than which none is
-- less or greater; and the sum. Where none reaches it, all four are 0.
pub record FiguresMean (N : Network) (source j : ℕ) (departures : List ℕ) (count fewest most total : ℕ) : Type 0 where
  pub ticks : List ℕ
  pub are_journeys : Journeys N source j departures ticks
  pub counted : count ≡ length ticks
  pub fewest_among : 0 < count → Among fewest ticks
  pub none_fewer : (n : ℕ) → Among n ticks → fewest ≤ n
  pub most_among : 0 < count → Among most ticks
  pub none_more : (n : ℕ) → Among n ticks → n ≤ most
  pub added : total ≡ sum ticks
  pub none_reaches : count ≡ 0 → (fewest ≡ 0) × (most ≡ 0) × (total ≡ 0)

-- ---- What is proved of them

-- The entry of a junction's figure in the table, from 0 to 3.
abbrev pub figure_in : List ℕ → ℕ → ℕ → ℕ
figure_in figures j f = get_or figures (4 * j + f) 0

-- On every accepted network the figures mean that.
abbrev pub FiguresOfNetworkMean : Type 0
FiguresOfNetworkMean = (N : Network) → Accepted N → (source : ℕ) → source < N.junctions → (departures : List ℕ) →
    ((k : ℕ) → k < length departures → get_or departures k 0 < day) → (j : ℕ) → j < N.junctions →
    let figures = figures_of N source departures in
    FiguresMean N source j departures (figure_in figures j 0) (figure_in figures j 1) (figure_in figures j 2) (figure_in figures j 3)
