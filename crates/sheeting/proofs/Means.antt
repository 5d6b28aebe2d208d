-- What the figures mean, in terms of walks: a label that is not never is a journey and one that is has none; the least and the greatest
-- are found among the journeys, and none lies beyond them.
use Prim.Native.Nat.{ℕ, zero, suc, ◌+◌, ◌*◌, ◌≤◌, ◌<◌}
use mathlib.Core.Path.{◌≡◌, refl, ap, subst, ◌∙◌}
use mathlib.Core.List.{List, [], ◌∷◌, ◌++◌}
use mathlib.Core.Logic.{inl, inr}
use native.Mathlib.Omega.{arith}
use lib.ListN.{length, get_or, get_or-append}
use lib.Seq.{get_or-append-add}
use Rattle.model.specs.Ticks.{day, never}
use Rattle.model.specs.Network.{Network, network_for, Accepted}
use Rattle.model.specs.Demands.{label}
use Rattle.model.proofs.Demands.{demand_2}
use Rattle.model.proofs.Networks.{accepted_sound}
use Rattle.model.proofs.Tests.{eqb_cases, leb_cases}
use Rattle.model.proofs.Walks.{arrives_from_departure}
use Rattle.dijkstra.specs.Labelable.{Labelable}
use Rattle.labelling.proofs.LabelRules.{labels_replies_when_labelable}
use Rattle.sheeting.specs.Sheet.{SheetOfCallMeans}
use Rattle.sheeting.proofs.RowByRow.{row_is}
use Rattle.sheeting.proofs.SheetRules.{answered, departure_taken, shift_taken_for}
use Rattle.sheeting.specs.Figures.{reaching, journey, journeys, least, greatest, sum, four_of, figures_from, figures_of}
use Rattle.sheeting.specs.Figures.{Journey, Journeys, no_departure, reaches, unreached, Among, FiguresMean, figure_in, FiguresOfNetworkMean}

-- ---- The least and the greatest

among_rest : (n x : ℕ) (xs : List ℕ) → Among n xs → Among n (x ∷ xs)
among_rest n x xs (k, h, e) = (suc k, omega arith, e)

least_among : (x : ℕ) (xs : List ℕ) → Among (least (x ∷ xs)) (x ∷ xs)
unfolding least
least_among x [] = (0, omega arith, refl)
least_among x (y ∷ xs) = elim (leb_cases x (least (y ∷ xs))) [
  | inl first ↦ (0, omega arith, omega (arith, first.1))
  | inr later ↦ subst (λ n. Among n (x ∷ (y ∷ xs))) (omega (arith, later.1)) (among_rest (least (y ∷ xs)) x (y ∷ xs) (least_among y xs))
]

none_fewer : (xs : List ℕ) (n : ℕ) → Among n xs → least xs ≤ n
unfolding least
none_fewer [] n (k, h, e) = absurd (omega arith)
none_fewer (x ∷ []) n (zero, h, e) = omega arith
none_fewer (x ∷ []) n (suc k, h, e) = absurd (omega arith)
none_fewer (x ∷ (y ∷ xs)) n (zero, h, e) = omega arith
none_fewer (x ∷ (y ∷ xs)) n (suc k, h, e) = omega (arith, none_fewer (y ∷ xs) n (k, omega arith, e))

greatest_among : (x : ℕ) (xs : List ℕ) → Among (greatest (x ∷ xs)) (x ∷ xs)
unfolding greatest
greatest_among x [] = (0, omega arith, omega arith)
greatest_among x (y ∷ xs) = elim (leb_cases (greatest (y ∷ xs)) x) [
  | inl first ↦ (0, omega arith, omega (arith, first.1))
  | inr later ↦ subst (λ n. Among n (x ∷ (y ∷ xs))) (omega (arith, later.1)) (among_rest (greatest (y ∷ xs)) x (y ∷ xs) (greatest_among y xs))
]

none_more : (xs : List ℕ) (n : ℕ) → Among n xs → n ≤ greatest xs
unfolding greatest
none_more [] n (k, h, e) = absurd (omega arith)
none_more (x ∷ xs) n (zero, h, e) = omega arith
none_more (x ∷ xs) n (suc k, h, e) = omega (arith, none_more xs n (k, omega arith, e))

-- ---- A junction's journeys

module _ (N : Network) (accepted : Accepted N) (source : ℕ) (below : source < N.junctions) (j : ℕ) (inside : j < N.junctions) where
  is_journey : (departure : ℕ) → departure < day → (label N source departure j ≡ never → ⊥) → Journey N source departure j (journey N source j departure)
  is_journey departure in_day_law reached =
      let d = demand_2 N accepted source departure below in_day_law in
      let walk = d.attained j inside reached in
      let after = arrives_from_departure (accepted_sound N accepted) walk in
      let ticks : departure + journey N source j departure ≡ label N source departure j = omega arith in
      record { attained = rw ticks walk; no_sooner = λ t w. rw ticks (d.no_sooner j t w) }

  are_journeys : (departures : List ℕ) → ((k : ℕ) → k < length departures → get_or departures k 0 < day) → Journeys N source j departures (journeys N source j departures)
  unfolding reaching
  are_journeys [] in_day_law = no_departure
  are_journeys (departure ∷ departures) in_day_law =
      let others = are_journeys departures (λ k h. in_day_law (suc k) (omega arith)) in
      elim (eqb_cases (label N source departure j) never) [
        | inl none ↦ rw none.0 (unreached departure (λ t w. (demand_2 N accepted source departure below (in_day_law 0 (omega arith))).unreached j t none.1 w) others)
        | inr some ↦ rw some.0 (reaches departure (journey N source j departure) (is_journey departure (in_day_law 0 (omega arith)) some.1) others)
      ]

-- Four numbers are the figures of journeys.
four_mean : {N : Network} {source j : ℕ} {departures : List ℕ} (ticks : List ℕ) → Journeys N source j departures ticks →
    FiguresMean N source j departures (length ticks) (least ticks) (greatest ticks) (sum ticks)
unfolding least greatest sum
four_mean [] are = record {
  ticks = [];
  are_journeys = are;
  counted = refl;
  fewest_among = λ some. absurd (omega arith);
  none_fewer = λ n a. omega arith;
  most_among = λ some. absurd (omega arith);
  none_more = none_more [];
  added = refl;
  none_reaches = λ none. (refl, refl, refl);
}
four_mean (t ∷ ts) are = record {
  ticks = t ∷ ts;
  are_journeys = are;
  counted = refl;
  fewest_among = λ some. least_among t ts;
  none_fewer = none_fewer (t ∷ ts);
  most_among = λ some. greatest_among t ts;
  none_more = none_more (t ∷ ts);
  added = refl;
  none_reaches = λ none. absurd (omega arith);
}

-- ---- Their places in the table

figures_at : (N : Network) (source : ℕ) (departures : List ℕ) (j k i f : ℕ) → i < k → f < 4 →
    get_or (figures_from N source departures j k) (4 * i + f) 0 ≡ get_or (four_of (journeys N source (j + i) departures)) f 0
unfolding figures_from
figures_at N source departures j zero i f h four = absurd (omega arith)
figures_at N source departures j (suc k) zero f h four =
    let here = four_of (journeys N source j departures) in
    let others = figures_from N source departures (suc j) k in
    let first : 4 * 0 + f ≡ f = omega arith in
    let same : j ≡ j + 0 = omega arith in
    ap (λ at. get_or (here ++ others) at 0) first ∙ get_or-append here others 0 f four ∙ ap (λ i. get_or (four_of (journeys N source i departures)) f 0) same
figures_at N source departures j (suc k) (suc i) f h four =
    let here = four_of (journeys N source j departures) in
    let others = figures_from N source departures (suc j) k in
    let behind : 4 * suc i + f ≡ 4 + (4 * i + f) = omega arith in
    let same : suc j + i ≡ j + suc i = omega arith in
    ap (λ at. get_or (here ++ others) at 0) behind ∙ get_or-append-add here others (4 * i + f) 0
    ∙ figures_at N source departures (suc j) k i f (omega arith) four ∙ ap (λ i. get_or (four_of (journeys N source i departures)) f 0) same

pub figure_is : (N : Network) (source : ℕ) (departures : List ℕ) (j f : ℕ) → j < N.junctions → f < 4 →
    figure_in (figures_of N source departures) j f ≡ get_or (four_of (journeys N source j departures)) f 0
unfolding figures_of
figure_is N source departures j f inside four =
    let same : 0 + j ≡ j = omega arith in
    figures_at N source departures 0 N.junctions j f inside four ∙ ap (λ i. get_or (four_of (journeys N source i departures)) f 0) same

pub figures_of_network_mean : FiguresOfNetworkMean
figures_of_network_mean N accepted source below departures in_day_law j inside =
    let count = figure_is N source departures j 0 inside (omega arith) in
    let fewest = figure_is N source departures j 1 inside (omega arith) in
    let most = figure_is N source departures j 2 inside (omega arith) in
    let total = figure_is N source departures j 3 inside (omega arith) in
    rw (count, fewest, most, total) (four_mean (journeys N source j departures) (are_journeys N accepted source below j inside departures in_day_law))

-- ---- Of a call

pub sheet_of_call_means : SheetOfCallMeans
sheet_of_call_means N asker source departures labels figures e =
    let (known, sheetable) = answered N asker source departures labels figures e in
    let M = network_for N asker in
    let t = shift_taken_for asker sheetable.taken in
    rw e record {
      rows = λ k h buffer predecessors long long'.
          let q : Labelable N source (get_or departures k 0) buffer predecessors = record {
            taken = departure_taken sheetable.taken h;
            labels_long = long;
            predecessors_long = long';
          } in
          let replies = (labels_replies_when_labelable N asker source (get_or departures k 0) buffer predecessors).1 (known, q) in
          (replies, rw replies (row_is M source departures k h));
      rows_earliest = λ k h. rw (row_is M source departures k h) (demand_2 M t.accepted source (get_or departures k 0) t.source_below (t.departures_below k h));
      junction_figures = λ j inside. figures_of_network_mean M t.accepted source t.source_below departures t.departures_below j inside;
    }
