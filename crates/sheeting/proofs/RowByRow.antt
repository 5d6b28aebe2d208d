-- Row after row: each row of the buffer is its departure's labels, so a junction's column has the labels that its journeys are
-- reckoned from, and the figures of the columns are the junctions' figures.
use Prim.Native.Nat.{ℕ, zero, suc, ◌+◌, ◌*◌, ◌≤◌, ◌<◌}
use mathlib.Core.Path.{◌≡◌, refl, sym, ap, ◌∙◌}
use mathlib.Core.Bool.{Bool, true, false, cond}
use mathlib.Core.List.{List, [], ◌∷◌, ◌++◌, map, append_assoc, append-nil}
use mathlib.Core.Logic.{◌⊎◌, inl, inr}
use native.Mathlib.Nat.{mul-le-mul, le_refl}
use native.Mathlib.Omega.{arith}
use lib.Dec.{eqb}
use lib.ListN.{length, get_or, take, length-append, get_or-append}
use borrow.Rule.Slice.PartMut.{put_mid}
use lib.Seq.{take_at, drop-append-add, get_or-append-add, take_all, take-length, take-suc}
use Rattle.std.proofs.lemmas.Slice.{take-put_mid}
use Rattle.model.specs.Ticks.{last, never}
use Rattle.model.specs.Network.{Network, net_of}
use Rattle.model.specs.Labels.{labels_of}
use Rattle.model.specs.Demands.{label}
use Rattle.model.proofs.Entries.{get_or-inside}
use Rattle.model.proofs.Demands.{demand_2}
use Rattle.model.proofs.Networks.{accepted_sound}
use Rattle.model.proofs.Tests.{eqb_cases}
use Rattle.model.proofs.Walks.{arrives_from_departure, arrives_by_last}
use Rattle.model.proofs.Within.{within_length}
use Rattle.sheeting.specs.Figures.{reaching, journey, journeys, figures_from, figures_of}
use Rattle.sheeting.specs.Rows.{rows_of, row}
use Rattle.sheeting.specs.Sheet.{ShiftTaken}
use Rattle.sheeting.specs.Code.Columns.{column_ticks, column_figures_lem, ColumnKept}

module _ (N : Network) (source : ℕ) where
  pub labels_long : (departure : ℕ) → length (labels_of (net_of N) source departure) ≡ N.junctions
  unfolding labels_of
  labels_long departure = within_length (net_of N) source departure N.junctions

  pub rows_long : (departures : List ℕ) → length (rows_of N source departures) ≡ length departures * N.junctions
  unfolding rows_of
  rows_long [] = omega arith
  rows_long (departure ∷ departures) =
      omega (arith, length-append (labels_of (net_of N) source departure) (rows_of N source departures), labels_long departure, rows_long departures)

  pub row_is : (departures : List ℕ) (k : ℕ) → k < length departures → row N k (rows_of N source departures) ≡ labels_of (net_of N) source (get_or departures k 0)
  unfolding rows_of
  row_is [] k h = absurd (omega arith)
  row_is (departure ∷ departures) zero h =
      let start : 0 * N.junctions ≡ 0 = omega arith in
      rw start (take_at (labels_of (net_of N) source departure) (rows_of N source departures) N.junctions (labels_long departure))
  row_is (departure ∷ departures) (suc k) h =
      let labels = labels_of (net_of N) source departure in
      let behind : suc k * N.junctions ≡ length labels + k * N.junctions = omega (arith, labels_long departure) in
      rw (behind, drop-append-add labels (rows_of N source departures) (k * N.junctions)) (row_is departures k (omega arith))

  pub rows_snoc : (departures : List ℕ) (departure : ℕ) → rows_of N source (departures ++ (departure ∷ [])) ≡ rows_of N source departures ++ labels_of (net_of N) source departure
  unfolding rows_of
  rows_snoc [] departure = append-nil (labels_of (net_of N) source departure)
  rows_snoc (first ∷ departures) departure =
      let here = labels_of (net_of N) source first in
      ap (λ behind. here ++ behind) (rows_snoc departures departure) ∙ sym (append_assoc here (rows_of N source departures) (labels_of (net_of N) source departure))

  -- ---- A column

  map_cond : (f : ℕ → ℕ) (b : Bool) (x : ℕ) (xs : List ℕ) → map f (cond b xs (x ∷ xs)) ≡ cond b (map f xs) (f x ∷ map f xs)
  map_cond f true x xs = refl
  map_cond f false x xs = refl

  module _ (j : ℕ) (inside : j < N.junctions) where
    pub row_entry : (departures : List ℕ) (k : ℕ) → k < length departures →
        get_or (rows_of N source departures) (k * N.junctions + j) 0 ≡ label N source (get_or departures k 0) j
    unfolding rows_of
    row_entry [] k h = absurd (omega arith)
    row_entry (departure ∷ departures) zero h =
        let labels = labels_of (net_of N) source departure in
        let here : j < length labels = omega (arith, labels_long departure) in
        let first : 0 * N.junctions + j ≡ j = omega arith in
        rw first (get_or-append labels (rows_of N source departures) 0 j here ∙ get_or-inside labels j 0 never here)
    row_entry (departure ∷ departures) (suc k) h =
        let labels = labels_of (net_of N) source departure in
        let behind : suc k * N.junctions + j ≡ length labels + (k * N.junctions + j) = omega (arith, labels_long departure) in
        rw behind (get_or-append-add labels (rows_of N source departures) (k * N.junctions + j) 0 ∙ row_entry departures k (omega arith))

    column_from : (before departures : List ℕ) → column_ticks (before ++ rows_of N source departures) N.junctions (length before + j) departures ≡ journeys N source j departures
    unfolding column_ticks rows_of reaching
    column_from before [] = refl
    column_from before (departure ∷ departures) =
        let labels = labels_of (net_of N) source departure in
        let rest = rows_of N source departures in
        let has_label : j < length labels = omega (arith, labels_long departure) in
        let entry : get_or (before ++ (labels ++ rest)) (length before + j) 0 ≡ label N source departure j =
        get_or-append-add before (labels ++ rest) j 0 ∙ get_or-append labels rest 0 j has_label ∙ get_or-inside labels j 0 never has_label in
        let next : length before + j + N.junctions ≡ length (before ++ labels) + j = omega (arith, length-append before labels, labels_long departure) in
        let others : column_ticks (before ++ (labels ++ rest)) N.junctions (length before + j + N.junctions) departures ≡ journeys N source j departures =
        rw (next, ← append_assoc before labels rest) (column_from (before ++ labels) departures) in
        rw (entry, others) (sym (map_cond (journey N source j) (eqb (label N source departure j) never) departure (reaching N source j departures)))

    pub column_is : (departures : List ℕ) → column_ticks (rows_of N source departures) N.junctions j departures ≡ journeys N source j departures
    column_is departures = let first : 0 + j ≡ j = omega arith in rw first at (column_from [] departures)

  pub columns_are : (departures : List ℕ) (j k : ℕ) → j + k ≤ N.junctions →
      column_figures_lem (rows_of N source departures) departures N.junctions j k ≡ figures_from N source departures j k
  unfolding column_figures_lem figures_from
  columns_are departures j zero fits = refl
  columns_are departures j (suc k) fits = rw (column_is j (omega arith) departures, columns_are departures (suc j) k (omega arith))

  pub figures_are : (departures : List ℕ) → column_figures_lem (rows_of N source departures) departures N.junctions 0 N.junctions ≡ figures_of N source departures
  unfolding figures_of
  figures_are departures = columns_are departures 0 N.junctions (omega arith)

-- ---- The columns, as their figures ask for them

pub columns_kept : (N : Network) (source : ℕ) (departures : List ℕ) → ShiftTaken N source departures →
    (j : ℕ) → j < N.junctions → ColumnKept (rows_of N source departures) departures N.junctions j
columns_kept N source departures t j inside = record {
  long = rows_long N source departures;
  few = t.at_most;
  inside = inside;
  in_time = λ k h. rw (row_entry N source j inside departures k h) (in_time k h);
}
  where
    in_time : (k : ℕ) → k < length departures →
        let departure = get_or departures k 0 in (label N source departure j ≡ never) ⊎ ((departure ≤ label N source departure j) × (label N source departure j ≤ last))
    in_time k h = elim (eqb_cases (label N source (get_or departures k 0) j) never) [
      | inl unreached ↦ inl unreached.1
      | inr reached ↦
          let departs : get_or departures k 0 ≤ last = omega (arith, t.departures_below k h) in
          let walk = (demand_2 N t.accepted source (get_or departures k 0) t.source_below (t.departures_below k h)).attained j inside reached.1 in
          inr (arrives_from_departure (accepted_sound N t.accepted) walk, arrives_by_last departs walk)
    ]

-- ---- Writing them

-- The buffer starts with the rows of the first k departures. With the next departure's row behind them it starts with those of one more.
module _ (N : Network) (source : ℕ) (departures : List ℕ) (k : ℕ) (labels : List ℕ)
    (rows : take (k * N.junctions) labels ≡ rows_of N source (take k departures)) (long : length labels ≡ length departures * N.junctions) where
  pub rows_go_on : k < length departures → (size : ℕ) (row : List ℕ) → row ≡ labels_of (net_of N) source (get_or departures k 0) →
      take ((k + 1) * N.junctions) (put_mid (k * N.junctions) size labels row) ≡ rows_of N source (take (k + 1) departures)
  rows_go_on more size row is =
      let row_long : length row ≡ N.junctions = ap length is ∙ labels_long N source (get_or departures k 0) in
      let inside : k * N.junctions ≤ length labels = omega (arith, long, mul-le-mul more (le_refl N.junctions)) in
      let next : k + 1 ≡ suc k = omega arith in
      take-put_mid (k * N.junctions) size labels row ((k + 1) * N.junctions) (omega arith) inside
      ∙ rw (rows, is, next, take-suc departures k 0 more) (sym (rows_snoc N source (take k departures) (get_or departures k 0)))

  pub rows_end : k ≡ length departures → labels ≡ rows_of N source departures
  rows_end same =
      let all : length labels ≤ k * N.junctions = rw same (omega (arith, long)) in
      sym (take_all (k * N.junctions) labels all) ∙ rows ∙ rw (same, take-length departures)
