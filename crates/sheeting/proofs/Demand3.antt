-- Demand 3 of the sheet: each row is Labels', so no label is later; and a departure that reaches a junction in the first network, where
-- its label is not never, reaches it in the second, so that it is counted there too.
use Prim.Native.Nat.{ℕ, suc, ◌≤◌, ◌<◌}
use mathlib.Core.Path.{◌≡◌, ◌∙◌}
use mathlib.Core.List.{List, [], ◌∷◌}
use mathlib.Core.Logic.{inl, inr}
use native.Mathlib.Omega.{arith}
use lib.ListN.{length, get_or, length-map}
use Rattle.model.specs.Ticks.{never}
use Rattle.model.specs.Network.{Network, network_for}
use Rattle.model.specs.Demands.{label, GetsBetter}
use Rattle.model.proofs.Demands.{demand_2, labels_no_later}
use Rattle.model.proofs.Tests.{eqb_cases}
use Rattle.model.proofs.Walks.{earliest_at_most_never}
use Rattle.sheeting.specs.Figures.{reaching, journey, figures_of}
use Rattle.sheeting.specs.Rows.{rows_of}
use Rattle.sheeting.specs.Demand3.{SheetNeverLater, Demand3OfSheet}
use Rattle.sheeting.specs.Sheet.{ShiftTaken}
use Rattle.sheeting.proofs.Means.{figure_is}
use Rattle.sheeting.proofs.RowByRow.{row_is}
use Rattle.sheeting.proofs.SheetRules.{answered, shift_taken_for}

-- No fewer are counted where each label is no later.
counts_no_fewer : (A B : Network) (source j : ℕ) (early late : List ℕ) → length early ≡ length late →
    ((k : ℕ) → k < length late → (label B source (get_or early k 0) j ≤ label A source (get_or late k 0) j) × (label A source (get_or late k 0) j ≤ never)) →
    length (reaching A source j late) ≤ length (reaching B source j early)
unfolding reaching
counts_no_fewer A B source j [] [] same no_later = omega arith
counts_no_fewer A B source j [] (d ∷ ds) same no_later = absurd (omega arith)
counts_no_fewer A B source j (d ∷ ds) [] same no_later = absurd (omega arith)
counts_no_fewer A B source j (early ∷ earlies) (late ∷ lates) same no_later =
    let others = counts_no_fewer A B source j earlies lates (omega arith) (λ k h. no_later (suc k) (omega arith)) in
    let first = no_later 0 (omega arith) in
    elim (eqb_cases (label A source late j) never) [
      | inl a ↦ elim (eqb_cases (label B source early j) never) [
        | inl b ↦ rw (a.0, b.0) others
        | inr b ↦ rw (a.0, b.0) (omega (arith, others))
      ]
      | inr a ↦ elim (eqb_cases (label B source early j) never) [
        | inl b ↦ absurd (a.1 (omega (arith, b.1, first.0, first.1)))
        | inr b ↦ rw (a.0, b.0) (omega (arith, others))
      ]
    ]

-- Of a shift that is taken, on the networks as the asker finds them.
module _ (A B : Network) (source : ℕ) (early late : List ℕ) (taken : ShiftTaken A source late) (same : length early ≡ length late)
    (better : (k : ℕ) → k < length late → GetsBetter A B (get_or early k 0) (get_or late k 0)) where
  no_later : (k : ℕ) → k < length late → (j : ℕ) → j < A.junctions → label B source (get_or early k 0) j ≤ label A source (get_or late k 0) j
  no_later k h = labels_no_later (better k h) source taken.source_below (taken.departures_below k h)

  at_most_never : (k : ℕ) → k < length late → (j : ℕ) → j < A.junctions → label A source (get_or late k 0) j ≤ never
  at_most_never k h =
      earliest_at_most_never (omega (arith, taken.departures_below k h)) (demand_2 A taken.accepted source (get_or late k 0) taken.source_below (taken.departures_below k h))

  never_later : SheetNeverLater A B late (rows_of A source late) (figures_of A source late) (rows_of B source early) (figures_of B source early)
  never_later = record {
    rows = λ k j h inside. rw (row_is A source late k h, row_is B source early k (omega (arith, same))) (no_later k h j inside);
    counts = λ j inside.
        let inside' : j < B.junctions = omega (arith, (better 0 taken.some).improves.more_junctions) in
        let first = figure_is A source late j 0 inside (omega arith) ∙ length-map (reaching A source j late) (journey A source j) in
        let second = figure_is B source early j 0 inside' (omega arith) ∙ length-map (reaching B source j early) (journey B source j) in
        rw (first, second) (counts_no_fewer A B source j early late same (λ k h. (no_later k h j inside, at_most_never k h j inside)));
  }

pub demand_3_of_sheet : Demand3OfSheet
demand_3_of_sheet A B asker source early late labels figures labels' figures' same better a b =
    let t = shift_taken_for asker (answered A asker source late labels figures a).1.taken in
    let whole = never_later (network_for A asker) (network_for B asker) source early late t same better in
    rw (a, b) record { rows = whole.rows; counts = whole.counts }
