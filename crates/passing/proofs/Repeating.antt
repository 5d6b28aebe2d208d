-- The passes one after the other: so far each has changed a label, and so there are no more of them than junctions; the one that changes none is the
-- first, and leaves the labels.
use Prim.Native.Nat.{ℕ, suc, ◌+◌, ◌-◌, ◌≤◌, ◌<◌}
use mathlib.Core.Path.{◌≡◌, refl, sym, ap, ◌∙◌}
use mathlib.Core.Bool.{true, false}
use mathlib.Core.List.{List}
use mathlib.Core.Logic.{inl, inr, ⊎_elim, by_cases}
use native.Mathlib.Decide.{ℕ_discrete, dec_lt}
use native.Mathlib.Omega.{arith}
use lib.ListN.{get_or, set, replicate, length-set, length-replicate}
use Rattle.model.specs.Ticks.{never}
use Rattle.model.specs.Intervals.{interval_of_lem}
use Rattle.model.specs.Labels.{within, labels_of}
use Rattle.model.specs.Network.{Network, net_of}
use Rattle.model.specs.Passes.{pass, after_passes, passes_of, Unchanged, IsFirstUnchanged}
use Rattle.model.proofs.Beside.{beside_first}
use Rattle.model.proofs.Within.{within_length, first_entry}
use Rattle.checking.specs.Question.{Taken}
use Rattle.closed_arcs.specs.FromLabels.{TimedLabels}
use Rattle.passing.specs.Code.Passing.{Tells, lowered, same, LabelsBecome}
use Rattle.passing.proofs.Taken.{departs, first_unchanged_law, number_bounds, leaves_labels}

-- The pass of this number is the next, and every earlier one has changed a label.
pub record Repeating (N : Network) (source departure number : ℕ) (labels intervals : List ℕ) : Type 0 where
  pub from_1 : 1 ≤ number
  pub labels_are : labels ≡ after_passes (net_of N) source departure (number - 1)
  pub earlier_change : (m : ℕ) → 1 ≤ m → m < number → Unchanged (net_of N) source departure m → ⊥
  pub timed : TimedLabels N labels intervals

module _ {N : Network} {source departure : ℕ} (q : Taken N source departure) where
  pub repeating_starts : {labels intervals : List ℕ} {interval : ℕ} → labels ≡ set (replicate N.junctions never) source departure →
      interval ≡ interval_of_lem N.fences departure → intervals ≡ set (replicate 200 0) source interval → Repeating N source departure 1 labels intervals
  unfolding after_passes within
  repeating_starts {interval = interval} labels_are in_interval intervals_are = record {
    from_1 = omega arith;
    labels_are = labels_are;
    earlier_change = λ m from before. absurd (omega arith);
    timed = rw (labels_are, intervals_are) (record {
      accepted = q.accepted;
      few_closures = q.closures_kept.at_most;
      labels_long = within_length (net_of N) source departure 0;
      intervals_long = length-set (replicate 200 0) source interval ∙ length-replicate {A = ℕ} 200 0;
      by_last = λ j. ⊎_elim inr (λ (_, is). inl (omega (arith, is, departs q))) (first_entry (net_of N) source departure j);
      beside = beside_first N.fences N.junctions 200 source departure interval q.source_below
          (omega (arith, q.source_below, q.accepted.junctions_fit)) in_interval;
    });
  }

  module _ {number : ℕ} {labels intervals : List ℕ} (r : Repeating N source departure number labels intervals) where
    -- The first pass that changes none is not an earlier one, and its number is at most the junction count.
    pub at_most_junctions : number ≤ N.junctions
    at_most_junctions =
        let n = passes_of (net_of N) source departure in
        let first = (first_unchanged_law q n).0 refl in
        let few = (number_bounds q).1 in
        by_cases (dec_lt n number) (λ less. absurd (r.earlier_change n first.from_1 less first.unchanged)) (λ no. omega arith)

    module _ {labels' : List ℕ} where
      pass_made : labels' ≡ pass (net_of N) labels → labels' ≡ after_passes (net_of N) source departure number
      unfolding after_passes
      pass_made is =
          let one_more : suc (number - 1) ≡ number = omega (arith, r.from_1) in
          is ∙ ap (pass (net_of N)) r.labels_are ∙ ap (after_passes (net_of N) source departure) one_more

      pub goes_on : {intervals' : List ℕ} → LabelsBecome N labels (pass (net_of N) labels) labels' intervals' true → Repeating N source departure (number + 1) labels' intervals'
      goes_on made =
          let next : number + 1 - 1 ≡ number = omega arith in
          record {
            from_1 = omega arith;
            labels_are = rw next (pass_made made.labels_are);
            earlier_change = λ m from before unchanged.
                by_cases (ℕ_discrete m number) (λ e. differs made.tells (rw e at unchanged)) (λ other. r.earlier_change m from (omega arith) unchanged);
            timed = made.timed;
          }
        where
          differs : Tells labels labels' true → Unchanged (net_of N) source departure number → ⊥
          differs (lowered j less) unchanged =
              let stays : labels' ≡ labels = made.labels_are ∙ ap (pass (net_of N)) r.labels_are ∙ unchanged ∙ sym r.labels_are in
              omega (arith, ap (λ table. get_or table j never) stays)

      pub ends : {intervals' : List ℕ} → LabelsBecome N labels (pass (net_of N) labels) labels' intervals' false →
          (number ≡ passes_of (net_of N) source departure) × (labels' ≡ labels_of (net_of N) source departure)
      ends made =
          let number_is : number ≡ passes_of (net_of N) source departure = (first_unchanged_law q number).1 first in (
            number_is,
            pass_made made.labels_are ∙ ap (after_passes (net_of N) source departure) number_is
                ∙ leaves_labels q,
          )
        where
          unchanged : Tells labels labels' false → Unchanged (net_of N) source departure number
          unchanged (same is) = rw (← r.labels_are) (sym made.labels_are ∙ is)

          first : IsFirstUnchanged (net_of N) source departure number
          first = record { from_1 = r.from_1; unchanged = unchanged made.tells; earlier_change = r.earlier_change }
