-- An arc lowers its head's label, or leaves all labels; a pass is its arcs one after the other.
use Prim.Native.Nat.{ℕ, suc, ◌+◌, ◌≤◌, ◌<◌}
use mathlib.Core.Path.{◌≡◌, refl, sym, ap, ◌∙◌}
use mathlib.Core.Bool.{Bool, true, false}
use mathlib.Core.List.{List}
use mathlib.Core.Logic.{◌⊎◌, inl, inr, ⊎_elim, by_cases}
use Rattle.std.specs.Prelude.{None, Some}
use native.Mathlib.Decide.{ℕ_discrete}
use native.Mathlib.Nat.{min-eq_left, min-eq_right}
use native.Mathlib.Omega.{arith}
use lib.ListN.{length, get_or, set, length-set}
use lib.Seq.{get_or-set_same, get_or-set_other, set-get_or}
use Rattle.model.specs.Ticks.{never}
use Rattle.model.specs.Intervals.{time_of_day_lem, interval_of_lem}
use Rattle.model.specs.Labels.{offer}
use Rattle.model.specs.Passes.{pass_over}
use Rattle.model.specs.Network.{Network, arcs, intervals, net_of}
use Rattle.model.proofs.Beside.{beside_set}
use Rattle.model.proofs.Networks.{accepted_sound}
use Rattle.model.proofs.Passed.{passed_at_most}
use Rattle.model.proofs.Passes.{over_no_rise}
use Rattle.closed_arcs.specs.FromLabels.{TimedLabels, offered, OnArc, arrives, too_late, not_driven}
use Rattle.passing.specs.Code.Passing.{Tells, lowered, same, LabelsBecome}
use Rattle.closed_arcs.proofs.FromLabels.{placed, at_most_never, head_label}

module _ {N : Network} {labels intervals' : List ℕ} (p : TimedLabels N labels intervals') {a : ℕ} (is_arc : a < arcs N) where
  abbrev head : ℕ
  head = get_or N.heads a 0

  -- ---- What driving the arc tells

  pub in_plan : {tick interval : ℕ} → OnArc N labels a (Some (tick, interval)) → interval < 96
  unfolding interval_of_lem
  in_plan {tick} (arrives is by in_interval) =
      omega (arith, in_interval, passed_at_most N.fences (time_of_day_lem tick), (placed p is_arc).has_arc.few_intervals)

  pub none_arrived : OnArc N labels a None → (get_or labels head never < offered N labels a) ⊎ (offered N labels a ≡ never)
  none_arrived (too_late late) = inl late
  none_arrived (not_driven none-driven) = inr none-driven

  pub arrival_is : {tick interval : ℕ} → OnArc N labels a (Some (tick, interval)) → tick ≡ offered N labels a
  arrival_is (arrives is by in_interval) = is

  -- No arrival is earlier than the head's label.
  pub no_sooner : {tick interval : ℕ} → OnArc N labels a (Some (tick, interval)) → get_or labels head 0 ≤ tick → get_or labels head never ≤ offered N labels a
  no_sooner (arrives is by in_interval) no_lower = omega (arith, head_label p is_arc, is)

  pub none_sooner : OnArc N labels a None → get_or labels head never ≤ offered N labels a
  none_sooner on = ⊎_elim (λ late. omega arith) (λ none-driven. omega (arith, at_most_never p is_arc head)) (none_arrived on)

  -- ---- What the arc leaves

  pub lowers : {tick interval : ℕ} → OnArc N labels a (Some (tick, interval)) → tick < get_or labels head 0 →
      LabelsBecome N labels (offer (net_of N) labels a labels) (set labels head tick) (set intervals' head interval) true
  unfolding offer
  lowers {tick} {interval} (arrives is by in_interval) sooner =
      let at = placed p is_arc in
      let less : tick < get_or labels head never = omega (arith, head_label p is_arc) in
      let has-interval : head < length intervals' = omega (arith, p.intervals_long, at.head_inside, at.few_junctions) in
      record {
        labels_are = ap (set labels head) (is ∙ sym (min-eq_right (omega arith)));
        timed = record {
          accepted = p.accepted;
          few_closures = p.few_closures;
          labels_long = length-set labels head tick ∙ p.labels_long;
          intervals_long = length-set intervals' head interval ∙ p.intervals_long;
          by_last = λ j.
              by_cases (ℕ_discrete j head)
              (λ e. inl (rw (e, get_or-set_same labels head tick never at.head_inside) by))
              (λ other. rw (get_or-set_other labels head j tick never other) (p.by_last j));
          beside = beside_set N.fences labels intervals' head tick interval at.head_inside has-interval in_interval p.beside;
        };
        tells = lowered head (omega (arith, get_or-set_same labels head tick never at.head_inside));
      }

  pub keeps : get_or labels head never ≤ offered N labels a → LabelsBecome N labels (offer (net_of N) labels a labels) labels intervals' false
  unfolding offer
  keeps no_lower = record {
    labels_are = sym (ap (set labels head) (min-eq_left no_lower) ∙ set-get_or labels head never);
    timed = p;
    tells = same refl;
  }

-- ---- A pass, arc by arc

abbrev pub SoFar : Network → List ℕ → ℕ → List ℕ → List ℕ → Bool → Type 0
SoFar N before a labels intervals changed = LabelsBecome N before (pass_over (net_of N) before a) labels intervals changed

pub pass_starts : {N : Network} {before intervals : List ℕ} → TimedLabels N before intervals → SoFar N before 0 before intervals false
unfolding pass_over
pass_starts p = record { labels_are = refl; timed = p; tells = same refl }

module _ {N : Network} {before labels intervals' : List ℕ} (a : ℕ) {changed : Bool} (so_far : SoFar N before a labels intervals' changed) where
  one_more : {labels' : List ℕ} → labels' ≡ offer (net_of N) labels a labels → labels' ≡ pass_over (net_of N) before (a + 1)
  unfolding pass_over
  one_more is =
      let next : a + 1 ≡ suc a = omega arith in
      rw next (is ∙ ap (λ now. offer (net_of N) now a now) so_far.labels_are)

  -- A label that is lowered now is lower than before the pass, in which no label rises.
  pub pass_lowers : {labels' intervals'' : List ℕ} → LabelsBecome N labels (offer (net_of N) labels a labels) labels' intervals'' true →
      SoFar N before (a + 1) labels' intervals'' true
  pass_lowers {labels'} step = record {
    labels_are = one_more step.labels_are;
    timed = step.timed;
    tells = below step.tells;
  }
    where
      no_rise : (j : ℕ) → get_or labels j never ≤ get_or before j never
      no_rise j = rw so_far.labels_are (over_no_rise (net_of N) (accepted_sound N step.timed.accepted) before a j)

      below : Tells labels labels' true → Tells before labels' true
      below (lowered j less) = lowered j (omega (arith, no_rise j))

  pub pass_keeps : {labels' intervals'' : List ℕ} → LabelsBecome N labels (offer (net_of N) labels a labels) labels' intervals'' false →
      SoFar N before (a + 1) labels' intervals'' changed
  pass_keeps {labels'} step = record {
    labels_are = one_more step.labels_are;
    timed = step.timed;
    tells = stays step.tells;
  }
    where
      stays : Tells labels labels' false → Tells before labels' changed
      stays (same is) = rw is so_far.tells
