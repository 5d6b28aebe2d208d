-- An arc that is left at its tail's label: where its indices lie, and what driving it comes to.
use Prim.Native.Nat.{ℕ, ◌*◌, ◌≤◌, ◌<◌}
use mathlib.Core.Path.{◌≡◌, sym, ap, ◌∙◌}
use mathlib.Core.List.{List}
use mathlib.Core.Logic.{⊎_elim}
use Rattle.std.specs.Prelude.{Option, None, Some}
use native.Mathlib.Nat.{mul-le-mul}
use native.Mathlib.Omega.{arith}
use lib.ListN.{length, get_or}
use Rattle.model.specs.Ticks.{last, never}
use Rattle.model.specs.Limits.{max_junctions, max_arcs, max_intervals}
use Rattle.model.specs.Intervals.{interval_of_lem, tick_and_interval?}
use Rattle.model.specs.Network.{Network, arcs, intervals, roads_of, speeds_of, drive_of}
use Rattle.model.proofs.Entries.{get_or-inside}
use Rattle.model.proofs.Networks.{accepted_sound, drive_by_last}
use Rattle.model.proofs.Walks.{drive_never}
use Rattle.model.proofs.WithInterval.{arrived_at_law, arrived_never}
use Rattle.driving.specs.ArcKept.{ArcKept}
use Rattle.closed_arcs.specs.Arcs.{HasArc, ArrivesOn}
use Rattle.closed_arcs.specs.FromLabels.{TimedLabels, OnArc, arrives, too_late, not_driven}
use Rattle.closed_arcs.proofs.Arcs.{arc_inside, arc_kept}

-- Where an arc's entries lie.
pub record Placed (N : Network) (labels : List ℕ) (a : ℕ) : Type 0 where
  pub has_arc : HasArc (roads_of N) a
  pub has_head : a < length N.heads
  pub few_speeds : length N.speeds ≤ max_arcs * max_intervals
  pub few_junctions : length labels ≤ max_junctions
  pub tail_inside : get_or N.tails a 0 < length labels
  pub head_inside : get_or N.heads a 0 < length labels

module _ {N : Network} {labels intervals' : List ℕ} (p : TimedLabels N labels intervals') {a : ℕ} (is_arc : a < arcs N) where
  pub placed : Placed N labels a
  placed =
      let accepted = p.accepted in
      let inside = arc_inside a (intervals N) (arcs N) is_arc in
      let most = mul-le-mul accepted.arcs_fit accepted.intervals_fit in
      record {
        has_arc = record {
          few_arcs = omega (arith, accepted.arcs_fit);
          few_intervals = accepted.intervals_fit;
          has_length = omega (arith, accepted.lengths_long);
          has_hold = omega (arith, accepted.holds_long);
          has_speeds = omega (arith, accepted.speeds_long);
        };
        has_head = omega (arith, accepted.heads_long);
        few_speeds = omega (arith, accepted.speeds_long);
        few_junctions = omega (arith, p.labels_long, accepted.junctions_fit);
        tail_inside = omega (arith, p.labels_long, accepted.tail_below a is_arc);
        head_inside = omega (arith, p.labels_long, accepted.head_below a is_arc);
      }

  abbrev tail : ℕ
  tail = get_or N.tails a 0

  abbrev head : ℕ
  head = get_or N.heads a 0

  pub at_most_never : (j : ℕ) → get_or labels j never ≤ never
  at_most_never j = ⊎_elim (λ by. omega arith) (λ unreached. omega arith) (p.by_last j)

  pub tail_label : get_or labels tail 0 ≡ get_or labels tail never
  tail_label = get_or-inside labels tail 0 never placed.tail_inside

  pub head_label : get_or labels head 0 ≡ get_or labels head never
  head_label = get_or-inside labels head 0 never placed.head_inside

  -- A head whose label is no later than the tail's.
  pub none_lowered : get_or labels head 0 ≤ get_or labels tail 0 → OnArc N labels a None
  none_lowered no_later =
      let sound = accepted_sound N p.accepted in
      ⊎_elim
      (λ reached. too_late (omega (arith, head_label, tail_label, sound.later a (get_or labels tail never) is_arc (omega arith))))
      (λ unreached. not_driven (drive_never sound a (get_or labels tail never) is_arc (omega arith)))
      (p.by_last tail)

  -- An arc that is left before its head's label is driven from the label with its interval.
  pub tail_kept : get_or labels tail 0 < get_or labels head 0 →
      ArcKept (get_or labels tail 0) (get_or intervals' tail 0) (get_or N.lengths a 0) N.fences (speeds_of N a)
  tail_kept sooner =
      let by_last : get_or labels tail never ≤ last = ⊎_elim (λ by. by) (λ unreached. absurd (omega (arith, tail_label, head_label, at_most_never head))) (p.by_last tail) in
      let in_interval = p.beside tail placed.tail_inside (omega (arith, by_last)) in
      arc_kept N p.accepted (get_or labels tail 0) (get_or intervals' tail 0) a (omega (arith, tail_label)) (in_interval ∙ ap (interval_of_lem N.fences) (sym tail_label)) is_arc

  on_arc : (arrived : Option (ℕ × ℕ)) → arrived ≡ tick_and_interval? N.fences (drive_of (roads_of N) a (get_or labels tail 0)) → OnArc N labels a arrived
  on_arc (Some (tick, interval)) is =
      let (same, in_interval, by_last) = arrived_at_law N.fences tick interval _ is in
      arrives (same ∙ ap (drive_of (roads_of N) a) tail_label) (omega arith) (in_interval ∙ ap (interval_of_lem N.fences) (sym same))
  on_arc None is =
      not_driven (ap (drive_of (roads_of N) a) (sym tail_label) ∙ arrived_never N.fences _ (drive_by_last (roads_of N) a (get_or labels tail 0)) is)

  -- What driving it from there comes to: one that is left before its head's label.
  pub on_driven_arc : get_or labels tail 0 < get_or labels head 0 → {arrived : Option (ℕ × ℕ)} →
      ArrivesOn (roads_of N) a (get_or labels tail 0) (get_or intervals' tail 0) arrived → OnArc N labels a arrived
  on_driven_arc sooner driven = on_arc _ (driven p.few_closures (tail_kept sooner))
