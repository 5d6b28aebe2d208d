-- Every junction stands and every arc keeps exactly where the tables are certified: a predecessor that stands is an arc into its junction, and that arc
-- keeps only if it attains the junction's label.
use Prim.Native.Nat.{ℕ, ◌≤◌, ◌<◌}
use mathlib.Core.Path.{◌≡◌, refl, sym, ap, ◌∙◌}
use mathlib.Core.List.{List}
use mathlib.Core.Bool.{Bool, true, false}
use mathlib.Core.Logic.{◌⊎◌, inl, inr, ⊎_elim, by_cases, ◌↔◌}
use Rattle.std.specs.Prelude.{Decides}
use Rattle.std.proofs.lemmas.Bool.Decides.{same_from_decides, Decides-like}
use native.Mathlib.Decide.{ℕ_discrete, dec_lt}
use native.Mathlib.Omega.{arith}
use lib.ListN.{length, get_or, get_or-eq_default}
use Rattle.model.specs.Ticks.{last, never}
use Rattle.model.specs.Limits.{max_junctions}
use Rattle.model.specs.Intervals.{Beside}
use Rattle.model.specs.Labels.{no_arc, Attains, Certified}
use Rattle.model.specs.Network.{Network, arcs, net_of}
use Rattle.model.specs.SentTables.{tables_right?, Sent}
use Rattle.model.proofs.Certificate.{attaining_by_last}
use Rattle.model.proofs.Networks.{accepted_sound}
use Rattle.model.proofs.SentTables.{right_when_tested, right_when_certified}
use Rattle.dijkstra.specs.Labelable.{Labelable}
use Rattle.closed_arcs.specs.FromLabels.{TimedLabels}
use Rattle.certifying.specs.Code.Certifying.{Stands, at_source, unreached, reached, AllStand, AllKeep}
use Rattle.certifying.proofs.Deciding.{refuted}

module _ {N : Network} {source departure : ℕ} {labels predecessors : List ℕ} (q : Labelable N source departure labels predecessors) where
  abbrev Standing : Type 0
  Standing = AllStand N.heads source departure labels predecessors (length labels)

  abbrev Keeping : Type 0
  Keeping = AllKeep N labels predecessors (arcs N)

  pub sent : Sent (net_of N) source departure labels predecessors
  sent = record {
    sound = accepted_sound N q.taken.accepted;
    source_inside = q.taken.source_below;
    departs = omega (arith, q.taken.departure_below);
    labels_long = q.labels_long;
    predecessors_long = q.predecessors_long;
  }

  -- ---- From the looks to the certificate

  at_source_only : Standing → (get_or labels source never ≡ departure) × (get_or predecessors source no_arc ≡ no_arc)
  at_source_only all = go (all source (omega (arith, q.labels_long, q.taken.source_below)))
    where
      go : Stands N.heads source departure source (get_or labels source never) (get_or predecessors source no_arc) →
          (get_or labels source never ≡ departure) × (get_or predecessors source no_arc ≡ no_arc)
      go (at_source same label mark) = (label, mark)
      go (unreached other label mark) = absurd (other refl)
      go (reached other by_last is_arc into) = absurd (other refl)

  other_certified : Keeping → (j : ℕ) → (j ≡ source → ⊥) → Stands N.heads source departure j (get_or labels j never) (get_or predecessors j no_arc) →
      ((get_or labels j never ≡ never) × (get_or predecessors j no_arc ≡ no_arc)) ⊎ Attains (net_of N) labels j (get_or predecessors j no_arc)
  other_certified keep j other (at_source same label mark) = absurd (other same)
  other_certified keep j other (unreached _ label mark) = inl (label, mark)
  other_certified keep j other (reached _ by_last is_arc into) =
      let is-arc' : get_or predecessors j no_arc < arcs N = omega (arith, is_arc, q.taken.accepted.heads_long) in
      let (_, arrives) = (keep (get_or predecessors j no_arc) is-arc').attains (ap (λ i. get_or predecessors i no_arc) into) in
      inr record { is_arc = is-arc'; into = into; arrives = arrives ∙ ap (λ i. get_or labels i never) into; reached = omega arith }

  looks_certified : Standing → Keeping → Certified (net_of N) source departure labels predecessors
  looks_certified all keep =
      let (source_label, source_mark) = at_source_only all in
      record {
        labels_long = q.labels_long;
        predecessors_long = q.predecessors_long;
        source_label = source_label;
        source_predecessor = source_mark;
        no_lower = λ a is_arc. (keep a is_arc).no_lower;
        others = λ j is_junction other. other_certified keep j other (all j (omega (arith, q.labels_long)));
      }

  -- ---- And back

  module _ (certified : Certified (net_of N) source departure labels predecessors) where
    stands_other : (j : ℕ) → (j ≡ source → ⊥) →
        ((get_or labels j never ≡ never) × (get_or predecessors j no_arc ≡ no_arc)) ⊎ Attains (net_of N) labels j (get_or predecessors j no_arc) →
        Stands N.heads source departure j (get_or labels j never) (get_or predecessors j no_arc)
    stands_other j other (inl (label, mark)) = unreached other label mark
    stands_other j other (inr at) =
        reached other (omega (arith, at.arrives, attaining_by_last sent.sound at)) (omega (arith, at.is_arc, q.taken.accepted.heads_long)) at.into

    certified_stands : Standing
    certified_stands j is_junction =
        by_cases (ℕ_discrete j source)
        (λ same. at_source same (ap (λ i. get_or labels i never) same ∙ certified.source_label) (ap (λ i. get_or predecessors i no_arc) same ∙ certified.source_predecessor))
        (λ other. stands_other j other (certified.others j (omega (arith, q.labels_long)) other))

    -- an arc that is its head's predecessor attains the head's label: no mark is an arc
    keeps_own : (a : ℕ) → a < arcs N → (j : ℕ) → get_or predecessors j no_arc ≡ a → j < N.junctions → Attains (net_of N) labels j a
    keeps_own a is_arc j own is_junction =
        let no_mark_law : (a ≡ no_arc → ⊥) = λ mark. omega (arith, q.taken.accepted.arcs_fit) in
        by_cases (ℕ_discrete j source) (λ same. absurd (no_mark_law (sym own ∙ (ap (λ i. get_or predecessors i no_arc) same ∙ certified.source_predecessor))))
        (λ other. ⊎_elim (λ marks. absurd (no_mark_law (sym own ∙ marks.1))) (λ at. rw own at at) (certified.others j is_junction other))

    certified_keeps : Keeping
    certified_keeps a is_arc = record {
      no_lower = certified.no_lower a is_arc;
      attains = λ own.
          let at = keeps_own a is_arc (get_or N.heads a 0) own (q.taken.accepted.head_below a is_arc) in
          (attaining_by_last sent.sound at, at.arrives);
    }

  -- ---- The test

  right_certified : (tables_right? (net_of N) source departure labels predecessors ≡ true) ↔ Certified (net_of N) source departure labels predecessors
  right_certified =
      let (tested, test) = right_when_tested (net_of N) source departure labels predecessors sent in
      let (to, from) = right_when_certified (net_of N) source departure labels predecessors sent in
      ((λ e. to (tested e)), (λ certified. test (from certified)))

  -- A junction that does not stand is enough for a no.
  pub fallen : (Standing → ⊥) → false ≡ tables_right? (net_of N) source departure labels predecessors
  fallen falls = same_from_decides _ _ (refuted λ certified. falls (certified_stands certified)) right_certified

  -- Where all stand the arcs decide.
  module _ (all : Standing) where
    pub kept_decides : {r : Bool} → Decides r Keeping → r ≡ tables_right? (net_of N) source departure labels predecessors
    kept_decides d = same_from_decides _ _ (Decides-like _ (looks_certified all) certified_keeps d) right_certified

    by_last : (j : ℕ) → (get_or labels j never ≤ last) ⊎ (get_or labels j never ≡ never)
    by_last j = by_cases (dec_lt j (length labels)) (λ inside. go (all j inside)) (λ outside. inr (get_or-eq_default labels never (omega (arith, outside))))
      where
        go : Stands N.heads source departure j (get_or labels j never) (get_or predecessors j no_arc) → (get_or labels j never ≤ last) ⊎ (get_or labels j never ≡ never)
        go (at_source same label mark) = inl (omega (arith, label, q.taken.departure_below))
        go (unreached other label mark) = inr label
        go (reached other in_time is_arc into) = inl in_time

    pub timed : {intervals : List ℕ} → length intervals ≡ max_junctions → Beside N.fences labels intervals → TimedLabels N labels intervals
    timed intervals_long beside = record {
      accepted = q.taken.accepted;
      few_closures = q.taken.closures_kept.at_most;
      labels_long = q.labels_long;
      intervals_long = intervals_long;
      by_last = by_last;
      beside = beside;
    }
