-- Dijkstra's labelling of a sound net, by steps. `Settling` is what holds between two of them: it holds at the start, it stays as
-- the nearest junction is settled and as each of its arcs offers its arrival, and where nothing is left to settle or to offer
-- the tables are the labels and the predecessors.
use Prim.Native.Nat.{ℕ, ◌≤◌, ◌<◌}
use mathlib.Core.Path.{◌≡◌, refl, sym, ap, subst, ◌∙◌}
use mathlib.Core.Bool.{Bool, true, false}
use mathlib.Core.List.{List}
use mathlib.Core.Logic.{◌⊎◌, inl, inr, ⊎_elim}
use native.Mathlib.Decide.{dec_lt, ℕ_discrete}
use native.Mathlib.Omega.{arith}
use lib.ListN.{length, get_or, set, replicate, length-set, length-replicate, get_or-replicate, get_or-eq_default}
use lib.Seq.{get_or-set_same, get_or-set_other, set-get_or}
use Rattle.model.specs.Ticks.{last, never}
use Rattle.model.specs.Walks.{Net, Sound}
use Rattle.model.specs.Labels.{no_arc, labels_of, predecessors_of, Attains, Certified, Lowest}
use Rattle.model.proofs.Walks.{drive_by_last, drive_never}
use Rattle.model.proofs.OnlyTables.{only_tables}
use Rattle.checking.proofs.Flags.{true_not_false}

-- The settled junctions have labels up to the tick t, and the others from it on. D are the arcs that have offered: their tails are
-- settled, as are those of the predecessors. None of them would lower a label, and none that attains one is numbered below the
-- predecessor.
pub record Settling (N : Net) (source departure t : ℕ) (settled : List Bool) (D : ℕ → Type 0) (labels predecessors : List ℕ) : Type 0 where
  pub labels_long : length labels ≡ N.junctions
  pub predecessors_long : length predecessors ≡ N.junctions
  pub from_departure : departure ≤ t
  pub in_time : t ≤ last
  pub source_label : get_or labels source never ≡ departure
  pub source_predecessor : get_or predecessors source no_arc ≡ no_arc
  pub behind : (k : ℕ) → k < N.junctions → get_or settled k false ≡ true → get_or labels k never ≤ t
  pub ahead : (k : ℕ) → k < N.junctions → get_or settled k false ≡ false → t ≤ get_or labels k never
  -- A junction other than the source is unreached, or its predecessor attains its label.
  pub others : (j : ℕ) → j < N.junctions → (j ≡ source → ⊥) →
      ((get_or labels j never ≡ never) × (get_or predecessors j no_arc ≡ no_arc))
      ⊎ (Attains N labels j (get_or predecessors j no_arc) × (get_or settled (N.tail (get_or predecessors j no_arc)) false ≡ true))
  pub driven : (b : ℕ) → b < N.arcs → D b →
      (get_or settled (N.tail b) false ≡ true) × (get_or labels (N.head b) never ≤ N.drive b (get_or labels (N.tail b) never))
  pub lowest : (j b : ℕ) → j < N.junctions → (j ≡ source → ⊥) → D b → Attains N labels j b → get_or predecessors j no_arc ≤ b

-- ---- Flags and labels

pub by_flag : (flags : List Bool) (k : ℕ) {A : Type 0} → (get_or flags k false ≡ true → A) → (get_or flags k false ≡ false → A) → A
by_flag flags k {A} on off = go (get_or flags k false) refl
  where
    go : (flag : Bool) → get_or flags k false ≡ flag → A
    go true e = on e
    go false e = off e

-- A new label for a junction that is not settled leaves the settled ones' as they are.
pub settled_label_stays : (settled : List Bool) (labels : List ℕ) (h k label : ℕ) → get_or settled h false ≡ false → get_or settled k false ≡ true →
    get_or (set labels h label) k never ≡ get_or labels k never
settled_label_stays settled labels h k label waits done = get_or-set_other labels h k label never (λ e. true_not_false done (rw e waits))

-- Whether an arc attains a junction's label is said by the labels at its two ends.
attains_alike : {N : Net} {labels labels' : List ℕ} {j a : ℕ} → get_or labels' (N.tail a) never ≡ get_or labels (N.tail a) never →
    get_or labels' j never ≡ get_or labels j never → Attains N labels j a → Attains N labels' j a
attains_alike at_tail at_head at = record {
  is_arc = at.is_arc;
  into = at.into;
  arrives = rw (at_tail, at_head) at.arrives;
  reached = rw at_head at.reached;
}

-- ---- The start

-- Only the source is reached. No junction is settled, and so no arc has offered.
pub settling_starts : {N : Net} {source departure : ℕ} {settled : List Bool} {D : ℕ → Type 0} {labels predecessors : List ℕ} →
    source < N.junctions → departure ≤ last →
    labels ≡ set (replicate N.junctions never) source departure → predecessors ≡ replicate N.junctions no_arc →
    ((k : ℕ) → get_or settled k false ≡ false) → ((b : ℕ) → b < N.arcs → D b → get_or settled (N.tail b) false ≡ true) →
    Settling N source departure departure settled D labels predecessors
settling_starts {N} {source} {departure} {settled} {D} inside departs are-first are-none none-settled tails-settled = rw (are-first, are-none) (record {
  labels_long = length-set blank source departure ∙ length-replicate N.junctions never;
  predecessors_long = length-replicate N.junctions no_arc;
  from_departure = omega arith;
  in_time = departs;
  source_label = at_source;
  source_predecessor = get_or-replicate N.junctions source no_arc no_arc inside;
  behind = λ k is_junction done. absurd (true_not_false done (none-settled k));
  ahead = λ k is_junction waits. no_sooner k is_junction (ℕ_discrete k source);
  others = λ j is_junction other. inl (elsewhere j is_junction other, get_or-replicate N.junctions j no_arc no_arc is_junction);
  driven = λ b is_arc offered. absurd (none_offered b is_arc offered);
  lowest = λ j b is_junction other offered at. absurd (none_offered b at.is_arc offered);
})
  where
    blank : List ℕ
    blank = replicate N.junctions never

    at_source : get_or (set blank source departure) source never ≡ departure
    at_source = get_or-set_same blank source departure never (rw length-replicate inside)

    elsewhere : (j : ℕ) → j < N.junctions → (j ≡ source → ⊥) → get_or (set blank source departure) j never ≡ never
    elsewhere j is_junction other = get_or-set_other blank source j departure never other ∙ get_or-replicate N.junctions j never never is_junction

    no_sooner : (k : ℕ) → k < N.junctions → Dec (k ≡ source) → departure ≤ get_or (set blank source departure) k never
    no_sooner k is_junction (yes e) = rw (e, at_source) (omega arith)
    no_sooner k is_junction (no other) = rw (elsewhere k is_junction other) (omega arith)

    none_offered : (b : ℕ) → b < N.arcs → D b → ⊥
    none_offered b is_arc offered = true_not_false (tails-settled b is_arc offered) (none-settled (N.tail b))

module _ {N : Net} {source departure t : ℕ} {settled : List Bool} {D : ℕ → Type 0} {labels predecessors : List ℕ}
    (s : Settling N source departure t settled D labels predecessors) where
  -- ---- Between two steps

  pub labels_at_most_never : (k : ℕ) → get_or labels k never ≤ never
  labels_at_most_never k = go (ℕ_discrete k source) (dec_lt k N.junctions)
    where
      go : Dec (k ≡ source) → Dec (k < N.junctions) → get_or labels k never ≤ never
      go (yes e) inside? = omega (arith, ap (λ (i : ℕ). get_or labels i never) e)
      go (no other) (yes inside) = ⊎_elim (λ unreached. omega arith) (λ at. omega arith) (s.others k inside other)
      go (no other) (no outside) = omega (arith, get_or-eq_default labels never {n = k} (omega arith))

  pub reached_by_last : Sound N → (j : ℕ) → j < N.junctions → get_or labels j never < never → get_or labels j never ≤ last
  reached_by_last sound j is_junction reached = go (ℕ_discrete j source)
    where
      go : Dec (j ≡ source) → get_or labels j never ≤ last
      go (yes e) = omega (arith, ap (λ (i : ℕ). get_or labels i never) e)
      go (no other) =
          ⊎_elim
          (λ unreached. absurd (omega arith))
          (λ at.
          let a = get_or predecessors j no_arc in
          omega (arith, drive_by_last sound a (get_or labels (N.tail a) never) at.0.is_arc λ none. omega arith))
          (s.others j is_junction other)

  -- The arcs that have offered may be taken for fewer.
  pub settling_weakens : {D' : ℕ → Type 0} → ((b : ℕ) → b < N.arcs → D' b → D b) → Settling N source departure t settled D' labels predecessors
  settling_weakens fewer = record {
    labels_long = s.labels_long;
    predecessors_long = s.predecessors_long;
    from_departure = s.from_departure;
    in_time = s.in_time;
    source_label = s.source_label;
    source_predecessor = s.source_predecessor;
    behind = s.behind;
    ahead = s.ahead;
    others = s.others;
    driven = λ b is_arc offered. s.driven b is_arc (fewer b is_arc offered);
    lowest = λ j b is_junction other offered at. s.lowest j b is_junction other (fewer b at.is_arc offered) at;
  }

  -- ---- The nearest junction is settled

  module _ (sound : Sound N) (j : ℕ) (is_junction : j < N.junctions) (has-flag : j < length settled) (unsettled : get_or settled j false ≡ false) where
    pub settle : get_or labels j never < never →
        ((k : ℕ) → k < N.junctions → get_or settled k false ≡ false → get_or labels j never ≤ get_or labels k never) →
        Settling N source departure (get_or labels j never) (set settled j true) D labels predecessors
    settle reached nearest = record {
      labels_long = s.labels_long;
      predecessors_long = s.predecessors_long;
      from_departure = omega (arith, no_sooner);
      in_time = reached_by_last sound j is_junction reached;
      source_label = s.source_label;
      source_predecessor = s.source_predecessor;
      behind = λ k inside done. settled_behind k inside done (ℕ_discrete k j);
      ahead = λ k inside waits. nearest k inside (sym (as_before k (λ e. true_not_false now_settled (rw e at waits))) ∙ waits);
      others = λ i inside other. ⊎_elim inl (λ at. inr (at.0, still_settled (N.tail (get_or predecessors i no_arc)) at.1)) (s.others i inside other);
      driven = λ b is_arc offered. let (done, no_lower) = s.driven b is_arc offered in (still_settled (N.tail b) done, no_lower);
      lowest = s.lowest;
    }
      where
        no_sooner : t ≤ get_or labels j never
        no_sooner = s.ahead j is_junction unsettled

        now_settled : get_or (set settled j true) j false ≡ true
        now_settled = get_or-set_same settled j true false has-flag

        as_before : (k : ℕ) → (k ≡ j → ⊥) → get_or (set settled j true) k false ≡ get_or settled k false
        as_before k other = get_or-set_other settled j k true false other

        still_settled : (k : ℕ) → get_or settled k false ≡ true → get_or (set settled j true) k false ≡ true
        still_settled k done = as_before k (λ e. true_not_false done (rw e unsettled)) ∙ done

        settled_behind : (k : ℕ) → k < N.junctions → get_or (set settled j true) k false ≡ true → Dec (k ≡ j) → get_or labels k never ≤ get_or labels j never
        settled_behind k inside done (yes e) = rw e (omega arith)
        settled_behind k inside done (no other) = omega (arith, s.behind k inside (sym (as_before k other) ∙ done), no_sooner)

  -- ---- An arc a of a junction that is settled at the tick t offers; D' is D with that arc

  module _ (sound : Sound N) (a : ℕ) (is_arc : a < N.arcs) (tail_settled : get_or settled (N.tail a) false ≡ true)
      (tail_label : get_or labels (N.tail a) never ≡ t) {D' : ℕ → Type 0} (more : (b : ℕ) → D' b → D b ⊎ (b ≡ a)) where
    head_inside : N.head a < N.junctions
    head_inside = sound.head_below a is_arc

    takes_time : t < N.drive a t
    takes_time = sound.later a t is_arc (omega arith)

    settled_head_sooner : get_or settled (N.head a) false ≡ true → get_or labels (N.head a) never < N.drive a t
    settled_head_sooner done = omega (arith, takes_time, s.behind (N.head a) head_inside done)

    -- An offer later than the head's label, or as late and by no lower an arc, changes nothing.
    pub offer_keeps : get_or labels (N.head a) never ≤ N.drive a t →
        (N.drive a t ≡ get_or labels (N.head a) never → N.drive a t < never → get_or predecessors (N.head a) no_arc ≤ a) →
        Settling N source departure t settled D' labels predecessors
    offer_keeps no_sooner tied = record {
      labels_long = s.labels_long;
      predecessors_long = s.predecessors_long;
      from_departure = s.from_departure;
      in_time = s.in_time;
      source_label = s.source_label;
      source_predecessor = s.source_predecessor;
      behind = s.behind;
      ahead = s.ahead;
      others = s.others;
      driven = λ b b-arc offered. ⊎_elim (s.driven b b-arc) (λ e. rw e (tail_settled, rw tail_label no_sooner)) (more b offered);
      lowest = λ j b is_junction other offered at.
          ⊎_elim (λ before. s.lowest j b is_junction other before at) (λ e. rw e (no_lower j (rw e at at))) (more b offered);
    }
      where
        no_lower : (j : ℕ) → Attains N labels j a → get_or predecessors j no_arc ≤ a
        no_lower j at =
            let same : N.drive a t ≡ get_or labels j never = cc tail_label in
            rw (← at.into) (tied (rw at.into same) (omega arith))

    pub offer_skips : get_or settled (N.head a) false ≡ true → Settling N source departure t settled D' labels predecessors
    offer_skips done =
        let sooner : get_or labels (N.head a) never < N.drive a t = settled_head_sooner done in
        offer_keeps (omega arith) (λ e. absurd (omega arith))

    -- An offer sooner than the head's label, or as late and by no higher an arc, is taken.
    module _ (unsettled : get_or settled (N.head a) false ≡ false) (arrives : N.drive a t < never)
        (no_later : N.drive a t ≤ get_or labels (N.head a) never)
        (tied : N.drive a t ≡ get_or labels (N.head a) never → a ≤ get_or predecessors (N.head a) no_arc) where
      abbrev taken : List ℕ
      taken = set labels (N.head a) (N.drive a t)

      abbrev arcs : List ℕ
      arcs = set predecessors (N.head a) a

      not_source : source ≡ N.head a → ⊥
      not_source e = omega (arith, takes_time, ap (λ (k : ℕ). get_or labels k never) e)

      at_head : get_or taken (N.head a) never ≡ N.drive a t
      at_head = get_or-set_same labels (N.head a) (N.drive a t) never (omega (arith, head_inside))

      arc_at_head : get_or arcs (N.head a) no_arc ≡ a
      arc_at_head = get_or-set_same predecessors (N.head a) a no_arc (omega (arith, head_inside))

      elsewhere : (k : ℕ) → (k ≡ N.head a → ⊥) → get_or taken k never ≡ get_or labels k never
      elsewhere k not-head = get_or-set_other labels (N.head a) k (N.drive a t) never not-head

      arc_elsewhere : (k : ℕ) → (k ≡ N.head a → ⊥) → get_or arcs k no_arc ≡ get_or predecessors k no_arc
      arc_elsewhere k not-head = get_or-set_other predecessors (N.head a) k a no_arc not-head

      at_settled : (k : ℕ) → get_or settled k false ≡ true → get_or taken k never ≡ get_or labels k never
      at_settled k done = settled_label_stays settled labels (N.head a) k (N.drive a t) unsettled done

      drive_from_tail : N.drive a (get_or taken (N.tail a) never) ≡ N.drive a t
      drive_from_tail = ap (N.drive a) (at_settled (N.tail a) tail_settled ∙ tail_label)

      taken_ahead : (k : ℕ) → k < N.junctions → get_or settled k false ≡ false → Dec (k ≡ N.head a) → t ≤ get_or taken k never
      taken_ahead k is_junction waits (yes e) = rw (e, at_head) (omega (arith, takes_time))
      taken_ahead k is_junction waits (no not-head) = rw (elsewhere k not-head) (s.ahead k is_junction waits)

      taken_no_later : (k : ℕ) → Dec (k ≡ N.head a) → get_or taken k never ≤ get_or labels k never
      taken_no_later k (yes e) = rw (e, at_head) no_later
      taken_no_later k (no not-head) = rw (elsewhere k not-head) (omega arith)

      taken_others : (j : ℕ) → j < N.junctions → (j ≡ source → ⊥) → Dec (j ≡ N.head a) →
          ((get_or taken j never ≡ never) × (get_or arcs j no_arc ≡ no_arc))
          ⊎ (Attains N taken j (get_or arcs j no_arc) × (get_or settled (N.tail (get_or arcs j no_arc)) false ≡ true))
      taken_others j is_junction other (yes e) = rw (e, arc_at_head) (inr (attained, tail_settled))
        where
          attained : Attains N taken (N.head a) a
          attained = record { is_arc = is_arc; into = refl; arrives = drive_from_tail ∙ sym at_head; reached = rw at_head arrives }
      taken_others j is_junction other (no not-head) =
          rw (arc_elsewhere j not-head, elsewhere j not-head)
          (⊎_elim inl
          (λ at. inr (attains_alike (at_settled (N.tail (get_or predecessors j no_arc)) at.1) (elsewhere j not-head) at.0, at.1))
          (s.others j is_junction other))

      taken_driven : (b : ℕ) → b < N.arcs → D b ⊎ (b ≡ a) →
          (get_or settled (N.tail b) false ≡ true) × (get_or taken (N.head b) never ≤ N.drive b (get_or taken (N.tail b) never))
      taken_driven b b-arc (inl before) =
          let (done, no_lower) = s.driven b b-arc before in
          (done, rw (at_settled (N.tail b) done) (omega (arith, taken_no_later (N.head b) (ℕ_discrete (N.head b) (N.head a)))))
      taken_driven b b-arc (inr e) = rw e (tail_settled, omega (arith, at_head, drive_from_tail))

      -- An arc of D that attains the head's new label attained the old one, which is the same, and so is no lower than a.
      no_higher_than_tied : (b : ℕ) → D b → Attains N taken (N.head a) b → a ≤ b
      no_higher_than_tied b before at =
          let (done, no_lower) = s.driven b at.is_arc before in
          let old : N.drive b (get_or labels (N.tail b) never) ≡ N.drive a t = cc (at_settled (N.tail b) done, at_head) in
          let head_label : get_or labels (N.head b) never ≡ get_or labels (N.head a) never = cc in
          let same : N.drive a t ≡ get_or labels (N.head a) never = omega arith in
          omega (
            arith,
            tied same,
            s.lowest (N.head a) b head_inside (λ e. not_source (sym e)) before
                (attains_alike (sym (at_settled (N.tail b) done)) (sym same ∙ sym at_head) at),
          )

      taken_lowest : (j b : ℕ) → j < N.junctions → (j ≡ source → ⊥) → D b ⊎ (b ≡ a) → Dec (j ≡ N.head a) → Attains N taken j b → get_or arcs j no_arc ≤ b
      taken_lowest j b is_junction other (inl before) (yes e) at = rw (e, arc_at_head) (no_higher_than_tied b before (rw e at at))
      taken_lowest j b is_junction other (inl before) (no not-head) at =
          let same_tail = sym (at_settled (N.tail b) (s.driven b at.is_arc before).0) in
          rw (arc_elsewhere j not-head) (s.lowest j b is_junction other before (attains_alike same_tail (sym (elsewhere j not-head)) at))
      taken_lowest j b is_junction other (inr e) (yes f) at = rw (e, f, arc_at_head) (omega arith)
      taken_lowest j b is_junction other (inr e) (no not-head) at = absurd (not-head (sym at.into ∙ ap N.head e))

      offer_takes : Settling N source departure t settled D' taken arcs
      offer_takes = record {
        labels_long = length-set labels (N.head a) (N.drive a t) ∙ s.labels_long;
        predecessors_long = length-set predecessors (N.head a) a ∙ s.predecessors_long;
        from_departure = s.from_departure;
        in_time = s.in_time;
        source_label = elsewhere source not_source ∙ s.source_label;
        source_predecessor = arc_elsewhere source not_source ∙ s.source_predecessor;
        behind = λ k is_junction done. rw (at_settled k done) (s.behind k is_junction done);
        ahead = λ k is_junction waits. taken_ahead k is_junction waits (ℕ_discrete k (N.head a));
        others = λ j is_junction other. taken_others j is_junction other (ℕ_discrete j (N.head a));
        driven = λ b b-arc offered. taken_driven b b-arc (more b offered);
        lowest = λ j b is_junction other offered. taken_lowest j b is_junction other (more b offered) (ℕ_discrete j (N.head a));
      }

    pub offer_lowers : get_or settled (N.head a) false ≡ false → N.drive a t < get_or labels (N.head a) never →
        Settling N source departure t settled D' (set labels (N.head a) (N.drive a t)) (set predecessors (N.head a) a)
    offer_lowers unsettled sooner =
        offer_takes unsettled (omega (arith, labels_at_most_never (N.head a))) (omega arith) (λ e. absurd (omega arith))

    -- The head is not settled, since its label is the arrival.
    pub offer_ties : N.drive a t ≡ get_or labels (N.head a) never → N.drive a t < never → a < get_or predecessors (N.head a) no_arc →
        Settling N source departure t settled D' labels (set predecessors (N.head a) a)
    offer_ties same arrives lower =
        let unsettled = by_flag settled (N.head a) (λ done. absurd (omega (arith, settled_head_sooner done))) (λ waits. waits) in
        subst (λ (l : List ℕ). Settling N source departure t settled D' l (set predecessors (N.head a) a))
        (ap (set labels (N.head a)) same ∙ set-get_or labels (N.head a) never)
        (offer_takes unsettled arrives (omega arith) (λ e. omega arith))

  -- ---- The end: the junctions that are not settled are unreached, and every arc of the others has offered

  module _ (sound : Sound N) (rest-unreached : (k : ℕ) → k < N.junctions → get_or settled k false ≡ false → never ≤ get_or labels k never)
      (all-driven : (b : ℕ) → b < N.arcs → get_or settled (N.tail b) false ≡ true → D b) where
    driven_or_never : (b : ℕ) → b < N.arcs → D b ⊎ (N.drive b (get_or labels (N.tail b) never) ≡ never)
    driven_or_never b is_arc =
        by_flag settled (N.tail b)
        (λ done. inl (all-driven b is_arc done))
        (λ waits.
        let unreached = rest-unreached (N.tail b) (sound.tail_below b is_arc) waits in
        inr (drive_never sound b (get_or labels (N.tail b) never) is_arc (omega arith)))

    pub settling_certifies : Certified N source departure labels predecessors × Lowest N source labels predecessors
    settling_certifies = (
      record {
        labels_long = s.labels_long;
        predecessors_long = s.predecessors_long;
        source_label = s.source_label;
        source_predecessor = s.source_predecessor;
        no_lower = λ b is_arc.
            ⊎_elim (λ offered. (s.driven b is_arc offered).1) (λ none. omega (arith, labels_at_most_never (N.head b))) (driven_or_never b is_arc);
        others = λ j is_junction other. ⊎_elim inl (λ at. inr at.0) (s.others j is_junction other);
      },
      λ j b is_junction other lower at.
          ⊎_elim
          (λ offered. omega (arith, s.lowest j b is_junction other offered at))
          (λ none. omega arith)
          (driven_or_never b at.is_arc),
    )

    pub settling_ends : source < N.junctions → (labels ≡ labels_of N source departure) × (predecessors ≡ predecessors_of N source departure)
    settling_ends inside = (only_tables N sound source departure inside (omega arith) labels predecessors).0 settling_certifies
