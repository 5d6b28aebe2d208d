-- Which arcs attain their head's label, and the predecessors, arc by arc: of the arcs so far each junction has the lowest_numbered that attains its
-- label. After the last arc that is the table of predecessors.
use Prim.Native.Nat.{ℕ, ◌+◌, ◌<◌}
use mathlib.Core.Path.{◌≡◌, refl, sym, ap, ◌∙◌}
use mathlib.Core.Bool.{Bool, true, false, not, ◌&&◌, true≢false, and-eq-true_iff}
use mathlib.Core.List.{List}
use mathlib.Core.Logic.{◌↔◌, ◌⊎◌, inl, inr, ⊎_elim, by_cases}
use Rattle.std.specs.Prelude.{Option, None, Some}
use native.Mathlib.Decide.{ℕ_discrete}
use native.Mathlib.Omega.{arith}
use lib.Dec.{eqb}
use lib.ListN.{length, get_or, set, replicate, length-set, length-replicate}
use lib.Seq.{get_or-set_same, get_or-set_other}
use borrow.Author.Tests.{eqb-true, eq-eqb, ne_eqb}
use Rattle.model.specs.Ticks.{never}
use Rattle.model.specs.Labels.{no_arc, Attains, Certified, Lowest, labels_of, predecessors_of}
use Rattle.model.specs.Network.{Network, arcs, net_of}
use Rattle.model.specs.Walks.{Net}
use Rattle.model.proofs.Entries.{get_or-inside, get_or-all}
use Rattle.model.proofs.Certificate.{attaining_sooner}
use Rattle.model.proofs.Least.{labels_attained}
use Rattle.model.proofs.OnlyTables.{only_tables, labels_certified}
use Rattle.model.proofs.Walks.{arrives_from_departure}
use Rattle.checking.specs.Question.{Taken}
use Rattle.closed_arcs.specs.FromLabels.{TimedLabels, OnArc, arrives}
use Rattle.passing.specs.Code.Passing.{tick_of, UpToDate, AllUpToDate, LowestOf, has_no_arc, lowest, LowestAttaining}
use Rattle.closed_arcs.proofs.FromLabels.{head_label}
use Rattle.passing.proofs.Lowering.{none_arrived}
use Rattle.passing.proofs.Taken.{sound, departs}

module _ {N : Network} {labels intervals' : List ℕ} (p : TimedLabels N labels intervals') {a : ℕ} (is_arc : a < arcs N) where
  abbrev head : ℕ
  head = get_or N.heads a 0

  -- The tick that is noted is the head's label, and that is reached, exactly where the arc attains it.
  attains_up_to_date : {arrivals : List ℕ} → UpToDate N labels arrivals a →
      ((not (eqb (get_or arrivals a 0) never) && eqb (get_or arrivals a 0) (get_or labels head 0)) ≡ true) ↔ Attains (net_of N) labels head a
  attains_up_to_date noted = rw noted.tick_is (go noted.arrived noted.on_arc)
    where
      go : (arrived : Option (ℕ × ℕ)) → OnArc N labels a arrived →
          ((not (eqb (tick_of arrived) never) && eqb (tick_of arrived) (get_or labels head 0)) ≡ true) ↔ Attains (net_of N) labels head a
      go (Some (tick, interval)) (arrives is by in_interval) = (
        λ test.
            let same = eqb-true tick (get_or labels head 0) ((and-eq-true_iff (not (eqb tick never)) (eqb tick (get_or labels head 0))).0 test).1 in
            record { is_arc = is_arc; into = refl; arrives = sym is ∙ same ∙ head_label p is_arc; reached = omega (arith, head_label p is_arc, by) },
        λ at. rw (eq-eqb tick (get_or labels head 0) (is ∙ at.arrives ∙ sym (head_label p is_arc)), ne_eqb tick never (λ e. omega arith)),
      )
      go None on = (
        λ test. absurd (true≢false (sym test)),
        λ at. absurd (⊎_elim (λ late. omega (arith, at.arrives)) (λ none-driven. omega (arith, at.arrives, at.reached)) (none_arrived p is_arc on)),
      )

-- ---- The predecessors, arc by arc

module _ {N : Net} {labels : List ℕ} {k j : ℕ} where
  -- The next arc is none for a junction, unless it attains its label and the junction has no arc yet.
  stays : {x : ℕ} → (Attains N labels j k → x ≡ no_arc → ⊥) → LowestOf N labels k j x → LowestOf N labels (k + 1) j x
  stays next (has_no_arc others) = has_no_arc (λ a h at. by_cases (ℕ_discrete a k) (λ e. next (rw e at at) refl) (λ other. others a (omega arith) at))
  stays next (lowest a less at lower) = lowest a (omega arith) at lower

  takes : {x : ℕ} → k < no_arc → x ≡ no_arc → LowestOf N labels k j x → Attains N labels j k → LowestOf N labels (k + 1) j k
  takes few e (has_no_arc others) attained = lowest k (omega arith) attained others
  takes few e (lowest a less at lower) attained = absurd (omega arith)

pub none_yet : (N : Net) (labels predecessors : List ℕ) → predecessors ≡ replicate N.junctions no_arc → LowestAttaining N labels 0 predecessors
none_yet N labels predecessors cleared = record {
  long = ap length cleared ∙ length-replicate N.junctions no_arc;
  each = λ j is_junction. rw (cleared, get_or-all N.junctions no_arc j) (has_no_arc (λ a h. absurd (omega arith)));
}

module _ {N : Net} {labels : List ℕ} (k : ℕ) {predecessors : List ℕ} (so_far : LowestAttaining N labels k predecessors) where
  -- The head has its predecessor, or the arc does not attain its label.
  stays_all : (Attains N labels (N.head k) k → get_or predecessors (N.head k) no_arc ≡ no_arc → ⊥) → LowestAttaining N labels (k + 1) predecessors
  stays_all next = record {
    long = so_far.long;
    each = λ j is_junction. stays (λ at missing. next (rw at.into at) (rw at.into missing)) (so_far.each j is_junction);
  }

  -- The head has none yet and gets this arc.
  takes_head : k < no_arc → N.head k < N.junctions → get_or predecessors (N.head k) no_arc ≡ no_arc → Attains N labels (N.head k) k →
      LowestAttaining N labels (k + 1) (set predecessors (N.head k) k)
  takes_head few is-head missing attained = record {
    long = length-set predecessors (N.head k) k ∙ so_far.long;
    each = λ j is_junction.
        by_cases (ℕ_discrete j (N.head k))
        (λ e. rw (e, get_or-set_same predecessors (N.head k) k no_arc (omega (arith, so_far.long))) (takes few missing (so_far.each (N.head k) is-head) attained))
        (λ other. rw (get_or-set_other predecessors (N.head k) j k no_arc other) (stays (λ at _. other (sym at.into)) (so_far.each j is_junction)));
  }

-- The next arc by its note. The network is any with these heads.
module _ {N : Network} {labels intervals' arrivals heads : List ℕ} (p : TimedLabels N labels intervals') (is : N.heads ≡ heads) (up-to-date : AllUpToDate N labels arrivals (length heads))
    (k : ℕ) (inside : k < length heads) {predecessors : List ℕ} (so_far : LowestAttaining (net_of N) labels k predecessors) where
  is_arc : k < arcs N
  is_arc = omega (arith, ap length is, p.accepted.heads_long)

  abbrev test : List ℕ → Bool
  test table = not (eqb (get_or arrivals k 0) never) && eqb (get_or arrivals k 0) (get_or labels (get_or table k 0) 0)

  entry : get_or predecessors (get_or N.heads k 0) no_arc ≡ get_or predecessors (get_or N.heads k 0) 0
  entry = get_or-inside predecessors (get_or N.heads k 0) no_arc 0 (omega (arith, so_far.long, p.accepted.head_below k is_arc))

  next_taken : get_or predecessors (get_or heads k 0) 0 ≡ no_arc → test heads ≡ true → LowestAttaining (net_of N) labels (k + 1) (set predecessors (get_or heads k 0) k)
  next_taken missing attained =
      rw (← is)
      (takes_head k so_far (omega (arith, p.accepted.arcs_fit, is_arc)) (p.accepted.head_below k is_arc) (entry ∙ (rw (← is) at missing))
      ((attains_up_to_date p is_arc (up-to-date k inside)).0 (rw (← is) at attained)))

  next_missed : test heads ≡ false → LowestAttaining (net_of N) labels (k + 1) predecessors
  next_missed fails = stays_all k so_far (λ at _. true≢false (sym ((attains_up_to_date p is_arc (up-to-date k inside)).1 at) ∙ (rw (← is) at fails)))

  next_has : (get_or predecessors (get_or heads k 0) 0 ≡ no_arc → ⊥) → LowestAttaining (net_of N) labels (k + 1) predecessors
  next_has has = stays_all k so_far (λ _ missing. (rw (← is) at has) (sym entry ∙ missing))

-- ---- One arc

-- The predecessors after arc k: it is put at its head where that has none yet and the arc attains its label, and else nothing changes.
module _ (labels arrivals heads predecessors : List ℕ) (k : ℕ) where
  abbrev pub attaining : Bool
  attaining = not (eqb (get_or arrivals k 0) never) && eqb (get_or arrivals k 0) (get_or labels (get_or heads k 0) 0)

  abbrev pub has_none : Type 0
  has_none = get_or predecessors (get_or heads k 0) 0 ≡ no_arc

pub record Goes (labels arrivals heads predecessors : List ℕ) (k : ℕ) (after : List ℕ) : Type 0 where
  pub taken : has_none labels arrivals heads predecessors k → attaining labels arrivals heads predecessors k ≡ true → after ≡ set predecessors (get_or heads k 0) k
  pub missed : has_none labels arrivals heads predecessors k → attaining labels arrivals heads predecessors k ≡ false → after ≡ predecessors
  pub has : (has_none labels arrivals heads predecessors k → ⊥) → after ≡ predecessors

module _ {N : Network} {labels intervals' arrivals heads : List ℕ} (p : TimedLabels N labels intervals') (is : N.heads ≡ heads) (up-to-date : AllUpToDate N labels arrivals (length heads))
    (k : ℕ) (inside : k < length heads) {predecessors : List ℕ} (so_far : LowestAttaining (net_of N) labels k predecessors) where
  pub next_goes : {after : List ℕ} → Goes labels arrivals heads predecessors k after → LowestAttaining (net_of N) labels (k + 1) after
  next_goes {after} g =
      by_cases (ℕ_discrete (get_or predecessors (get_or heads k 0) 0) no_arc)
      (λ missing. go (attaining labels arrivals heads predecessors k) refl missing)
      (λ present. rw (g.has present) (next_has p is up-to-date k inside so_far present))
    where
      go : (b : Bool) → attaining labels arrivals heads predecessors k ≡ b → has_none labels arrivals heads predecessors k → LowestAttaining (net_of N) labels (k + 1) after
      go true e missing = rw (g.taken missing e) (next_taken p is up-to-date k inside so_far missing e)
      go false e missing = rw (g.missed missing e) (next_missed p is up-to-date k inside so_far e)

-- ---- All arcs

module _ {N : Network} {source departure : ℕ} (q : Taken N source departure) {labels predecessors : List ℕ} where
  pub are_predecessors : labels ≡ labels_of (net_of N) source departure → LowestAttaining (net_of N) labels (arcs N) predecessors →
      predecessors ≡ predecessors_of (net_of N) source departure
  are_predecessors labels_are all = ((only_tables (net_of N) (sound q) source departure q.source_below (departs q) labels predecessors).0 (certified, lowest_numbered)).1
    where
      known : Certified (net_of N) source departure labels (predecessors_of (net_of N) source departure)
      known = rw labels_are (labels_certified (net_of N) (sound q) source departure q.source_below (departs q))

      -- The source's label is the departure, and no label is earlier.
      at_source : {x : ℕ} → LowestOf (net_of N) labels (arcs N) source x → x ≡ no_arc
      at_source (has_no_arc others) = refl
      at_source (lowest a less at lower) =
          let tail = get_or N.tails a 0 in
          let sooner : get_or labels tail never < departure = omega (arith, attaining_sooner (sound q) at, known.source_label) in
          let same = ap (λ table. get_or table tail never) labels_are in
          let reached = labels_attained (net_of N) source departure (sound q) tail (λ unreached. omega arith) in
          absurd (omega (arith, arrives_from_departure (sound q) reached))

      at_other : {j p x : ℕ} → ((get_or labels j never ≡ never) × (p ≡ no_arc)) ⊎ Attains (net_of N) labels j p → LowestOf (net_of N) labels (arcs N) j x →
          ((get_or labels j never ≡ never) × (x ≡ no_arc)) ⊎ Attains (net_of N) labels j x
      at_other (inl unreached) (has_no_arc others) = inl (unreached.0, refl)
      at_other {p = p} (inr at) (has_no_arc others) = absurd (others p at.is_arc at)
      at_other known-one (lowest a less at lower) = inr at

      certified : Certified (net_of N) source departure labels predecessors
      certified = record {
        labels_long = known.labels_long;
        predecessors_long = all.long;
        source_label = known.source_label;
        source_predecessor = at_source (all.each source q.source_below);
        no_lower = known.no_lower;
        others = λ j is_junction other. at_other (known.others j is_junction other) (all.each j is_junction);
      }

      none_lower : {j a x : ℕ} → a < x → Attains (net_of N) labels j a → LowestOf (net_of N) labels (arcs N) j x → ⊥
      none_lower {a = a} less at (has_no_arc others) = others a at.is_arc at
      none_lower {a = a} less at (lowest b _ _ lower) = lower a less at

      lowest_numbered : Lowest (net_of N) source labels predecessors
      lowest_numbered j a is_junction other lower at = none_lower lower at (all.each j is_junction)
