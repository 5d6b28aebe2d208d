-- The predecessors: the search for the first arc that attains a label finds the lowest one, and one there is, the last arc of a
-- walk that attains the label. Conversely only one table of predecessors is certified and lowest.
use Prim.Native.Nat.{ℕ, zero, suc, ◌+◌, ◌≤◌, ◌<◌}
use native.Mathlib.Decide.{ℕ_discrete}
use native.Mathlib.Omega.{arith}
use mathlib.Core.Path.{◌≡◌, refl, ◌∙◌, sym, ap}
use mathlib.Core.Bool.{Bool, true, false, ◌||◌, cond, true≢false, and-eq-true_iff}
use mathlib.Core.List.{List}
use mathlib.Core.Logic.{◌⊎◌, inl, inr}
use lib.Dec.{eqb}
use lib.ListN.{length, get_or}
use lib.Seq.{ext_get_or}
use borrow.Author.Tests.{eqb-true, eq-eqb, ne_eqb}
use Rattle.model.specs.Ticks.{last, never}
use Rattle.model.specs.Walks.{Net, Sound, Arrives, start, along, Earliest}
use Rattle.model.specs.Labels.{no_arc, attains, first_attaining, predecessor_of, tabulate, Attains, Certified, Lowest}
use Rattle.model.proofs.Walks.{left_before, arrives_from_departure, earliest_at_most_never}

-- ---- Tables

pub length_tabulate : (f : ℕ → ℕ) (j k : ℕ) → length (tabulate f j k) ≡ k
unfolding tabulate
length_tabulate f j zero = refl
length_tabulate f j (suc k) = ap suc (length_tabulate f (suc j) k)

pub get_d_tabulate : (f : ℕ → ℕ) (j k i d : ℕ) → i < k → get_or (tabulate f j k) i d ≡ f (j + i)
unfolding tabulate
get_d_tabulate f j zero i d h = absurd (omega arith)
get_d_tabulate f j (suc k) zero d h = ap f (omega arith)
get_d_tabulate f j (suc k) (suc i) d h = get_d_tabulate f (suc j) k i d (omega arith) ∙ ap f (omega arith)

-- ---- The first arc that attains a label

module _ (N : Net) (labels : List ℕ) (j : ℕ) where
  pub attains_test : {a : ℕ} → Attains N labels j a → attains N labels j a ≡ true
  unfolding attains
  attains_test {a} at =
      rw (eq-eqb (N.head a) j at.into, eq-eqb (N.drive a (get_or labels (N.tail a) never)) (get_or labels j never) at.arrives)

  pub test_attains : {a : ℕ} → a < N.arcs → get_or labels j never < never → attains N labels j a ≡ true → Attains N labels j a
  unfolding attains
  test_attains {a} is_arc reached test =
      let tests = (and-eq-true_iff (eqb (N.head a) j) (eqb (N.drive a (get_or labels (N.tail a) never)) (get_or labels j never))).0 test in
      record {
        is_arc = is_arc;
        into = eqb-true (N.head a) j tests.0;
        arrives = eqb-true (N.drive a (get_or labels (N.tail a) never)) (get_or labels j never) tests.1;
        reached = reached;
      }

  -- Where an arc attains the label, the search stops at one that does, and at none behind that arc.
  pub first_attains : (a k i : ℕ) → a ≤ i → i < a + k → attains N labels j i ≡ true →
      (attains N labels j (first_attaining N labels j a k) ≡ true) × (first_attaining N labels j a k ≤ i)
  unfolding first_attaining
  first_attains a zero i from to test = absurd (omega arith)
  first_attains a (suc k) i from to test = go (attains N labels j a) refl (first_attains (suc a) k i)
    where
      here_not : attains N labels j a ≡ false → a ≡ i → ⊥
      here_not e same = true≢false (sym test ∙ (ap (attains N labels j) (sym same) ∙ e))

      go : (b : Bool) → attains N labels j a ≡ b →
          (suc a ≤ i → i < suc a + k → attains N labels j i ≡ true →
          (attains N labels j (first_attaining N labels j (suc a) k) ≡ true) × (first_attaining N labels j (suc a) k ≤ i)) →
          (attains N labels j (cond b a (first_attaining N labels j (suc a) k)) ≡ true) × (cond b a (first_attaining N labels j (suc a) k) ≤ i)
      go true e on = (e, from)
      go false e on = on (omega (arith, here_not e)) (omega arith) test

  pub first_none : (a k : ℕ) → ((i : ℕ) → a ≤ i → i < a + k → attains N labels j i ≡ false) → first_attaining N labels j a k ≡ no_arc
  unfolding first_attaining
  first_none a zero none = refl
  first_none a (suc k) none = rw (none a (omega arith) (omega arith)) (first_none (suc a) k λ i from to. none i (omega arith) (omega arith))

-- ---- The predecessor of a junction

module _ (N : Net) (source : ℕ) (labels : List ℕ) where
  pub predecessor_of_source : predecessor_of N source labels source ≡ no_arc
  unfolding predecessor_of
  predecessor_of_source = rw (eq-eqb source source refl)

  pub predecessor_of_unreached : (j : ℕ) → get_or labels j never ≡ never → predecessor_of N source labels j ≡ no_arc
  unfolding predecessor_of
  predecessor_of_unreached j unreached = rw (eq-eqb (get_or labels j never) never unreached) (go (eqb j source))
    where
      go : (b : Bool) → cond (b || true) no_arc (first_attaining N labels j 0 N.arcs) ≡ no_arc
      go true = refl
      go false = refl

  -- Where an arc attains the label of a junction other than the source, the predecessor does, and none below it.
  module _ (j : ℕ) (other : j ≡ source → ⊥) {a : ℕ} (at : Attains N labels j a) where
    predecessor_first : predecessor_of N source labels j ≡ first_attaining N labels j 0 N.arcs
    unfolding predecessor_of
    predecessor_first = rw (ne_eqb j source other, ne_eqb (get_or labels j never) never (omega arith))

    first_found : (attains N labels j (first_attaining N labels j 0 N.arcs) ≡ true) × (first_attaining N labels j 0 N.arcs ≤ a)
    first_found = first_attains N labels j 0 N.arcs a (omega arith) (omega arith) (attains_test N labels j at)

    pub predecessor_no_higher : predecessor_of N source labels j ≤ a
    predecessor_no_higher = rw predecessor_first first_found.1

    pub predecessor_attains : Attains N labels j (predecessor_of N source labels j)
    predecessor_attains = rw predecessor_first (test_attains N labels j (omega (arith, first_found.1)) at.reached first_found.0)

-- ---- The table of predecessors

-- The predecessors that go with given labels.
abbrev pub predecessors_for : Net → ℕ → List ℕ → List ℕ
predecessors_for N source labels = tabulate (predecessor_of N source labels) 0 N.junctions

module _ (N : Net) (source : ℕ) (labels : List ℕ) where
  pub predecessors_length : length (predecessors_for N source labels) ≡ N.junctions
  predecessors_length = length_tabulate (predecessor_of N source labels) 0 N.junctions

  pub predecessors_at : (j : ℕ) → j < N.junctions → get_or (predecessors_for N source labels) j no_arc ≡ predecessor_of N source labels j
  predecessors_at j is_junction = get_d_tabulate (predecessor_of N source labels) 0 N.junctions j no_arc is_junction ∙ ap (predecessor_of N source labels) (omega arith)

  pub predecessors_lowest : Lowest N source labels (predecessors_for N source labels)
  predecessors_lowest j a is_junction other lower at = omega (arith, predecessors_at j is_junction, predecessor_no_higher N source labels j other at)

  -- No other table is certified and lowest.
  pub certified_predecessors : {departure : ℕ} {predecessors : List ℕ} → Certified N source departure labels predecessors →
      Lowest N source labels predecessors → predecessors ≡ predecessors_for N source labels
  certified_predecessors {departure} {predecessors} certified lowest =
      ext_get_or no_arc predecessors (predecessors_for N source labels) (omega (arith, predecessors_length)) λ j h.
      let is_junction : j < N.junctions = omega arith in
      at j is_junction (ℕ_discrete j source) ∙ sym (predecessors_at j is_junction)
    where
      of_other : (j : ℕ) → j < N.junctions → (j ≡ source → ⊥) →
          ((get_or labels j never ≡ never) × (get_or predecessors j no_arc ≡ no_arc)) ⊎ Attains N labels j (get_or predecessors j no_arc) →
          get_or predecessors j no_arc ≡ predecessor_of N source labels j
      of_other j is_junction other (inl unreached) = unreached.1 ∙ sym (predecessor_of_unreached N source labels j unreached.0)
      of_other j is_junction other (inr at) =
          let not_lower : ¬ (predecessor_of N source labels j < get_or predecessors j no_arc) =
          λ lower. lowest j _ is_junction other lower (predecessor_attains N source labels j other at) in
          omega (arith, predecessor_no_higher N source labels j other at)

      at : (j : ℕ) → j < N.junctions → Dec (j ≡ source) → get_or predecessors j no_arc ≡ predecessor_of N source labels j
      at j is_junction (yes e) = rw e (certified.source_predecessor ∙ sym (predecessor_of_source N source labels))
      at j is_junction (no other) = of_other j is_junction other (certified.others j is_junction other)

-- ---- The arcs of earliest labels

module _ (N : Net) (sound : Sound N) (source departure : ℕ) (departs : departure ≤ last) (labels : List ℕ)
    (earliest : Earliest N source departure (λ j. get_or labels j never)) where
  -- What an arc offers its head: the arrival of who leaves its tail at the label.
  abbrev offered : ℕ → ℕ
  offered a = N.drive a (get_or labels (N.tail a) never)

  -- No arc would lower a label: who arrives on it has walked.
  earliest_no_lower : (a : ℕ) → a < N.arcs → get_or labels (N.head a) never ≤ offered a
  earliest_no_lower a is_arc = go (sound.driven a (get_or labels (N.tail a) never) is_arc)
    where
      go : (offered a ≤ last) ⊎ (offered a ≡ never) → get_or labels (N.head a) never ≤ offered a
      go (inl arrives) =
          let left : get_or labels (N.tail a) never < offered a = left_before sound a (get_or labels (N.tail a) never) is_arc arrives in
          earliest.no_sooner _ _ (along a is_arc (earliest.attained (N.tail a) (sound.tail_below a is_arc) λ none. omega arith) arrives)
      go (inr none) = omega (arith, earliest_at_most_never departs earliest (N.head a) (sound.head_below a is_arc))

  -- The last arc of a walk that arrives at the label.
  last_arc : {j t : ℕ} → Arrives N source departure j t → (j ≡ source → ⊥) → t ≡ get_or labels j never → (a : ℕ) × Attains N labels j a
  last_arc start other e = absurd (other refl)
  last_arc (along a {t = t} is_arc w arrives) other e =
      let no_later : offered a ≤ N.drive a t = sound.monotone a _ t is_arc (earliest.no_sooner _ t w) in
      (a, record { is_arc = is_arc; into = refl; arrives = omega (arith, earliest_no_lower a is_arc); reached = omega arith })

  earliest_arc : (j : ℕ) → j < N.junctions → (j ≡ source → ⊥) → (get_or labels j never ≡ never → ⊥) → (a : ℕ) × Attains N labels j a
  earliest_arc j is_junction other reached = last_arc (earliest.attained j is_junction reached) other refl

  -- The source's label is the departure: no walk arrives before it.
  earliest_at_source : source < N.junctions → get_or labels source never ≡ departure
  earliest_at_source inside =
      let no_later : get_or labels source never ≤ departure = earliest.no_sooner source departure start in
      omega (arith, arrives_from_departure sound (earliest.attained source inside λ none. omega arith))

  -- Earliest labels and their predecessors are certified.
  pub earliest_certified : source < N.junctions → length labels ≡ N.junctions → Certified N source departure labels (predecessors_for N source labels)
  earliest_certified inside long = record {
    labels_long = long;
    predecessors_long = predecessors_length N source labels;
    source_label = earliest_at_source inside;
    source_predecessor = predecessors_at N source labels source inside ∙ predecessor_of_source N source labels;
    no_lower = earliest_no_lower;
    others = λ j is_junction other. rw (predecessors_at N source labels j is_junction) (go j is_junction other (ℕ_discrete (get_or labels j never) never));
  }
    where
      go : (j : ℕ) → j < N.junctions → (j ≡ source → ⊥) → Dec (get_or labels j never ≡ never) →
          ((get_or labels j never ≡ never) × (predecessor_of N source labels j ≡ no_arc)) ⊎ Attains N labels j (predecessor_of N source labels j)
      go j is_junction other (yes unreached) = inl (unreached, predecessor_of_unreached N source labels j unreached)
      go j is_junction other (no reached) = inr (predecessor_attains N source labels j other (earliest_arc j is_junction other reached).1)
