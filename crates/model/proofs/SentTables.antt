-- Tables that are right pass the test, what passes it is certified, and what is certified is right. The labels of the first two are the earliest arrivals, of
-- which there is one table; no arc would lower them. Certified labels are the earliest arrivals by the certificate.
use Prim.Native.Nat.{ℕ, zero, suc, ◌≤◌, ◌<◌}
use mathlib.Core.Path.{◌≡◌, refl, sym, ap, ◌∙◌}
use mathlib.Core.Bool.{true}
use mathlib.Core.List.{List}
use mathlib.Core.Logic.{◌⊎◌, inl, inr, ⊎_elim, by_cases}
use native.Mathlib.Decide.{ℕ_discrete}
use native.Mathlib.Omega.{arith}
use lib.Dec.{ltb}
use lib.ListN.{get_or}
use lib.Seq.{ext_get_or}
use borrow.Author.Tests.{ltb-true, lt-ltb, eqb-true, eq-eqb, ne_eqb}
use Rattle.model.specs.Ticks.{never}
use Rattle.model.specs.Walks.{Net}
use Rattle.model.specs.Labels.{no_arc, labels_of, attains, same?, Attains, Certified}
use Rattle.model.specs.SentTables.{predecessor_right?, predecessors_right?, tables_right?, TablesRight, Sent, RightWhenTested, RightWhenCertified}
use Rattle.model.proofs.Certificate.{certified_earliest}
use Rattle.model.proofs.Entries.{same_tables, same_itself}
use Rattle.model.proofs.Least.{labels_length, labels_are_earliest}
use Rattle.model.proofs.Predecessors.{attains_test, test_attains, earliest_certified}
use Rattle.model.proofs.Rules.{both_true, true_both}
use Rattle.model.proofs.Walks.{earliest_unique, earliest_at_most_never}

-- ---- Predecessors

-- What `Certified` asks of a junction other than the source.
abbrev Other : Net → List ℕ → ℕ → ℕ → Type 0
Other N labels j a = ((get_or labels j never ≡ never) × (a ≡ no_arc)) ⊎ Attains N labels j a

module _ (N : Net) (source : ℕ) (labels : List ℕ) (j a : ℕ) where
  source_tested : j ≡ source → predecessor_right? N source labels j a ≡ true → a ≡ no_arc
  unfolding predecessor_right?
  source_tested same e = eqb-true a no_arc (rw (eq-eqb j source same) at e)

  other_tested : (j ≡ source → ⊥) → get_or labels j never ≤ never → predecessor_right? N source labels j a ≡ true → Other N labels j a
  unfolding predecessor_right?
  other_tested other at_most e = go (ℕ_discrete (get_or labels j never) never)
    where
      go : Dec (get_or labels j never ≡ never) → Other N labels j a
      go (yes unreached) = inl (unreached, eqb-true a no_arc (rw (ne_eqb j source other, eq-eqb (get_or labels j never) never unreached) at e))
      go (no reached) =
          let (is_arc, test) = true_both (ltb a N.arcs) (attains N labels j a) (rw (ne_eqb j source other, ne_eqb (get_or labels j never) never reached) at e) in
          inr (test_attains N labels j (ltb-true a N.arcs is_arc) (omega (arith, at_most, reached)) test)

  source_tests : j ≡ source → a ≡ no_arc → predecessor_right? N source labels j a ≡ true
  unfolding predecessor_right?
  source_tests same mark = rw (eq-eqb j source same) (eq-eqb a no_arc mark)

  other_tests : (j ≡ source → ⊥) → Other N labels j a → predecessor_right? N source labels j a ≡ true
  unfolding predecessor_right?
  other_tests other (inl (unreached, mark)) = rw (ne_eqb j source other, eq-eqb (get_or labels j never) never unreached) (eq-eqb a no_arc mark)
  other_tests other (inr at) =
      rw (ne_eqb j source other, ne_eqb (get_or labels j never) never (λ unreached. omega (arith, at.reached)))
      (both_true (lt-ltb a N.arcs at.is_arc) (attains_test N labels j at))

module _ (N : Net) (source : ℕ) (labels predecessors : List ℕ) where
  predecessors_tested : (k : ℕ) → predecessors_right? N source labels predecessors k ≡ true →
      (j : ℕ) → j < k → predecessor_right? N source labels j (get_or predecessors j no_arc) ≡ true
  unfolding predecessors_right?
  predecessors_tested zero e j less = absurd (omega arith)
  predecessors_tested (suc k) e j less =
      let (before, here) = true_both _ _ e in
      by_cases (ℕ_discrete j k) (λ same. rw same here) (λ other. predecessors_tested k before j (omega (arith, other)))

  predecessors_test : (k : ℕ) → ((j : ℕ) → j < k → predecessor_right? N source labels j (get_or predecessors j no_arc) ≡ true) →
      predecessors_right? N source labels predecessors k ≡ true
  unfolding predecessors_right?
  predecessors_test zero each = refl
  predecessors_test (suc k) each = both_true (predecessors_test k (λ j less. each j (omega arith))) (each k (omega arith))

-- ---- The statements

module _ {N : Net} {source departure : ℕ} {labels predecessors : List ℕ} (s : Sent N source departure labels predecessors) where
  pub right_labels : TablesRight N source departure labels predecessors → labels ≡ labels_of N source departure
  right_labels right =
      ext_get_or never labels (labels_of N source departure) (s.labels_long ∙ sym (labels_length N source departure)) λ j h.
      earliest_unique right.labels_right (labels_are_earliest N s.sound source departure s.source_inside s.departs) j (omega (arith, s.labels_long))

  -- Right tables pass the test,
  right_test : TablesRight N source departure labels predecessors → tables_right? N source departure labels predecessors ≡ true
  unfolding tables_right?
  right_test right =
      both_true (ap (same? labels) (sym (right_labels right)) ∙ same_itself labels)
      (predecessors_test N source labels predecessors N.junctions λ j is_junction.
      by_cases (ℕ_discrete j source)
      (λ same. source_tests N source labels j _ same (rw same right.source_mark))
      (λ other. other_tests N source labels j _ other (by_cases (ℕ_discrete (get_or labels j never) never)
      (λ unreached. inl (unreached, right.unreached_mark j is_junction unreached))
      (λ reached. inr (right.attained j is_junction other reached)))))

  -- tables that pass it are certified,
  tested_certified : tables_right? N source departure labels predecessors ≡ true → Certified N source departure labels predecessors
  unfolding tables_right?
  tested_certified e =
      let (same, each) = true_both _ _ e in
      let earliest = rw (← same_tables labels (labels_of N source departure) same) at (labels_are_earliest N s.sound source departure s.source_inside s.departs) in
      let lowest = earliest_certified N s.sound source departure s.departs labels earliest s.source_inside s.labels_long in
      let its = predecessors_tested N source labels predecessors N.junctions each in
      record {
        labels_long = s.labels_long;
        predecessors_long = s.predecessors_long;
        source_label = lowest.source_label;
        source_predecessor = source_tested N source labels source _ refl (its source s.source_inside);
        no_lower = lowest.no_lower;
        others = λ j is_junction other.
            other_tested N source labels j _ other (earliest_at_most_never s.departs earliest j is_junction) (its j is_junction);
      }

  -- and certified tables are right.
  certified_right : Certified N source departure labels predecessors → TablesRight N source departure labels predecessors
  certified_right certified = record {
    labels_right = certified_earliest s.sound s.departs certified;
    attained = λ j is_junction other reached. ⊎_elim (λ unreached. absurd (reached unreached.0)) (λ at. at) (certified.others j is_junction other);
    unreached_mark = λ j is_junction unreached. go j is_junction unreached (ℕ_discrete j source);
    source_mark = certified.source_predecessor;
  }
    where
      go : (j : ℕ) → j < N.junctions → get_or labels j never ≡ never → Dec (j ≡ source) → get_or predecessors j no_arc ≡ no_arc
      go j is_junction unreached (yes same) = rw same certified.source_predecessor
      go j is_junction unreached (no other) = ⊎_elim (λ marks. marks.1) (λ at. absurd (omega (arith, at.reached))) (certified.others j is_junction other)

pub right_when_tested : RightWhenTested
right_when_tested N source departure labels predecessors s = ((λ e. certified_right s (tested_certified s e)), right_test s)

pub right_when_certified : RightWhenCertified
right_when_certified N source departure labels predecessors s = ((λ right. tested_certified s (right_test s right)), certified_right s)
