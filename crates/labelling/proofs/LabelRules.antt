-- Labels' rules: where a rule is broken, the call is refused and the buffers are as they were; where none is, the plain
-- conditions hold, and demand 2 holds of the buffers that the call leaves.
use Prim.Native.Nat.{ℕ, ◌≤◌}
use mathlib.Core.Path.{◌≡◌, refl, sym, ap, ◌∙◌}
use mathlib.Core.Bool.{true, not, ◌&&◌}
use mathlib.Core.List.{List, ◌++◌}
use lib.Dec.{eqb}
use lib.ListN.{length, length-map}
use native.Mathlib.Omega.{arith}
use borrow.Author.Tests.{not-false, eqb-true, eq-eqb}
use Rattle.std.proofs.lemmas.Bool.Decides.{nat_tests}
use Rattle.std.proofs.lemmas.Result.{err_from_is_err_and}
use Rattle.model.specs.Closures.{max_closures, closure_of, closures_of}
use Rattle.model.specs.Network.{Network, closed_by, network_for}
use Rattle.model.specs.Parties.{KnownAsker, closures_for}
use Rattle.model.specs.Rules.{AllKept, Outcome, refused, replied, Rule, first_broken}
use Rattle.model.proofs.Demands.{demand_2, only_tables_of_network}
use Rattle.model.proofs.SameDrives.{closures_are_union}
use Rattle.model.proofs.Rules.{kept_replies, replies_kept, refused_at_law, refused_before, kept_before, kept_append, both_true, true_both}
use Rattle.checking.specs.Question.{question_rules, question_check_lem}
use Rattle.checking.proofs.QuestionRules.{kept_taken, taken_kept, taken_for}
use Rattle.dijkstra.specs.Labelable.{Labelable}
use Rattle.labelling.specs.Labels.{buffer_rules, labels_answer, LabelsRepliesWhenLabelable, Demand2OfCall, SameClosedOfCall}

module _ (N : Network) (asker source departure : ℕ) (labels predecessors : List ℕ) where
  abbrev answer : Outcome (Unit {0})
  answer = labels_answer N asker source departure labels predecessors

  abbrev buffers : List Rule
  buffers = buffer_rules N labels predecessors

  pub question_refuses : (number : ℕ) → refused number ≡ question_check_lem N asker source departure → refused number ≡ answer
  unfolding labels_answer question_check_lem
  question_refuses number e = sym (refused_before (question_rules N asker source departure) buffers tt tt number (sym e))

  -- Where the question is taken, the rule on the buffers decides.
  module _ (taken : AllKept (question_rules N asker source departure)) where
    pub rest_decides : answer ≡ first_broken buffers tt
    unfolding labels_answer
    rest_decides = kept_before (question_rules N asker source departure) buffers tt taken

    pub buffers_refuse : not (eqb (length labels) N.junctions && eqb (length predecessors) N.junctions) ≡ true → refused 11 ≡ answer
    buffers_refuse broken = refused_at_law buffers tt 0 tt broken ∙ sym rest_decides

    pub replies : AllKept buffers → answer ≡ replied tt
    replies kept = rest_decides ∙ kept_replies buffers tt kept

  pub past_question : replied tt ≡ question_check_lem N asker source departure → answer ≡ first_broken buffers tt
  unfolding question_check_lem
  past_question is = rest_decides (replies_kept (question_rules N asker source departure) tt tt (sym is))

  kept_labelable : AllKept (question_rules N asker source departure) → AllKept buffers → Labelable N source departure labels predecessors
  kept_labelable question kept =
      let long = true_both (eqb (length labels) N.junctions) (eqb (length predecessors) N.junctions) (not-false _ kept.0) in
      record {
        taken = (kept_taken N asker source departure question).1;
        labels_long = eqb-true (length labels) N.junctions long.0;
        predecessors_long = eqb-true (length predecessors) N.junctions long.1;
      }

  labelable_buffers : Labelable N source departure labels predecessors → AllKept buffers
  labelable_buffers q =
      let labels-test = eq-eqb (length labels) N.junctions q.labels_long in
      let predecessors_test = eq-eqb (length predecessors) N.junctions q.predecessors_long in
      (ap not (both_true labels-test predecessors_test), tt)

  labelable_answers : KnownAsker asker × Labelable N source departure labels predecessors → answer ≡ replied tt
  labelable_answers (known, q) = replies (taken_kept N asker source departure known q.taken) (labelable_buffers q)

  pub answered : answer ≡ replied tt → KnownAsker asker × Labelable N source departure labels predecessors
  unfolding labels_answer
  answered e =
      let kept = kept_append (question_rules N asker source departure) buffers (replies_kept (question_rules N asker source departure ++ buffers) tt tt e) in
      ((kept_taken N asker source departure kept.0).0, kept_labelable kept.0 kept.1)

  -- What can be labelled can be on the network as the asker finds it.
  pub labelable_for : Labelable N source departure labels predecessors → Labelable (network_for N asker) source departure labels predecessors
  labelable_for q = record { taken = taken_for asker q.taken; labels_long = q.labels_long; predecessors_long = q.predecessors_long }

  -- A call that replies lends on the rows of its list that stop the asker, since the list is not too long; and with these alone the network can be labelled.
  module _ (rows stopping : List (List ℕ)) (replied_is : replied tt ≡ answer) (are : N.closures ≡ closures_of rows)
      (stop : length rows ≤ max_closures → closures_of stopping ≡ closures_for asker (closures_of rows)) where
    pub stopping_rows : closures_of stopping ≡ closures_for asker N.closures
    stopping_rows = rw are (stop (omega (arith, (answered (sym replied_is)).1.taken.closures_kept.at_most, ap length are, length-map rows closure_of)))

    pub labelable_stopping : Labelable (closed_by N (closures_of stopping)) source departure labels predecessors
    labelable_stopping = rw stopping_rows (labelable_for (answered (sym replied_is)).1)

-- ---- The statements

pub labels_replies_when_labelable : LabelsRepliesWhenLabelable
labels_replies_when_labelable N asker source departure labels predecessors =
    (answered N asker source departure labels predecessors, labelable_answers N asker source departure labels predecessors)

pub demand_2_of_call : Demand2OfCall
demand_2_of_call N asker source departure labels predecessors e =
    let t = taken_for asker (answered N asker source departure labels predecessors e).1.taken in
    let M = network_for N asker in
    let tables = (only_tables_of_network M t.accepted source departure t.source_below t.departure_below _ _).1 (refl, refl) in
    rw e (demand_2 M t.accepted source departure t.source_below t.departure_below, tables.0, tables.1)

pub same_closed_of_call : SameClosedOfCall
same_closed_of_call N closures asker alike source departure labels predecessors first second =
    let (same_labels, same_predecessors, _) = closures_are_union (network_for N asker) (closures_for asker closures) alike source departure in
    (rw (first, second) same_labels, rw (first, second) same_predecessors)

-- ---- What the check's goals need after the question's own rules

pub ruleset past_question_steps = (question_refuses, past_question, err_from_is_err_and, nat_tests)
