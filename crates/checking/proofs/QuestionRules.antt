-- The rules that Labels and Route ask first, and their plain statement.
use Prim.Native.Nat.{ℕ}
use mathlib.Core.Path.{◌≡◌, refl, sym, ap}
use mathlib.Core.Bool.{not}
use mathlib.Core.List.{List, []}
use mathlib.Core.Logic.{inl}
use native.Mathlib.Omega.{arith}
use lib.Dec.{ltb}
use lib.ListN.{length}
use borrow.Author.Tests.{not-false, ltb-true, ltb-false, lt-ltb, le-ltb}
use Rattle.std.proofs.lemmas.Bool.Decides.{nat_tests}
use Rattle.std.proofs.lemmas.List.{length-map}
use Rattle.std.proofs.lemmas.List.Folds.{list_all-map}
use Rattle.std.proofs.lemmas.Result.{err_from_is_err_and}
use Rattle.model.specs.Ticks.{day}
use Rattle.model.specs.Closures.{max_closures, ClosuresKept}
use Rattle.model.specs.declared.closure.Closure.{Closure}
use Rattle.model.specs.Network.{Network, closed_by, network_for, arcs}
use Rattle.model.specs.Network as Plain
use Rattle.model.specs.NetworkRules.{network_rules, network_check_lem}
use Rattle.model.specs.Parties.{brigade, depot, KnownAsker, asker_keeps}
use Rattle.model.specs.Rules.{AllKept, refused, replied, first_broken}
use Rattle.model.proofs.Closures.{closures_kept, kept_closures, kept_parties}
use Rattle.model.proofs.NetworkRules.{kept_accepted, accepted_kept}
use Rattle.model.proofs.Parties.{kept_for}
use Rattle.model.proofs.Rules.{replies_kept, refused_before, kept_before, kept_append, append_kept}
use Rattle.model.proofs.Tests.{one_of, is_one_of}
use Rattle.checking.specs.ClosedNetwork.{closure_rules, closed_network_rules, closed_network_check_lem, ClosuresPassWhenKept}
use Rattle.checking.specs.Question.{start_rules, question_rules, question_check_lem, Taken}

-- Network check is asked of the network without its closures: its rules do not read them.
pub alone_keeps : (N : Network) → replied tt ≡ network_check_lem (closed_by N []) → AllKept (network_rules N)
unfolding network_check_lem
alone_keeps N is = replies_kept (network_rules N) tt tt (sym is)

pub alone_refuses : (N : Network) (asker number : ℕ) → refused number ≡ network_check_lem (closed_by N []) → refused number ≡ closed_network_check_lem N asker
unfolding network_check_lem closed_network_check_lem
alone_refuses N asker number e = sym (refused_before (network_rules N) (closure_rules N asker) tt tt number (sym e))

-- Of a network that is accepted without its closures, the rules on these decide.
pub past_network : (N : Network) (asker : ℕ) → replied tt ≡ network_check_lem (closed_by N []) →
    closed_network_check_lem N asker ≡ first_broken (closure_rules N asker) tt
unfolding closed_network_check_lem
past_network N asker is = kept_before (network_rules N) (closure_rules N asker) tt (alone_keeps N is)

-- A network that the check accepts with its closures keeps their rules, which the rules of other operations follow.
pub network_keeps : (N : Network) (asker : ℕ) → replied tt ≡ closed_network_check_lem N asker → AllKept (closed_network_rules N asker)
unfolding closed_network_check_lem
network_keeps N asker is = replies_kept (closed_network_rules N asker) tt tt (sym is)

pub closures_pass_when_kept : ClosuresPassWhenKept
closures_pass_when_kept N asker = (forward, back)
  where
    forward : AllKept (closure_rules N asker) → ClosuresKept (arcs N) N.closures × KnownAsker asker
    forward (few, (records, (parties, (known, _)))) = (
      closures_kept (arcs N) N.closures (ltb-false max_closures (length N.closures) few) (not-false _ records) (not-false _ parties),
      one_of asker brigade depot (not-false (asker_keeps asker) known),
    )

    back : ClosuresKept (arcs N) N.closures × KnownAsker asker → AllKept (closure_rules N asker)
    back (kept, known) = (
      le-ltb max_closures (length N.closures) kept.at_most,
      (ap not (kept_closures (arcs N) N.closures kept), (ap not (kept_parties (arcs N) N.closures kept), (ap not (is_one_of asker brigade depot known), tt))),
    )

-- A network with its closures keeps its rules exactly where both do in plain words, and the asker does.
pub kept_closed : (N : Network) (asker : ℕ) → AllKept (closed_network_rules N asker) → Plain.Accepted N × (ClosuresKept (arcs N) N.closures × KnownAsker asker)
kept_closed N asker kept =
    let parts = kept_append (network_rules N) (closure_rules N asker) kept in
    (kept_accepted N parts.0, (closures_pass_when_kept N asker).0 parts.1)

pub closed_kept : (N : Network) (asker : ℕ) → Plain.Accepted N → ClosuresKept (arcs N) N.closures → KnownAsker asker → AllKept (closed_network_rules N asker)
closed_kept N asker accepted kept known = append_kept (network_rules N) (closure_rules N asker) (accepted_kept N accepted) ((closures_pass_when_kept N asker).1 (kept, known))

-- No record breaks no rule, so that without closures the network's own rules decide; the brigade asks then.
pub no_closures_keep : {arcs : ℕ} {closures : List Closure} → closures ≡ [] → ClosuresKept arcs closures
no_closures_keep none = rw none (record {
  at_most = omega arith;
  known_arc = λ k h. absurd (omega arith);
  first_below_end = λ k h. absurd (omega arith);
  by_last = λ k h. absurd (omega arith);
  known_party = λ k h. absurd (omega arith);
})

pub open_kept : (N : Network) → N.closures ≡ [] → Plain.Accepted N → AllKept (closed_network_rules N brigade)
open_kept N none accepted = closed_kept N brigade accepted (no_closures_keep none) (inl refl)

module _ (N : Network) (asker source departure : ℕ) where
  pub past_closed : replied tt ≡ closed_network_check_lem N asker →
      question_check_lem N asker source departure ≡ first_broken (start_rules N source departure) tt
  unfolding question_check_lem
  past_closed is = kept_before (closed_network_rules N asker) (start_rules N source departure) tt (network_keeps N asker is)

  pub network_refuses : (number : ℕ) → refused number ≡ closed_network_check_lem N asker → refused number ≡ question_check_lem N asker source departure
  unfolding closed_network_check_lem question_check_lem
  network_refuses number e = sym (refused_before (closed_network_rules N asker) (start_rules N source departure) tt tt number (sym e))

  pub kept_taken : AllKept (question_rules N asker source departure) → KnownAsker asker × Taken N source departure
  kept_taken kept =
      let parts = kept_append (closed_network_rules N asker) (start_rules N source departure) kept in
      let (accepted, (closures, known)) = kept_closed N asker parts.0 in (
        known,
        record {
          accepted = accepted;
          closures_kept = closures;
          source_below = ltb-true source N.junctions (not-false (ltb source N.junctions) parts.1.0);
          departure_below = ltb-true departure day (not-false (ltb departure day) parts.1.1.0);
        },
      )

  pub taken_kept : KnownAsker asker → Taken N source departure → AllKept (question_rules N asker source departure)
  taken_kept known t =
      append_kept (closed_network_rules N asker) (start_rules N source departure) (closed_kept N asker t.accepted t.closures_kept known)
      (ap not (lt-ltb source N.junctions t.source_below), (ap not (lt-ltb departure day t.departure_below), tt))

-- What is taken is taken on the network as the asker finds it: the network's rules do not read its closures, and some of these keep what all keep.
pub accepted_for : {N : Network} (asker : ℕ) → Plain.Accepted N → Plain.Accepted (network_for N asker)
accepted_for {N} asker accepted = kept_accepted (network_for N asker) (accepted_kept N accepted)

pub taken_for : {N : Network} (asker : ℕ) {source departure : ℕ} → Taken N source departure → Taken (network_for N asker) source departure
taken_for asker t = record {
  accepted = accepted_for asker t.accepted;
  closures_kept = kept_for asker t.closures_kept;
  source_below = t.source_below;
  departure_below = t.departure_below;
}

-- ---- What the checks' goals need: after the network's own rules, and after those of the network with its closures

pub ruleset past_network_steps = (past_network, nat_tests, list_all-map, length-map)

pub ruleset past_closed_steps = (network_refuses, past_closed, err_from_is_err_and, nat_tests)
