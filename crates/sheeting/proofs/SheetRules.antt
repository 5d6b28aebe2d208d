-- The sheet's rules: where a rule is broken the call is refused and the buffers are as they were; where none is, the plain conditions
-- hold.
use Prim.Native.Nat.{ℕ, ◌*◌, ◌<◌}
use mathlib.Core.Path.{◌≡◌, sym, ap, ◌∙◌}
use mathlib.Core.Bool.{not}
use mathlib.Core.List.{List, ◌++◌}
use lib.Dec.{eqb, leb, ltb}
use lib.ListN.{length, get_or}
use borrow.Author.Tests.{not-false, eqb-true, eq-eqb, ltb-true, lt-ltb, leb-true, le-leb}
use Rattle.model.specs.Network.{Network, network_for}
use Rattle.model.specs.Parties.{KnownAsker}
use Rattle.model.specs.Ticks.{day}
use Rattle.model.specs.Rules.{AllKept, Outcome, refused, replied, Rule, first_broken, every}
use Rattle.model.proofs.Parties.{kept_for}
use Rattle.checking.specs.ClosedNetwork.{closed_network_rules, closed_network_check_lem}
use Rattle.checking.specs.Question.{Taken}
use Rattle.checking.proofs.QuestionRules.{kept_closed, closed_kept, accepted_for}
use Rattle.model.proofs.Rules.{kept_replies, replies_kept, refused_before, kept_before, kept_append, append_kept, both_true, true_both, every_at, at_every}
use Rattle.sheeting.specs.Sheet.{in_day, max_departures, shift_rules, sheet_buffer_rules, shift_check_lem, sheet_answer}
use Rattle.sheeting.specs.Sheet.{ShiftTaken, Sheetable, SheetRepliesWhenSheetable}

-- Each departure of a list that is taken is.
pub departure_taken : {N : Network} {source : ℕ} {departures : List ℕ} → ShiftTaken N source departures → {k : ℕ} → k < length departures →
    Taken N source (get_or departures k 0)
departure_taken t {k} inside =
    record { accepted = t.accepted; closures_kept = t.closures_kept; source_below = t.source_below; departure_below = t.departures_below k inside }

-- What is taken is taken on the network as the asker finds it.
pub shift_taken_for : {N : Network} (asker : ℕ) {source : ℕ} {departures : List ℕ} → ShiftTaken N source departures → ShiftTaken (network_for N asker) source departures
shift_taken_for asker t = record {
  accepted = accepted_for asker t.accepted;
  closures_kept = kept_for asker t.closures_kept;
  source_below = t.source_below;
  some = t.some;
  at_most = t.at_most;
  departures_below = t.departures_below;
}

module _ (N : Network) (asker source : ℕ) (departures : List ℕ) where
  abbrev check_rules : List Rule
  check_rules = closed_network_rules N asker ++ shift_rules N source departures

  -- ---- The network, the source and the list

  -- The refusal of the network with its closures comes first.
  pub network_refuses : {number : ℕ} → refused number ≡ closed_network_check_lem N asker → refused number ≡ shift_check_lem N asker source departures
  unfolding closed_network_check_lem shift_check_lem
  network_refuses {number} e = sym (refused_before (closed_network_rules N asker) (shift_rules N source departures) tt tt number (sym e))

  -- Of a network that is accepted with its closures, the rules on the source and the list decide.
  pub past_closed : replied tt ≡ closed_network_check_lem N asker → shift_check_lem N asker source departures ≡ first_broken (shift_rules N source departures) tt
  unfolding closed_network_check_lem shift_check_lem
  past_closed e =
      kept_before (closed_network_rules N asker) (shift_rules N source departures) tt (replies_kept (closed_network_rules N asker) tt tt (sym e))

  kept_taken : AllKept check_rules → KnownAsker asker × ShiftTaken N source departures
  kept_taken kept =
      let parts = kept_append (closed_network_rules N asker) (shift_rules N source departures) kept in
      let count = true_both (ltb 0 (length departures)) (leb (length departures) max_departures) (not-false _ parts.1.1.0) in
      let all = not-false (every in_day departures) parts.1.1.1.0 in
      let (accepted, (closures, known)) = kept_closed N asker parts.0 in (
        known,
        record {
          accepted = accepted;
          closures_kept = closures;
          source_below = ltb-true source N.junctions (not-false _ parts.1.0);
          some = ltb-true 0 (length departures) count.0;
          at_most = leb-true (length departures) max_departures count.1;
          departures_below = λ k h. ltb-true (get_or departures k 0) day (every_at in_day 0 departures all k h);
        },
      )

  taken_kept : KnownAsker asker → ShiftTaken N source departures → AllKept check_rules
  taken_kept known t =
      let count = both_true (lt-ltb 0 (length departures) t.some) (le-leb (length departures) max_departures t.at_most) in
      let all = at_every in_day 0 departures (λ k h. lt-ltb (get_or departures k 0) day (t.departures_below k h)) in
      append_kept (closed_network_rules N asker) (shift_rules N source departures) (closed_kept N asker t.accepted t.closures_kept known)
      (ap not (lt-ltb source N.junctions t.source_below), (ap not count, (ap not all, tt)))

  check_kept : shift_check_lem N asker source departures ≡ replied tt → AllKept check_rules
  unfolding shift_check_lem
  check_kept e = replies_kept check_rules tt tt e

  pub check_taken : replied tt ≡ shift_check_lem N asker source departures → KnownAsker asker × ShiftTaken N source departures
  check_taken e = kept_taken (check_kept (sym e))

  -- ---- The buffers

  module _ (labels figures : List ℕ) where
    abbrev answer : Outcome (Unit {0})
    answer = sheet_answer N asker source departures labels figures

    abbrev buffers : List Rule
    buffers = sheet_buffer_rules N departures labels figures

    pub check_refuses : {number : ℕ} → refused number ≡ shift_check_lem N asker source departures → refused number ≡ answer
    unfolding sheet_answer shift_check_lem
    check_refuses {number} e = sym (refused_before check_rules buffers tt tt number (sym e))

    -- Where the list is taken, the rule on the buffers decides.
    buffers_decide : AllKept check_rules → answer ≡ first_broken buffers tt
    unfolding sheet_answer
    buffers_decide kept = kept_before check_rules buffers tt kept

    pub past_check : replied tt ≡ shift_check_lem N asker source departures → answer ≡ first_broken buffers tt
    past_check e = buffers_decide (check_kept (sym e))

    sheetable_replies : KnownAsker asker × Sheetable N source departures labels figures → answer ≡ replied tt
    sheetable_replies (known, s) =
        let long = both_true (eq-eqb (length labels) (length departures * N.junctions) s.labels_long) (eq-eqb (length figures) (4 * N.junctions) s.figures_long) in
        buffers_decide (taken_kept known s.taken) ∙ kept_replies buffers tt (ap not long, tt)

    pub replies : replied tt ≡ shift_check_lem N asker source departures → length labels ≡ length departures * N.junctions → length figures ≡ 4 * N.junctions → answer ≡ replied tt
    replies e long long' = let (known, taken) = check_taken e in sheetable_replies (known, record { taken = taken; labels_long = long; figures_long = long' })

    pub answered : answer ≡ replied tt → KnownAsker asker × Sheetable N source departures labels figures
    unfolding sheet_answer
    answered e =
        let parts = kept_append check_rules buffers (replies_kept (check_rules ++ buffers) tt tt e) in
        let long = true_both (eqb (length labels) (length departures * N.junctions)) (eqb (length figures) (4 * N.junctions)) (not-false _ parts.1.0) in
        let (known, taken) = kept_taken parts.0 in (
          known,
          record {
            taken = taken;
            labels_long = eqb-true (length labels) (length departures * N.junctions) long.0;
            figures_long = eqb-true (length figures) (4 * N.junctions) long.1;
          },
        )

-- ---- The statement

pub sheet_replies_when_sheetable : SheetRepliesWhenSheetable
sheet_replies_when_sheetable N asker source departures labels figures =
    (answered N asker source departures labels figures, sheetable_replies N asker source departures labels figures)
