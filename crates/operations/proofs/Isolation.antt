-- Nobody learns of the other party's records: the asker finds the same network, and of each list the rules on it are kept, whatever else it has.
use Prim.Native.Nat.{ℕ}
use mathlib.Core.Path.{◌≡◌, refl, sym, ap, ◌∙◌}
use mathlib.Core.Bool.{cond}
use mathlib.Core.List.{List, ◌∷◌}
use lib.Dec.{ltb}
use lib.ListN.{length}
use borrow.Author.Tests.{le-ltb}
use Rattle.model.specs.Closures.{max_closures, closure_keeps_lem, party_keeps}
use Rattle.model.specs.Network.{Network, closed_by, arcs}
use Rattle.model.specs.Parties.{stops?, closures_for}
use Rattle.model.specs.Rules.{every}
use Rattle.model.specs.declared.closure.Closure.{Closure}
use Rattle.model.proofs.Closures.{kept_closures, kept_parties}
use Rattle.model.proofs.Parties.{not_stopping}
use Rattle.labelling.specs.Labels.{labels_answer}
use Rattle.routing.specs.Route.{route_answer}
use Rattle.sheeting.specs.Sheet.{sheet_answer}
use Rattle.operations.specs.Isolation.{SameRecords, no_record, in_both, in_first, in_second, Agree, Isolation}

-- Lists with the same records that stop the asker leave it the same records.
same_kept : {asker : ℕ} {first second : List Closure} → SameRecords asker first second → closures_for asker first ≡ closures_for asker second
same_kept no_record = refl
same_kept {asker} (in_both c rest) = ap (λ kept. cond (stops? asker c) (c ∷ kept) kept) (same_kept rest)
same_kept {asker} (in_first c none rest) = rw (not_stopping asker c none) (same_kept rest)
same_kept {asker} (in_second c none rest) = rw (not_stopping asker c none) (same_kept rest)

module _ (N : Network) (asker : ℕ) (first second : List Closure) (agree : Agree asker (arcs N) first second) where
  -- Both lists keep 36, 37 and 38, so that the tests say the same of them.
  few : ltb max_closures (length first) ≡ ltb max_closures (length second)
  few = le-ltb max_closures (length first) agree.first_kept.at_most ∙ sym (le-ltb max_closures (length second) agree.second_kept.at_most)

  records : every (closure_keeps_lem (arcs N)) first ≡ every (closure_keeps_lem (arcs N)) second
  records = kept_closures (arcs N) first agree.first_kept ∙ sym (kept_closures (arcs N) second agree.second_kept)

  parties : every party_keeps first ≡ every party_keeps second
  parties = kept_parties (arcs N) first agree.first_kept ∙ sym (kept_parties (arcs N) second agree.second_kept)

  -- the asker finds the same network
  kept : closures_for asker first ≡ closures_for asker second
  kept = same_kept agree.same_records

  labels_same : (source departure : ℕ) (labels predecessors : List ℕ) →
      labels_answer (closed_by N first) asker source departure labels predecessors ≡ labels_answer (closed_by N second) asker source departure labels predecessors
  unfolding labels_answer
  labels_same source departure labels predecessors = rw (few, records, parties)

  route_same : (source departure destination : ℕ) (arcs : List ℕ) →
      route_answer (closed_by N first) asker source departure destination arcs ≡ route_answer (closed_by N second) asker source departure destination arcs
  unfolding route_answer
  route_same source departure destination arcs = rw (few, records, parties, kept)

  sheet_same : (source : ℕ) (departures labels figures : List ℕ) →
      sheet_answer (closed_by N first) asker source departures labels figures ≡ sheet_answer (closed_by N second) asker source departures labels figures
  unfolding sheet_answer
  sheet_same source departures labels figures = rw (few, records, parties)

pub isolation : Isolation
isolation N asker first second agree = record {
  labels = λ source departure. rw (kept N asker first second agree);
  predecessors = λ source departure. rw (kept N asker first second agree);
  routes = λ source departure destination. rw (kept N asker first second agree);
  labels_call = λ source departure labels predecessors.
      let same = labels_same N asker first second agree source departure labels predecessors in
      (same, rw (same, kept N asker first second agree), rw (same, kept N asker first second agree));
  passes_call = λ source departure labels predecessors.
      rw (labels_same N asker first second agree source departure labels predecessors, kept N asker first second agree);
  tables_call = λ source departure labels predecessors.
      rw (labels_same N asker first second agree source departure labels predecessors, kept N asker first second agree);
  route_call = λ source departure destination arcs.
      let same = route_same N asker first second agree source departure destination arcs in
      (same, rw (same, kept N asker first second agree), rw (same, kept N asker first second agree));
  sheet_call = λ source departures labels figures.
      let same = sheet_same N asker first second agree source departures labels figures in
      (same, rw (same, kept N asker first second agree), rw (same, kept N asker first second agree));
}
