-- Rows that stand for a list of closures give the list's answer. Either they are its records, or both are too many: then each is refused alike, by
-- the network's own rules or by 36, whatever the records are.
use Prim.Native.Nat.{ℕ, ◌<◌}
use mathlib.Core.Path.{◌≡◌, refl, ap}
use mathlib.Core.Bool.{Bool, true, false, cond}
use mathlib.Core.List.{List, [], ◌∷◌, ◌++◌}
use native.Mathlib.Omega.{arith}
use lib.Dec.{ltb}
use lib.ListN.{length, length-map}
use borrow.Author.Tests.{lt-ltb}
use Rattle.model.specs.Closures.{max_closures, closures_of, closure_of}
use Rattle.model.specs.Network.{Network, closed_by, network_for}
use Rattle.model.specs.NetworkRules.{network_rules}
use Rattle.model.specs.Rules.{refused, Rule, ◌if◌, first_broken}
use Rattle.model.specs.declared.closure.Closure.{Closure}
use Rattle.model.proofs.Rules.{refused_before}
use Rattle.checking.specs.ClosedNetwork.{closed_network_rules, closed_network_check_lem}
use Rattle.checking.specs.Question.{start_rules, question_rules}
use Rattle.closures.specs.Rows.{StandFor, all, too_many}
use Rattle.certifying.specs.TablesCheck.{tables_answer}
use Rattle.labelling.specs.Labels.{labels_answer, labels_after, predecessors_after, buffer_rules}
use Rattle.passing.specs.Passes.{passes_answer}
use Rattle.routing.specs.Route.{route_answer, route_arrival, arcs_after, destination_rules, found_rules}
use Rattle.sheeting.specs.Sheet.{shift_rules, sheet_buffer_rules, sheet_answer, sheet_labels_after, sheet_figures_after}

-- ---- Too many records

-- The number of the first broken rule of a list, or n where none is.
first_number : List Rule → ℕ → ℕ
first_number [] n = n
first_number (rule ∷ rules) n = cond rule.broken rule.number (first_number rules n)

then_refused : {Reply : Type 0} (reply : Reply) (rules : List Rule) (rule : Rule) (more : List Rule) → rule.broken ≡ true →
    first_broken (rules ++ (rule ∷ more)) reply ≡ refused (first_number rules rule.number)
unfolding first_broken first_number
then_refused reply [] rule more broken = rw broken
then_refused reply (first ∷ rules) rule more broken = go first.broken (then_refused reply rules rule more broken)
  where
    go : (b : Bool) → first_broken (rules ++ (rule ∷ more)) reply ≡ refused (first_number rules rule.number) →
        cond b (refused first.number) (first_broken (rules ++ (rule ∷ more)) reply) ≡ refused (cond b first.number (first_number rules rule.number))
    go true e = refl
    go false e = e

-- The network's own rules decide, or 36.
abbrev number : Network → ℕ
number N = first_number (network_rules N) 36

module _ (N : Network) (asker : ℕ) where
  overlong : (closures : List Closure) → max_closures < length closures → closed_network_check_lem (closed_by N closures) asker ≡ refused (number N)
  unfolding closed_network_check_lem
  overlong closures many =
      then_refused tt (network_rules N) (36 if ltb max_closures (length closures)) _
      (lt-ltb max_closures (length closures) many)

  -- And what is asked after them decides nothing.
  overlong_before : (closures : List Closure) → max_closures < length closures → (more : List Rule) {Reply : Type 0} (reply : Reply) →
      first_broken (closed_network_rules (closed_by N closures) asker ++ more) reply ≡ refused (number N)
  unfolding closed_network_check_lem
  overlong_before closures many more reply = refused_before (closed_network_rules (closed_by N closures) asker) more tt reply (number N) (overlong closures many)

-- ---- The operations

-- What holds for the rows holds for the list for which they stand, if it is the same for all lists that are too long.
pub answer_alike : {A : Type 0} {answer : List Closure → A} →
    ((some others : List Closure) → max_closures < length some → max_closures < length others → answer some ≡ answer others) →
    {xs : List Closure} {rows : List (List ℕ)} → StandFor xs rows → answer (closures_of rows) ≡ answer xs
answer_alike {answer = answer} too_long (all same) = ap answer same
answer_alike too_long {xs} {rows} (too_many many many-rows) = too_long (closures_of rows) xs (omega (arith, many-rows, length-map rows closure_of)) many

-- An operation that writes ends in its answer and two things more.
pub record SameTooLong {A B C : Type 0} (answer : List Closure → A) (first : List Closure → B) (second : List Closure → C) : Type 0 where
  pub same : (some others : List Closure) → max_closures < length some → max_closures < length others →
      (answer some ≡ answer others) × ((first some ≡ first others) × (second some ≡ second others))

pub alike : {A B C : Type 0} {answer : List Closure → A} {first : List Closure → B} {second : List Closure → C} → SameTooLong answer first second →
    {xs : List Closure} {rows : List (List ℕ)} → StandFor xs rows →
    (answer (closures_of rows) ≡ answer xs) × ((first (closures_of rows) ≡ first xs) × (second (closures_of rows) ≡ second xs))
alike {answer = answer} {first = first} {second = second} too_long (all same) = (ap answer same, (ap first same, ap second same))
alike too_long {xs} {rows} (too_many many many-rows) = too_long.same (closures_of rows) xs (omega (arith, many-rows, length-map rows closure_of)) many

module _ (N : Network) (asker source departure : ℕ) (labels predecessors : List ℕ) where
  labels_overlong : (closures : List Closure) → max_closures < length closures → labels_answer (closed_by N closures) asker source departure labels predecessors ≡ refused (number N)
  unfolding labels_answer
  labels_overlong closures many =
      let M = closed_by N closures in
      refused_before {Reply = ℕ} (question_rules M asker source departure) (buffer_rules M labels predecessors) 0 tt (number N)
      (overlong_before N asker closures many (start_rules M source departure) 0)

  pub labels_too_long : SameTooLong (λ closures. labels_answer (closed_by N closures) asker source departure labels predecessors)
      (λ closures. labels_after (closed_by N closures) asker source departure labels predecessors)
      (λ closures. predecessors_after (closed_by N closures) asker source departure labels predecessors)
  labels_too_long = record { same = λ some others many more. rw (labels_overlong some many, labels_overlong others more) (refl, (refl, refl)) }

  pub passes_too_long : SameTooLong (λ closures. passes_answer (closed_by N closures) asker source departure labels predecessors)
      (λ closures. labels_after (closed_by N closures) asker source departure labels predecessors)
      (λ closures. predecessors_after (closed_by N closures) asker source departure labels predecessors)
  passes_too_long = record { same = λ some others many more. rw (labels_overlong some many, labels_overlong others more) (refl, (refl, refl)) }

  pub tables_too_long : (some others : List Closure) → max_closures < length some → max_closures < length others →
      tables_answer (closed_by N some) asker source departure labels predecessors ≡ tables_answer (closed_by N others) asker source departure labels predecessors
  tables_too_long some others many more = rw (labels_overlong some many, labels_overlong others more) refl

module _ (N : Network) (asker source departure destination : ℕ) (arcs : List ℕ) where
  route_overlong : (closures : List Closure) → max_closures < length closures → route_answer (closed_by N closures) asker source departure destination arcs ≡ refused (number N)
  unfolding route_answer
  route_overlong closures many =
      let M = closed_by N closures in
      refused_before {Reply = ℕ} (question_rules M asker source departure) (destination_rules M destination ++ found_rules (network_for M asker) source departure destination arcs) 0 _ (number N)
      (overlong_before N asker closures many (start_rules M source departure) 0)

  pub route_too_long : SameTooLong (λ closures. route_answer (closed_by N closures) asker source departure destination arcs)
      (λ closures. route_arrival (closed_by N closures) asker source departure destination arcs) (λ closures. arcs_after (closed_by N closures) asker source departure destination arcs)
  route_too_long = record { same = λ some others many more. rw (route_overlong some many, route_overlong others more) (refl, (refl, refl)) }

module _ (N : Network) (asker source : ℕ) (departures labels figures : List ℕ) where
  sheet_overlong : (closures : List Closure) → max_closures < length closures → sheet_answer (closed_by N closures) asker source departures labels figures ≡ refused (number N)
  unfolding sheet_answer
  sheet_overlong closures many =
      let M = closed_by N closures in
      refused_before {Reply = ℕ} (closed_network_rules M asker ++ shift_rules M source departures) (sheet_buffer_rules M departures labels figures) 0 tt (number N)
      (overlong_before N asker closures many (shift_rules M source departures) 0)

  pub sheet_too_long : SameTooLong (λ closures. sheet_answer (closed_by N closures) asker source departures labels figures)
      (λ closures. sheet_labels_after (closed_by N closures) asker source departures labels figures) (λ closures. sheet_figures_after (closed_by N closures) asker source departures labels figures)
  sheet_too_long = record { same = λ some others many more. rw (sheet_overlong some many, sheet_overlong others more) (refl, (refl, refl)) }
