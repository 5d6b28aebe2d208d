-- A call is refused where Labels is; where Labels replies, it says whether the tables are right.
use Prim.Native.Nat.{ℕ}
use mathlib.Core.Path.{◌≡◌, refl, sym, ap, ◌∙◌}
use mathlib.Core.Bool.{Bool, true, false, true≢false}
use mathlib.Core.List.{List}
use Rattle.model.specs.Network.{Network, network_for, net_of}
use Rattle.model.specs.Rules.{replied}
use Rattle.model.specs.SentTables.{tables_right?, TablesRight, Sent}
use Rattle.model.proofs.Rules.{replying_refused, replying_replied}
use Rattle.model.proofs.SentTables.{right_when_tested, right_when_certified, right_labels}
use Rattle.labelling.specs.Labels.{labels_answer}
use Rattle.labelling.proofs.LabelRules.{answered, labelable_for, demand_2_of_call, labels_replies_when_labelable}
use Rattle.certifying.specs.TablesCheck.{TablesRefusedAsLabels, YesExactlyWhenRight, NoExactlyWhenWrong, YesIsLabelsOwn, LabelsTablesHaveYes}
use Rattle.certifying.proofs.Certificate.{sent}

pub tables_refused_as_labels : TablesRefusedAsLabels
tables_refused_as_labels N asker source departure labels predecessors number = (replying_refused _ _, λ e. rw e)

module _ (N : Network) (asker source departure : ℕ) (labels predecessors : List ℕ) where
  abbrev Right : Type 0
  Right = TablesRight (net_of (network_for N asker)) source departure labels predecessors

  abbrev right? : Bool
  right? = tables_right? (net_of (network_for N asker)) source departure labels predecessors

  module _ (replies : labels_answer N asker source departure labels predecessors ≡ replied tt) where
    sent_for : Sent (net_of (network_for N asker)) source departure labels predecessors
    sent_for = sent (labelable_for _ _ _ _ _ _ (answered _ _ _ _ _ _ replies).1)

    tested : right? ≡ true → Right
    tested = (right_when_tested _ _ _ _ _ sent_for).0

    test : Right → right? ≡ true
    test = (right_when_tested _ _ _ _ _ sent_for).1

    not_tested : (Right → ⊥) → right? ≡ false
    not_tested wrong = go right? tested
      where
        go : (b : Bool) → (b ≡ true → Right) → b ≡ false
        go true is = absurd (wrong (is refl))
        go false is = refl

pub yes_exactly_when_right : YesExactlyWhenRight
yes_exactly_when_right N asker source departure labels predecessors = (
  (λ e. let (replies, is) = replying_replied _ _ e in (replies, tested N asker source departure labels predecessors replies is)),
  (λ (replies, right). rw replies (ap replied (test N asker source departure labels predecessors replies right))),
)

pub no_exactly_when_wrong : NoExactlyWhenWrong
no_exactly_when_wrong N asker source departure labels predecessors = (
  (λ e. let (replies, is) = replying_replied _ _ e in (replies, λ right. true≢false (sym (test N asker source departure labels predecessors replies right) ∙ is))),
  (λ (replies, wrong). rw replies (ap replied (not_tested N asker source departure labels predecessors replies wrong))),
)

pub yes_is_labels_own : YesIsLabelsOwn
yes_is_labels_own N asker source departure labels predecessors e =
    let (replies, right) = (yes_exactly_when_right N asker source departure labels predecessors).0 e in
    rw replies (right_labels (sent_for N asker source departure labels predecessors replies) right)

pub labels_tables_have_yes : LabelsTablesHaveYes
labels_tables_have_yes N asker source departure labels predecessors replies =
    let (_, certified, _) = demand_2_of_call N asker source departure labels predecessors replies in
    let (known, q) = answered N asker source departure labels predecessors replies in
    let again = (labels_replies_when_labelable N asker source departure _ _).1
    (known, record { taken = q.taken; labels_long = certified.labels_long; predecessors_long = certified.predecessors_long }) in
    let right = (right_when_certified _ _ _ _ _ (sent_for N asker source departure _ _ again)).1 certified in
    (yes_exactly_when_right N asker source departure _ _).1 (again, right)
