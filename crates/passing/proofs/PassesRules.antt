-- A call is refused where Labels is; where Labels replies, so does it, with the number of passes.
use Prim.Native.Nat.{ℕ}
use mathlib.Core.Path.{◌≡◌, sym, ap, ◌∙◌}
use mathlib.Core.List.{List}
use native.Mathlib.Omega.{arith}
use Rattle.model.specs.Network.{Network, network_for, net_of}
use Rattle.model.specs.Passes.{after_passes}
use Rattle.model.specs.Rules.{replied}
use Rattle.model.proofs.Rules.{replying_refused, replying_replied}
use Rattle.checking.specs.Question.{Taken}
use Rattle.checking.proofs.QuestionRules.{taken_for}
use Rattle.labelling.specs.Labels.{labels_answer}
use Rattle.labelling.proofs.LabelRules.{answered}
use Rattle.passing.specs.Passes.{PassesRefusesAsLabels, PassesRepliesFirstUnchanged, PassesOfCall}
use Rattle.passing.proofs.Taken.{first_unchanged_law, number_bounds, leaves_labels}

-- ---- The statements

pub passes_refuses_as_labels : PassesRefusesAsLabels
passes_refuses_as_labels N asker source departure labels predecessors number = (replying_refused _ _, λ e. rw e)

module _ (N : Network) (asker source departure : ℕ) (labels predecessors : List ℕ) where
  -- where Labels replies, the question is taken on the network as the asker finds it
  taken : labels_answer N asker source departure labels predecessors ≡ replied tt → Taken (network_for N asker) source departure
  taken replies = taken_for asker (answered N asker source departure labels predecessors replies).1.taken

pub passes_replies_first_unchanged : PassesRepliesFirstUnchanged
passes_replies_first_unchanged N asker source departure labels predecessors number = (
  λ e. let (replies, is) = replying_replied _ _ e in (replies, (first_unchanged_law (taken N asker source departure labels predecessors replies) number).0 (sym is)),
  λ (replies, first). rw replies (ap replied (sym ((first_unchanged_law (taken N asker source departure labels predecessors replies) number).1 first))),
)

pub passes_of_call : PassesOfCall
passes_of_call N asker source departure labels predecessors number e =
    let (replies, is) = replying_replied _ _ e in
    let q = taken N asker source departure labels predecessors replies in
    let (from_1, few) = number_bounds q in
    (omega arith, omega arith, rw replies (ap (after_passes (net_of (network_for N asker)) source departure) (sym is) ∙ leaves_labels q))
