-- In a network that the check accepts, with buffers that have room for every junction, Labels refuses only with 9 and 10; then the buffers stay as they
-- were, and otherwise they begin with the labelling.
use Prim.Native.Nat.{ℕ, ◌≤◌}
use mathlib.Core.Path.{◌≡◌, refl, sym, ap, ◌∙◌}
use mathlib.Core.List.{List, [], ◌++◌}
use native.Mathlib.Omega.{arith}
use lib.ListN.{length, take-append-drop}
use lib.Seq.{length-take-le}
use borrow.Author.Tests.{eq-eqb}
use Rattle.model.specs.Labels.{labels_of, predecessors_of, predecessor_of}
use Rattle.model.specs.Limits.{max_junctions}
use Rattle.model.specs.Network.{Network, Accepted, net_of}
use Rattle.model.specs.Parties.{brigade}
use Rattle.model.specs.NetworkRules.{network_check_lem}
use Rattle.model.specs.Rules.{Outcome, refused, replied, first_broken, written}
use Rattle.model.proofs.NetworkRules.{accepts_when_kept}
use Rattle.checking.specs.ClosedNetwork.{closed_network_rules}
use Rattle.checking.proofs.QuestionRules.{open_kept}
use Rattle.model.proofs.Predecessors.{length_tabulate}
use Rattle.model.proofs.Rules.{kept_before, refused_before, kept_replies, replies_kept}
use Rattle.model.proofs.Within.{within_length}
use Rattle.townfile.specs.FirstFault.{Reading, refused_at, accepted}
use Rattle.checking.specs.Question.{start_rules}
use Rattle.labelling.specs.Labels.{buffer_rules, labels_answer}
use Rattle.labelling.specs.Within.{front, answer_within, labels_within_lem, predecessors_within}
use Rattle.question_line.specs.Answers.{at_line_zero}
use Rattle.town_labels.specs.Labelling.{Labelling, labelling_of, network_labelling}

-- As many entries as junctions.
module _ (N : Network) (source departure : ℕ) where
  pub labels_count : length (labels_of (net_of N) source departure) ≡ N.junctions
  unfolding labels_of
  labels_count = within_length (net_of N) source departure N.junctions

  pub predecessors_count : length (predecessors_of (net_of N) source departure) ≡ N.junctions
  unfolding predecessors_of
  predecessors_count = length_tabulate (predecessor_of (net_of N) source (labels_of (net_of N) source departure)) 0 N.junctions

-- The front of a table, written where it stands.
front_stays : (N : Network) (table : List ℕ) → N.junctions ≤ length table → written (front N table) table ≡ table
front_stays N table room = rw (length-take-le N.junctions table room) (take-append-drop N.junctions table)

module _ (N : Network) (source departure : ℕ) where
  abbrev labelling : Labelling
  labelling = labelling_of N source departure

  -- What is labelled is the labelling.
  pub labelled_so : {reply : Labelling} → network_labelling N source departure ≡ accepted reply → reply ≡ labelling
  unfolding network_labelling
  labelled_so {reply} e = go (first_broken (start_rules N source departure) labelling) refl e
    where
      go : (outcome : Outcome Labelling) → first_broken (start_rules N source departure) labelling ≡ outcome → at_line_zero outcome ≡ accepted reply → reply ≡ labelling
      go (refused number) o e = absurd (let z : ◌≡◌ {A = ℕ} 0 1 = cc in omega arith)
      go (replied found) o e =
          let rules = start_rules N source departure in
          cc (kept_replies rules labelling (replies_kept rules labelling found o))

  module _ (checked : network_check_lem N ≡ replied tt) where
    keeps : Accepted N
    keeps = (accepts_when_kept N).0 checked

    pub few_junctions : N.junctions ≤ max_junctions
    few_junctions = keeps.junctions_fit

    -- Buffers with room for every network.
    module _ (none : N.closures ≡ []) (labels predecessors : List ℕ) (labels_long : max_junctions ≤ length labels) (predecessors_long : max_junctions ≤ length predecessors) where
      labels_room : N.junctions ≤ length labels
      labels_room = omega (arith, few_junctions)

      predecessors_room : N.junctions ≤ length predecessors
      predecessors_room = omega (arith, few_junctions)

      abbrev answer : Outcome (Unit {0})
      answer = answer_within N brigade source departure labels predecessors

      start_only : answer ≡ first_broken (start_rules N source departure) tt
      unfolding labels_answer first_broken
      start_only =
          let buffers = buffer_rules N (front N labels) (front N predecessors) in
          let network-kept = kept_before (closed_network_rules N brigade) (start_rules N source departure ++ buffers) tt (open_kept N none keeps) in
          let labels-kept = eq-eqb (length (front N labels)) N.junctions (length-take-le N.junctions labels labels_room) in
          let predecessors-kept = eq-eqb (length (front N predecessors)) N.junctions (length-take-le N.junctions predecessors predecessors_room) in
          network-kept ∙ rw (labels-kept, predecessors-kept)

      -- The answer, and what both buffers hold afterwards.
      abbrev Ends : Reading Labelling → List ℕ → List ℕ → Type 0
      Ends reading labels' predecessors' = (network_labelling N source departure ≡ reading)
          × (labels_within_lem N brigade source departure labels predecessors ≡ labels')
          × (predecessors_within N brigade source departure labels predecessors ≡ predecessors')

      pub ends_refused : {number : ℕ} → refused number ≡ answer → Ends (refused_at number 0) labels predecessors
      unfolding network_labelling
      ends_refused {number} e = (
        ap at_line_zero (refused_before (start_rules N source departure) [] tt labelling number (sym (e ∙ start_only))),
        rw (← e) (front_stays N labels labels_room),
        rw (← e) (front_stays N predecessors predecessors_room),
      )

      pub ends_written : replied tt ≡ answer → Ends (accepted labelling) (written labelling.labels labels) (written labelling.predecessors predecessors)
      unfolding network_labelling
      ends_written e =
          let rules = start_rules N source departure in (
            ap at_line_zero (kept_replies rules labelling (replies_kept rules tt tt (sym (e ∙ start_only)))),
            rw (← e, none),
            rw (← e, none),
          )
