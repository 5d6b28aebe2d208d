-- Where a town file's town is labelled, the labelling is that of a network which the check accepts, and both buffers begin with it.
use Prim.Native.Nat.{ℕ, ◌≤◌}
use mathlib.Core.Path.{◌≡◌, refl, sym, ap, ◌∙◌}
use mathlib.Core.List.{List}
use native.Mathlib.Omega.{arith}
use lib.ListN.{length, take, drop, length-append}
use lib.Seq.{take_at}
use Rattle.model.specs.Network.{Network}
use Rattle.model.specs.NetworkRules.{network_check_lem}
use Rattle.model.specs.Rules.{replied, written}
use Rattle.townfile.specs.FirstFault.{Reading, refused_at, accepted, first_fault}
use Rattle.townfile.specs.Grammar.{Bytes, network_of}
use Rattle.townfile.specs.declared.progress.Progress.{Progress}
use Rattle.townfile.proofs.Described.{faultless_described, described_is_accepted}
use Rattle.question_line.proofs.Towns.{answer_faulty, answer_described}
use Rattle.town_labels.specs.Labelling.{Labelling, labelling_of, network_labelling, town_labelling, junction_count, labels_after, predecessors_after}
use Rattle.town_labels.proofs.Networks.{labels_count, predecessors_count, labelled_so}

-- Entries written at a table's start.
module _ (entries table : List ℕ) {count : ℕ} (long : length entries ≡ count) where
  written_inside : count ≤ length (written entries table)
  written_inside = omega (arith, length-append entries (drop (length entries) table))

  written_start : take count (written entries table) ≡ entries
  written_start = take_at entries (drop (length entries) table) count long

module _ (text : List ℕ) (source departure : ℕ) where
  abbrev reading : Reading Labelling
  reading = town_labelling text source departure

  pub record Labels (count : ℕ) (labels predecessors : List ℕ) : Type 0 where
    pub network : Network
    pub checked : network_check_lem network ≡ replied tt
    pub answers : reading ≡ accepted (labelling_of network source departure)
    pub labels_room : count ≤ length labels
    pub labels_start : take count labels ≡ (labelling_of network source departure).labels
    pub predecessors_room : count ≤ length predecessors
    pub predecessors_start : take count predecessors ≡ (labelling_of network source departure).predecessors

  pub labels_refused : {number line : ℕ} → refused_at number line ≡ junction_count reading → reading ≡ refused_at number line
  labels_refused {number} {line} refused = go reading refl
    where
      go : (found : Reading Labelling) → reading ≡ found → reading ≡ refused_at number line
      go (refused_at number' line') f = let same = refused ∙ ap junction_count f in f ∙ cc
      go (accepted reply) f = (let same = refused ∙ ap junction_count f in absurd (let z : ◌≡◌ {A = ℕ} 0 1 = cc in omega arith))

  module _ (bytes : Bytes text) where
    labelled_network : {reply : Labelling} → reading ≡ accepted reply → (N : Network) × (network_check_lem N ≡ replied tt) × (reply ≡ labelling_of N source departure)
    labelled_network {reply} e = go (first_fault text) refl
      where
        go : (fault : Reading Progress) → first_fault text ≡ fault → (N : Network) × (network_check_lem N ≡ replied tt) × (reply ≡ labelling_of N source departure)
        go (refused_at number line) f =
            (let faulty = answer_faulty (λ N. network_labelling N source departure) text f in absurd (let z : ◌≡◌ {A = ℕ} 0 1 = cc in omega arith))
        go (accepted progress) f =
            (let (town, described) = faultless_described bytes f in
            let same = answer_described (λ N. network_labelling N source departure) text described in
            (network_of town, described_is_accepted text progress.held town described, labelled_so (network_of town) source departure (sym same ∙ e)))

    pub labels_found : {count : ℕ} {labels predecessors : List ℕ} (before before' : List ℕ) → accepted count ≡ junction_count reading →
        labels ≡ labels_after reading before → predecessors ≡ predecessors_after reading before' → Labels count labels predecessors
    labels_found {count} {labels} {predecessors} before before' counted labels_are predecessors_are = go reading refl
      where
        go : (found : Reading Labelling) → reading ≡ found → Labels count labels predecessors
        go (refused_at number line) f = (let refused = counted ∙ ap junction_count f in absurd (let z : ◌≡◌ {A = ℕ} 0 1 = cc in omega arith))
        go (accepted reply) f =
            (let (N, checked, so) = labelled_network f in
            let tables = labelling_of N source departure in
            let is : reading ≡ accepted tables = f ∙ ap accepted so in
            let all : accepted count ≡ accepted (length tables.labels) = counted ∙ ap junction_count is in
            let many : length tables.labels ≡ count = cc in
            let as_many = predecessors_count N source departure ∙ sym (labels_count N source departure) ∙ many in
            record {
              network = N;
              checked = checked;
              answers = is;
              labels_room = rw (labels_are, is) (written_inside tables.labels before many);
              labels_start = rw (labels_are, is) (written_start tables.labels before many);
              predecessors_room = rw (predecessors_are, is) (written_inside tables.predecessors before' as_many);
              predecessors_start = rw (predecessors_are, is) (written_start tables.predecessors before' as_many);
            })
