-- Tables that satisfy the conditions are the earliest arrivals. No walk arrives sooner, by induction on the walk; and from a
-- reached junction the predecessors lead back to the source through ever smaller labels, which is a walk that attains it.
use Prim.Native.Nat.{ℕ, zero, suc, ◌≤◌, ◌<◌}
use native.Mathlib.Decide.{ℕ_discrete}
use native.Mathlib.Nat.{le_refl}
use native.Mathlib.Omega.{arith}
use mathlib.Core.Path.{◌≡◌, subst₂}
use mathlib.Core.List.{List}
use mathlib.Core.Logic.{◌⊎◌, inl, inr}
use lib.ListN.{get_or}
use lib.Seq.{ext_get_or}
use Rattle.model.specs.Ticks.{last, never}
use Rattle.model.specs.Walks.{Net, Sound, Arrives, start, along, Earliest}
use Rattle.model.specs.Labels.{no_arc, labels_of, Attains, Certified}
use Rattle.model.proofs.Walks.{drive_by_last, left_before, are_earliest, earliest_unique}
use Rattle.model.proofs.Least.{labels_length, labels_are_earliest}

-- Labels that no arc would lower are no later than any walk.
unlowered_no_sooner : {N : Net} → Sound N → {source departure : ℕ} (label : ℕ → ℕ) → label source ≤ departure →
    ((a : ℕ) → a < N.arcs → label (N.head a) ≤ N.drive a (label (N.tail a))) →
    {j t : ℕ} → Arrives N source departure j t → label j ≤ t
unlowered_no_sooner sound label first no_lower start = first
unlowered_no_sooner {N} sound label first no_lower (along a {t = t} is_arc w arrives) =
    let before : label (N.tail a) ≤ t = unlowered_no_sooner sound label first no_lower w in
    omega (arith, no_lower a is_arc, sound.monotone a (label (N.tail a)) t is_arc before)

-- ---- Arcs that attain a label

module _ {N : Net} (sound : Sound N) {labels : List ℕ} {j a : ℕ} (at : Attains N labels j a) where
  pub attaining_by_last : N.drive a (get_or labels (N.tail a) never) ≤ last
  attaining_by_last = drive_by_last sound a (get_or labels (N.tail a) never) at.is_arc λ none. omega arith

  pub attaining_sooner : get_or labels (N.tail a) never < get_or labels j never
  attaining_sooner = omega (arith, left_before sound a (get_or labels (N.tail a) never) at.is_arc attaining_by_last)

  attaining_walk : {source departure : ℕ} → Arrives N source departure (N.tail a) (get_or labels (N.tail a) never) →
      Arrives N source departure j (get_or labels j never)
  attaining_walk {source} {departure} w =
      subst₂ (Arrives N source departure) at.into at.arrives (along a at.is_arc w attaining_by_last)

-- ---- Certified labels

-- A junction is the source, or unreached, or its predecessor attains its label.
abbrev Standing : Net → ℕ → List ℕ → List ℕ → ℕ → Type 0
Standing N source labels predecessors j =
    (j ≡ source) ⊎ ((get_or labels j never ≡ never) × (get_or predecessors j no_arc ≡ no_arc)) ⊎ Attains N labels j (get_or predecessors j no_arc)

module _ {N : Net} {source departure : ℕ} {labels predecessors : List ℕ} (certified : Certified N source departure labels predecessors) where
  certified_standing : (j : ℕ) → j < N.junctions → Standing N source labels predecessors j
  certified_standing j is_junction = go (ℕ_discrete j source)
    where
      go : Dec (j ≡ source) → Standing N source labels predecessors j
      go (yes e) = inl e
      go (no other) = inr (certified.others j is_junction other)

module _ {N : Net} (sound : Sound N) {source departure : ℕ} (departs : departure ≤ last) {labels predecessors : List ℕ}
    (certified : Certified N source departure labels predecessors) where
  -- The predecessors lead back to the source in as many steps as the label has ticks, or fewer.
  attained_within : (fuel j : ℕ) → get_or labels j never < fuel → j < N.junctions → (get_or labels j never ≡ never → ⊥) →
      Arrives N source departure j (get_or labels j never)
  attained_within zero j less is_junction reached = absurd (omega arith)
  attained_within (suc k) j less is_junction reached = go (certified_standing certified j is_junction) (attained_within k)
    where
      go : Standing N source labels predecessors j →
          ((i : ℕ) → get_or labels i never < k → i < N.junctions → (get_or labels i never ≡ never → ⊥) →
          Arrives N source departure i (get_or labels i never)) →
          Arrives N source departure j (get_or labels j never)
      go (inl e) before = rw (e, certified.source_label) start
      go (inr (inl unreached)) before = absurd (reached unreached.0)
      go (inr (inr at)) before =
          let a = get_or predecessors j no_arc in
          let sooner : get_or labels (N.tail a) never < get_or labels j never = attaining_sooner sound at in
          attaining_walk sound at (before (N.tail a) (omega arith) (sound.tail_below a at.is_arc) λ none. omega arith)

  pub certified_earliest : Earliest N source departure (λ j. get_or labels j never)
  certified_earliest =
      are_earliest sound departs (λ j is_junction reached. attained_within _ j (le_refl _) is_junction reached)
      (λ j t w. unlowered_no_sooner sound (λ i. get_or labels i never) (omega arith) certified.no_lower w)

-- So they are the labels.
pub certified_labels : (N : Net) → Sound N → (source departure : ℕ) → source < N.junctions → departure ≤ last →
    (labels predecessors : List ℕ) → Certified N source departure labels predecessors → labels ≡ labels_of N source departure
certified_labels N sound source departure inside departs labels predecessors certified =
    ext_get_or never labels (labels_of N source departure) (omega (arith, labels_length N source departure)) λ j h.
    earliest_unique (certified_earliest sound departs certified) (labels_are_earliest N sound source departure inside departs) j (omega arith)
