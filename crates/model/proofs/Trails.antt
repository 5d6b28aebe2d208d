-- Trails: the predecessors followed from a reached junction all the way back to the source. The labels fall along a trail, so
-- it passes no junction twice, and has fewer arcs than there are junctions.
use Prim.Native.Nat.{ℕ, zero, suc, ◌≤◌, ◌<◌}
use native.Mathlib.Decide.{ℕ_discrete}
use native.Mathlib.Nat.{le_refl}
use native.Mathlib.Omega.{arith}
use mathlib.Core.Path.{◌≡◌, refl, ◌∙◌, ap, subst₂}
use mathlib.Core.List.{List, [], ◌∷◌, ◌++◌, reverse, reverse-cons, map-append}
use mathlib.Core.Logic.{⊎_elim}
use lib.ListN.{length, get_or, length-map, length-reverse}
use borrow.Author.Tests.{eq-eqb, ne_eqb}
use Rattle.model.specs.Ticks.{never}
use Rattle.model.specs.Walks.{Net, Sound}
use Rattle.model.specs.Labels.{no_arc, Attains, Certified}
use Rattle.model.specs.Routes.{arcs_back, Driven, start, along, stops}
use Rattle.model.proofs.Distinct.{Member, Distinct, member_snoc, distinct_snoc, distinct_length}
use Rattle.model.proofs.Certificate.{attaining_by_last, attaining_sooner}

-- ---- The junctions passed

module _ (N : Net) (source : ℕ) where
  pub stops_none : stops N source [] ≡ source ∷ []
  unfolding stops
  stops_none = refl

  -- One arc more passes its head.
  pub stops_more : (a : ℕ) (arcs : List ℕ) → stops N source (arcs ++ (a ∷ [])) ≡ stops N source arcs ++ (N.head a ∷ [])
  unfolding stops
  stops_more a arcs = ap (λ (heads : List ℕ). source ∷ heads) (map-append N.head arcs (a ∷ []))

  stops_back : (a : ℕ) (arcs : List ℕ) → stops N source (reverse (a ∷ arcs)) ≡ stops N source (reverse arcs) ++ (N.head a ∷ [])
  stops_back a arcs = ap (stops N source) (reverse-cons a arcs) ∙ stops_more a (reverse arcs)

  pub length_stops : (arcs : List ℕ) → length (stops N source arcs) ≡ suc (length arcs)
  unfolding stops
  length_stops arcs = ap suc (length-map arcs N.head)

-- ---- Following predecessors

module _ (N : Net) (source : ℕ) (predecessors : List ℕ) where
  -- The source has no arcs, however many are allowed.
  pub arcs_back_source : (most : ℕ) → arcs_back N.tail source predecessors most source ≡ []
  unfolding arcs_back
  arcs_back_source zero = refl
  arcs_back_source (suc most) = rw (eq-eqb source source refl)

  -- Any other junction has its predecessor, and then the arcs of the predecessor's tail.
  pub arcs_back_other : (most j : ℕ) → (j ≡ source → ⊥) →
      arcs_back N.tail source predecessors (suc most) j ≡ get_or predecessors j no_arc ∷ arcs_back N.tail source predecessors most (N.tail (get_or predecessors j no_arc))
  unfolding arcs_back
  arcs_back_other most j other = rw (ne_eqb j source other)

-- ---- The trail of a reached junction: all the way back to the source

pub data Trail (N : Net) (source : ℕ) (labels predecessors : List ℕ) : ℕ → List ℕ → Type 0 where
  here : Trail N source labels predecessors source []
  back : (j : ℕ) {arcs : List ℕ} → (j ≡ source → ⊥) → Attains N labels j (get_or predecessors j no_arc) →
      Trail N source labels predecessors (N.tail (get_or predecessors j no_arc)) arcs → Trail N source labels predecessors j (get_or predecessors j no_arc ∷ arcs)

module _ {N : Net} (sound : Sound N) {source : ℕ} {labels predecessors : List ℕ} where
  -- A trail is found by following predecessors, if its arcs are no more than are allowed.
  pub trail_arcs_back : {j : ℕ} {arcs : List ℕ} → Trail N source labels predecessors j arcs → (most : ℕ) → length arcs ≤ most →
      arcs_back N.tail source predecessors most j ≡ arcs
  trail_arcs_back here most enough = arcs_back_source N source predecessors most
  trail_arcs_back (back j other at rest) zero enough = absurd (omega arith)
  trail_arcs_back (back j other at rest) (suc most) enough =
      rw (arcs_back_other N source predecessors most j other, trail_arcs_back rest most (omega arith))

  pub trail_driven : {departure : ℕ} → get_or labels source never ≡ departure → {j : ℕ} {arcs : List ℕ} → Trail N source labels predecessors j arcs →
      Driven N source departure (reverse arcs) j (get_or labels j never)
  trail_driven e here = rw e start
  trail_driven {departure} e (back j {arcs = arcs} other at rest) =
      let a = get_or predecessors j no_arc in
      rw (reverse-cons a arcs)
      (subst₂ (Driven N source departure (reverse arcs ++ (a ∷ []))) at.into at.arrives
      (along a (trail_driven e rest) at.is_arc (attaining_by_last sound at)))

  -- The junctions passed have labels up to that of the last, and so no two are the same.
  module _ (inside : source < N.junctions) where
    trail_no_later : {j : ℕ} {arcs : List ℕ} → Trail N source labels predecessors j arcs → (i : ℕ) → Member i (stops N source (reverse arcs)) →
        (i < N.junctions) × (get_or labels i never ≤ get_or labels j never)
    trail_no_later here i m = ⊎_elim (λ e. rw e (inside, le_refl _)) (λ none. absurd none) (rw (stops_none N source) at m)
    trail_no_later (back j {arcs = arcs} other at rest) i m =
        let a = get_or predecessors j no_arc in
        ⊎_elim
        (λ earlier. let known = trail_no_later rest i earlier in (known.0, omega (arith, attaining_sooner sound at)))
        (λ e. (omega (arith, sound.head_below a at.is_arc), rw e (rw at.into (le_refl _))))
        (member_snoc (N.head a) i (stops N source (reverse arcs)) (rw (stops_back N source a arcs) at m))

    pub trail_distinct : {j : ℕ} {arcs : List ℕ} → Trail N source labels predecessors j arcs → Distinct (stops N source (reverse arcs))
    trail_distinct here = rw (stops_none N source) (λ m. m, tt)
    trail_distinct (back j {arcs = arcs} other at rest) =
        let a = get_or predecessors j no_arc in
        rw (stops_back N source a arcs, at.into)
        (distinct_snoc j (stops N source (reverse arcs)) (trail_distinct rest)
        λ m. omega (arith, (trail_no_later rest j m).1, attaining_sooner sound at))

    pub trail_short : {j : ℕ} {arcs : List ℕ} → Trail N source labels predecessors j arcs → length arcs < N.junctions
    trail_short {arcs = arcs} trail =
        let few : length (stops N source (reverse arcs)) ≤ N.junctions =
        distinct_length N.junctions (stops N source (reverse arcs)) (λ i m. (trail_no_later trail i m).0) (trail_distinct trail) in
        omega (arith, length_stops N source (reverse arcs), length-reverse arcs)

-- ---- Certified tables have a trail from every reached junction

module _ {N : Net} (sound : Sound N) {source departure : ℕ} {labels predecessors : List ℕ} (certified : Certified N source departure labels predecessors) where
  pub certified_attains : (j : ℕ) → j < N.junctions → (get_or labels j never ≡ never → ⊥) → (j ≡ source → ⊥) → Attains N labels j (get_or predecessors j no_arc)
  certified_attains j is_junction reached other = ⊎_elim (λ unreached. absurd (reached unreached.0)) (λ at. at) (certified.others j is_junction other)

  -- In as many steps as the label has ticks, or fewer.
  trail_within : (fuel j : ℕ) → get_or labels j never < fuel → j < N.junctions → (get_or labels j never ≡ never → ⊥) →
      (arcs : List ℕ) × Trail N source labels predecessors j arcs
  trail_within zero j less is_junction reached = absurd (omega arith)
  trail_within (suc k) j less is_junction reached = go (ℕ_discrete j source) (trail_within k)
    where
      go : Dec (j ≡ source) →
          ((i : ℕ) → get_or labels i never < k → i < N.junctions → (get_or labels i never ≡ never → ⊥) →
          (arcs : List ℕ) × Trail N source labels predecessors i arcs) →
          (arcs : List ℕ) × Trail N source labels predecessors j arcs
      go (yes e) before = rw e ([], here)
      go (no other) before =
          let a = get_or predecessors j no_arc in
          let at : Attains N labels j a = certified_attains j is_junction reached other in
          let sooner : get_or labels (N.tail a) never < get_or labels j never = attaining_sooner sound at in
          let (arcs, rest) = before (N.tail a) (omega arith) (sound.tail_below a at.is_arc) λ none. omega arith in
          (a ∷ arcs, back j other at rest)

  pub certified_trail : (j : ℕ) → j < N.junctions → (get_or labels j never ≡ never → ⊥) → (arcs : List ℕ) × Trail N source labels predecessors j arcs
  certified_trail j is_junction reached = trail_within _ j (le_refl _) is_junction reached
