-- Walks of a sound net. Waiting gains nothing, so labels are earliest if no plain walk arrives sooner. Each walk has one that
-- arrives no later and visits no junction twice, and so no more junctions than there are: where a walk comes back to a
-- junction, it goes on from its first visit, which was earlier.
use Prim.Native.Nat.{ℕ, ◌≤◌, ◌<◌}
use mathlib.Core.Path.{◌≡◌, sym, subst}
use mathlib.Core.Logic.{inl, inr, ⊎_elim}
use mathlib.Core.List.{List, [], ◌∷◌}
use native.Mathlib.Nat.{le_antisymm}
use native.Mathlib.Decide.{dec_lt, ℕ_discrete}
use native.Mathlib.Omega.{arith}
use lib.ListN.{length}
use Rattle.model.specs.Ticks.{last, never}
use Rattle.model.specs.Walks.{Net, Sound, Arrives, start, along, ArrivesWaiting, Earliest, EarliestIsUnique}
use Rattle.model.proofs.Distinct.{Member, Distinct, member?, distinct_length}

-- ---- Arcs

module _ {N : Net} (sound : Sound N) (a t : ℕ) (is_arc : a < N.arcs) where
  -- Who arrives does so by the last tick.
  pub drive_by_last : (N.drive a t ≡ never → ⊥) → N.drive a t ≤ last
  drive_by_last arrives = ⊎_elim (λ by_Last. by_Last) (λ none. absurd (arrives none)) (sound.driven a t is_arc)

  -- Who leaves at the last tick, or later, arrives after it, and so never.
  pub drive_never : last ≤ t → N.drive a t ≡ never
  drive_never late =
      let after : last < N.drive a t = omega (arith, sound.later a last is_arc (omega arith), sound.monotone a last t is_arc late) in
      ⊎_elim (λ by_Last. absurd (omega arith)) (λ none. none) (sound.driven a t is_arc)

  -- Who arrives has left before.
  pub left_before : N.drive a t ≤ last → t < N.drive a t
  left_before arrives = go (dec_lt t last)
    where
      go : Dec (t < last) → t < N.drive a t
      go (yes in_time) = sound.later a t is_arc (omega arith)
      go (no late) = absurd (omega (arith, drive_never (omega arith)))

-- ---- Ticks of a walk

pub arrives_by_last : {N : Net} {source departure j t : ℕ} → departure ≤ last → Arrives N source departure j t → t ≤ last
arrives_by_last departs start = departs
arrives_by_last departs (along a is_arc w arrives) = arrives

module _ {N : Net} (sound : Sound N) {source departure : ℕ} where
  pub arrives_from_departure : {j t : ℕ} → Arrives N source departure j t → departure ≤ t
  arrives_from_departure start = omega arith
  arrives_from_departure (along a {t = t} is_arc w arrives) =
      omega (arith, arrives_from_departure w, left_before sound a t is_arc arrives)

  pub waiting_no_sooner : {j t : ℕ} → ArrivesWaiting N source departure j t → (u : ℕ) × Arrives N source departure j u × (u ≤ t)
  waiting_no_sooner start = (departure, start, omega arith)
  waiting_no_sooner (along a {t = t} u is_arc w waits arrives) = go (waiting_no_sooner w)
    where
      go : (s : ℕ) × Arrives N source departure (N.tail a) s × (s ≤ t) → (s : ℕ) × Arrives N source departure (N.head a) s × (s ≤ N.drive a u)
      go (s, v, sooner) =
          let no_later : N.drive a s ≤ N.drive a u = sound.monotone a s u is_arc (omega arith) in
          (N.drive a s, along a is_arc v (omega arith), no_later)

-- ---- Earliest labels

module _ {N : Net} {source departure : ℕ} where
  -- Labels that walks attain, and before which none arrives, are earliest.
  pub are_earliest : Sound N → departure ≤ last → {label : ℕ → ℕ} →
      ((j : ℕ) → j < N.junctions → (label j ≡ never → ⊥) → Arrives N source departure j (label j)) →
      ((j t : ℕ) → Arrives N source departure j t → label j ≤ t) → Earliest N source departure label
  are_earliest sound departs attained no_sooner = record {
    attained = attained;
    no_sooner = no_sooner;
    no_sooner_waiting = λ j t w. let (u, v, sooner) = waiting_no_sooner sound w in omega (arith, no_sooner j u v);
    unreached = λ j t none w. omega (arith, no_sooner j t w, arrives_by_last departs w);
  }

  pub earliest_at_most_never : departure ≤ last → {label : ℕ → ℕ} → Earliest N source departure label → (j : ℕ) → j < N.junctions → label j ≤ never
  earliest_at_most_never departs {label} earliest j is_junction = go (ℕ_discrete (label j) never)
    where
      go : Dec (label j ≡ never) → label j ≤ never
      go (yes unreached) = omega arith
      go (no reached) = omega (arith, arrives_by_last departs (earliest.attained j is_junction reached))

  -- Two labellings that are earliest agree.
  pub earliest_unique : {f g : ℕ → ℕ} → Earliest N source departure f → Earliest N source departure g → (j : ℕ) → j < N.junctions → f j ≡ g j
  earliest_unique {f} {g} of-f of-g j is_junction = go (ℕ_discrete (f j) never) (ℕ_discrete (g j) never)
    where
      go : Dec (f j ≡ never) → Dec (g j ≡ never) → f j ≡ g j
      go (yes none) (yes none') = cc
      go (yes none) (no reached) = absurd (of-f.unreached j (g j) none (of-g.attained j is_junction reached))
      go (no reached) (yes none) = absurd (of-g.unreached j (f j) none (of-f.attained j is_junction reached))
      go (no reached) (no reached') =
          le_antisymm (of-f.no_sooner j (g j) (of-g.attained j is_junction reached')) (of-g.no_sooner j (f j) (of-f.attained j is_junction reached))

-- ---- Walks without repetition

-- The junctions that a walk visits, the last first.
abbrev pub visited : {N : Net} {source departure j t : ℕ} → Arrives N source departure j t → List ℕ
visited {source = source} start = source ∷ []
visited {N = N} (along a is_arc w arrives) = N.head a ∷ visited w

pub visited_some : {N : Net} {source departure j t : ℕ} (w : Arrives N source departure j t) → 1 ≤ length (visited w)
visited_some start = omega arith
visited_some (along a is_arc w arrives) = omega arith

visited_inside : {N : Net} {source departure j t : ℕ} → Sound N → source < N.junctions → (w : Arrives N source departure j t) (i : ℕ) → Member i (visited w) → i < N.junctions
visited_inside sound inside start i (inl e) = omega arith
visited_inside sound inside start i (inr m) = absurd m
visited_inside sound inside (along a is_arc w arrives) i (inl e) = omega (arith, sound.head_below a is_arc)
visited_inside sound inside (along a is_arc w arrives) i (inr m) = visited_inside sound inside w i m

-- A walk to the junction that arrives by the tick and visits no junction twice.
pub record Simple (N : Net) (source departure j t : ℕ) : Type 0 where
  pub tick : ℕ
  pub walk : Arrives N source departure j tick
  pub no_later : tick ≤ t
  pub distinct : Distinct (visited walk)

module _ {N : Net} {source departure : ℕ} where
  exactly : {i t : ℕ} (w : Arrives N source departure i t) → Distinct (visited w) → Simple N source departure i t
  exactly {t = t} w d = record { tick = t; walk = w; no_later = omega arith; distinct = d }

  relax : {j t u : ℕ} → Simple N source departure j t → t ≤ u → Simple N source departure j u
  relax s later = record { tick = s.tick; walk = s.walk; no_later = omega arith; distinct = s.distinct }

  rename : {i j t : ℕ} → j ≡ i → Simple N source departure i t → Simple N source departure j t
  rename {t = t} e s = subst (λ (k : ℕ). Simple N source departure k t) (sym e) s

-- So it visits no more junctions than there are.
pub simple_length : {N : Net} {source departure j t : ℕ} → Sound N → source < N.junctions → (s : Simple N source departure j t) → length (visited s.walk) ≤ N.junctions
simple_length {N} sound inside s = distinct_length N.junctions (visited s.walk) (visited_inside sound inside s.walk) s.distinct

module _ {N : Net} (sound : Sound N) {source departure : ℕ} where
  -- The part of a walk up to its visit of j.
  up_to : (j : ℕ) {i t : ℕ} (w : Arrives N source departure i t) → Member j (visited w) → Distinct (visited w) → Simple N source departure j t
  up_to j start (inl e) d = rename e (exactly start d)
  up_to j start (inr m) d = absurd m
  up_to j (along a is_arc w arrives) (inl e) d = rename e (exactly (along a is_arc w arrives) d)
  up_to j (along a {t = t} is_arc w arrives) (inr m) d = relax (up_to j w m d.1) (omega (arith, left_before sound a t is_arc arrives))

  -- One arc more, unless its head is visited already.
  extend : (a : ℕ) {t : ℕ} → a < N.arcs → N.drive a t ≤ last → Simple N source departure (N.tail a) t → Simple N source departure (N.head a) (N.drive a t)
  extend a {t} is_arc arrives s = go (member? (N.head a) (visited s.walk))
    where
      go : Dec (Member (N.head a) (visited s.walk)) → Simple N source departure (N.head a) (N.drive a t)
      go (yes m) = relax (up_to (N.head a) s.walk m s.distinct) (omega (arith, left_before sound a t is_arc arrives))
      go (no new) =
          let sooner : N.drive a s.tick ≤ N.drive a t = sound.monotone a s.tick t is_arc s.no_later in
          relax (exactly (along a is_arc s.walk (omega arith)) (new, s.distinct)) sooner

  pub shorten : {j t : ℕ} → Arrives N source departure j t → Simple N source departure j t
  shorten start = exactly start (λ m. m, tt)
  shorten (along a is_arc w arrives) = extend a is_arc arrives (shorten w)

pub earliest_is_unique : EarliestIsUnique
earliest_is_unique N source departure f g = earliest_unique
