-- The entries of `within`, by induction on the number of rounds: one other than never is the arrival of a walk, and each is at
-- most the arrival of every walk of at most as many arcs. An offer never raises an entry.
use Prim.Native.Nat.{ℕ, zero, suc, ◌≤◌, ◌<◌, min}
use mathlib.Core.Path.{◌≡◌, refl, sym, ap, ◌∙◌}
use mathlib.Core.Logic.{◌⊎◌, inl, inr, ⊎_elim}
use mathlib.Core.List.{List}
use native.Mathlib.Nat.{min-eq_left, min-eq_right}
use native.Mathlib.Decide.{dec_le, dec_lt, ℕ_discrete}
use native.Mathlib.Omega.{arith}
use lib.ListN.{length, get_or, set, replicate, length-set, length-replicate}
use lib.Seq.{get_or-set_same, get_or-set_other, set_out}
use Rattle.model.specs.Ticks.{last, never}
use Rattle.model.specs.Walks.{Net, Sound, Arrives, start, along}
use Rattle.model.specs.Labels.{offer, offers, within}
use Rattle.model.proofs.Entries.{get_or-all}
use Rattle.model.proofs.Walks.{drive_by_last, left_before, visited, visited_some}

-- ---- Lists

-- An element after a store is the one before, or what was stored.
get_d_set : (l : List ℕ) (i j v d : ℕ) → (get_or (set l i v) j d ≡ get_or l j d) ⊎ ((j ≡ i) × (get_or (set l i v) j d ≡ v))
get_d_set l i j v d = go (ℕ_discrete j i) (dec_lt i (length l))
  where
    go : Dec (j ≡ i) → Dec (i < length l) → (get_or (set l i v) j d ≡ get_or l j d) ⊎ ((j ≡ i) × (get_or (set l i v) j d ≡ v))
    go (no differs) inside = inl (get_or-set_other l i j v d differs)
    go (yes e) (yes inside) = inr (e, rw e (get_or-set_same l i v d inside))
    go (yes e) (no outside) = inl (rw (set_out l i v (omega arith)))

-- ---- A round of offers

-- What arc a offers its head.
abbrev pub offered : Net → List ℕ → ℕ → ℕ
offered N old a = N.drive a (get_or old (N.tail a) never)

module _ (N : Net) (old : List ℕ) where
  pub offer_length : (a : ℕ) (new : List ℕ) → length (offer N old a new) ≡ length new
  unfolding offer
  offer_length a new = length-set new (N.head a) (min (get_or new (N.head a) never) (offered N old a))

  offers_length : (k : ℕ) → length (offers N old k) ≡ length old
  unfolding offers
  offers_length zero = refl
  offers_length (suc a) = offer_length a (offers N old a) ∙ offers_length a

  -- An entry stays, or it is the head's and becomes the offer, which is no more.
  abbrev pub Stays : ℕ → List ℕ → ℕ → Type 0
  Stays a new j = get_or (offer N old a new) j never ≡ get_or new j never

  abbrev pub Lowered : ℕ → List ℕ → ℕ → Type 0
  Lowered a new j = (j ≡ N.head a) × (get_or (offer N old a new) j never ≡ offered N old a) × (offered N old a ≤ get_or new j never)

  pub offer_entry : (a : ℕ) (new : List ℕ) (j : ℕ) → Stays a new j ⊎ Lowered a new j
  unfolding offer
  offer_entry a new j = go (dec_le (offered N old a) (get_or new (N.head a) never)) (get_d_set new (N.head a) j lower never)
    where
      lower : ℕ
      lower = min (get_or new (N.head a) never) (offered N old a)

      go : Dec (offered N old a ≤ get_or new (N.head a) never)
          → Stays a new j ⊎ ((j ≡ N.head a) × (get_or (offer N old a new) j never ≡ lower)) → Stays a new j ⊎ Lowered a new j
      go sooner (inl stays) = inl stays
      go (yes sooner) (inr (e, stored)) = inr (e, stored ∙ min-eq_right sooner, rw e sooner)
      go (no later) (inr (e, stored)) = inl (stored ∙ min-eq_left (omega arith) ∙ ap (λ (i : ℕ). get_or new i never) (sym e))

  pub offer_at_most : (a : ℕ) (new : List ℕ) → N.head a < length new → get_or (offer N old a new) (N.head a) never ≤ offered N old a
  unfolding offer
  offer_at_most a new inside =
      omega (arith, get_or-set_same new (N.head a) (min (get_or new (N.head a) never) (offered N old a)) never inside)

  pub offer_no_rise : (a : ℕ) (new : List ℕ) (j : ℕ) → get_or (offer N old a new) j never ≤ get_or new j never
  offer_no_rise a new j = ⊎_elim (λ stays. omega arith) (λ lowered. omega arith) (offer_entry a new j)

  offers_no_rise : (k j : ℕ) → get_or (offers N old k) j never ≤ get_or old j never
  unfolding offers
  offers_no_rise zero j = omega arith
  offers_no_rise (suc a) j = omega (arith, offer_no_rise a (offers N old a) j, offers_no_rise a j)

  -- Once arc a has offered, its head's entry is at most its offer.
  offers_at_most : (k a : ℕ) → a < k → N.head a < length old → get_or (offers N old k) (N.head a) never ≤ offered N old a
  unfolding offers
  offers_at_most zero a among inside = omega arith
  offers_at_most (suc b) a among inside = go (offers_at_most b a) (ℕ_discrete a b)
    where
      go : (a < b → N.head a < length old → get_or (offers N old b) (N.head a) never ≤ offered N old a) → Dec (a ≡ b)
          → get_or (offer N old b (offers N old b)) (N.head a) never ≤ offered N old a
      go before (yes e) = rw e (offer_at_most b (offers N old b) (rw (offers_length, ← e) inside))
      go before (no differs) = omega (arith, offer_no_rise b (offers N old b) (N.head a), before (omega arith) inside)

-- ---- The rounds

module _ (N : Net) (source departure : ℕ) where
  pub within_length : (k : ℕ) → length (within N source departure k) ≡ N.junctions
  unfolding within
  within_length zero = length-set (replicate N.junctions never) source departure ∙ length-replicate N.junctions never
  within_length (suc k) = offers_length N (within N source departure k) N.arcs ∙ within_length k

  pub within_no_rise : (k j : ℕ) → get_or (within N source departure (suc k)) j never ≤ get_or (within N source departure k) j never
  unfolding within
  within_no_rise k j = offers_no_rise N (within N source departure k) N.arcs j

  -- At first the source has the departure, and the others have never.
  pub first_entry : (j : ℕ) → (get_or (within N source departure zero) j never ≡ never) ⊎ ((j ≡ source) × (get_or (within N source departure zero) j never ≡ departure))
  unfolding within
  first_entry j =
      ⊎_elim (λ stays. inl (stays ∙ get_or-all N.junctions never j)) inr (get_d_set (replicate N.junctions never) source j departure never)

  pub within_at_source : source < N.junctions → (k : ℕ) → get_or (within N source departure k) source never ≤ departure
  unfolding within
  within_at_source inside zero = omega (arith, get_or-set_same (replicate N.junctions never) source departure never (rw length-replicate inside))
  within_at_source inside (suc k) = omega (arith, within_no_rise k source, within_at_source inside k)

module _ (N : Net) (sound : Sound N) (source departure : ℕ) where
  -- What one round knows of an arc's tail, the next takes to its head.
  pub within_next : (k a : ℕ) → a < N.arcs → get_or (within N source departure (suc k)) (N.head a) never ≤ offered N (within N source departure k) a
  unfolding within
  within_next k a is_arc = offers_at_most N (within N source departure k) N.arcs a is_arc (rw within_length (sound.head_below a is_arc))

  pub within_no_sooner : source < N.junctions → (k : ℕ) {j t : ℕ} (w : Arrives N source departure j t) → length (visited w) ≤ suc k
      → get_or (within N source departure k) j never ≤ t
  within_no_sooner inside k start few = within_at_source N source departure inside k
  within_no_sooner inside zero (along a is_arc w arrives) few = omega (arith, visited_some w)
  within_no_sooner inside (suc k) (along a {t = t} is_arc w arrives) few =
      let sooner : get_or (within N source departure k) (N.tail a) never ≤ t = within_no_sooner inside k w (omega arith) in
      omega (arith, within_next k a is_arc, sound.monotone a (get_or (within N source departure k) (N.tail a) never) t is_arc sooner)

  -- Each entry other than never is the arrival of a walk.
  abbrev pub Attained : List ℕ → Type 0
  Attained labels = (j : ℕ) → (get_or labels j never ≡ never → ⊥) → Arrives N source departure j (get_or labels j never)

  pub offer_attained : (old : List ℕ) → Attained old → (a : ℕ) → a < N.arcs → (new : List ℕ) → Attained new → Attained (offer N old a new)
  offer_attained old reached a is_arc new so_far j arrived = go (offer_entry N old a new j)
    where
      go : Stays N old a new j ⊎ Lowered N old a new j → Arrives N source departure j (get_or (offer N old a new) j never)
      go (inl stays) = rw stays (so_far j λ none. arrived (stays ∙ none))
      go (inr (e, lowered, less)) =
          let arrives : offered N old a ≤ last = drive_by_last sound a (get_or old (N.tail a) never) is_arc (λ none. arrived (lowered ∙ none)) in
          let left : get_or old (N.tail a) never < offered N old a = left_before sound a (get_or old (N.tail a) never) is_arc arrives in
          rw (lowered, e) (along a is_arc (reached (N.tail a) λ none. omega arith) arrives)

  offers_attained : (old : List ℕ) → Attained old → (k : ℕ) → k ≤ N.arcs → Attained (offers N old k)
  unfolding offers
  offers_attained old reached zero among = reached
  offers_attained old reached (suc a) among = offer_attained old reached a among (offers N old a) (offers_attained old reached a (omega arith))

  pub first_attained : Attained (within N source departure zero)
  first_attained j arrived = go (first_entry N source departure j)
    where
      go : (get_or (within N source departure zero) j never ≡ never) ⊎ ((j ≡ source) × (get_or (within N source departure zero) j never ≡ departure))
          → Arrives N source departure j (get_or (within N source departure zero) j never)
      go (inl unreached) = absurd (arrived unreached)
      go (inr (e, departs)) = rw (departs, e) start

  pub within_attained : (k : ℕ) → Attained (within N source departure k)
  unfolding within
  within_attained zero = first_attained
  within_attained (suc k) = offers_attained (within N source departure k) (within_attained k) N.arcs (omega arith)
