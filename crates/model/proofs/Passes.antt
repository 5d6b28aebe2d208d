-- Repeated passes. Who counts a lowered label at once is no later than the rounds of `within`, and its labels are arrivals of walks; so after one
-- pass fewer than there are junctions they are the labels, and the next pass changes none. The search finds the first such pass.
use Prim.Native.Nat.{ℕ, zero, suc, ◌+◌, ◌-◌, ◌≤◌, ◌<◌}
use mathlib.Core.Path.{◌≡◌, refl, sym, ap, ◌∙◌}
use mathlib.Core.Bool.{Bool, true, false, cond, true≢false}
use mathlib.Core.List.{List}
use mathlib.Core.Logic.{⊎_elim, by_cases}
use native.Mathlib.Decide.{ℕ_discrete, dec_lt}
use native.Mathlib.Nat.{le_antisymm, zero-add, suc-add}
use native.Mathlib.Omega.{arith}
use lib.ListN.{length, get_or}
use lib.Seq.{ext_get_or}
use Rattle.model.specs.Ticks.{last, never}
use Rattle.model.specs.Walks.{Net, Sound, Arrives}
use Rattle.model.specs.Labels.{offer, offers, within, labels_of, same?}
use Rattle.model.specs.Passes.{
  pass_over,
  pass,
  after_passes,
  first_unchanged,
  passes_of,
  Unchanged,
  IsFirstUnchanged,
  PassesAreFirstUnchanged,
  PassesAtMostJunctions,
  PassesLeaveLabels,
}
use Rattle.model.proofs.Entries.{same_tables, same_itself}
use Rattle.model.proofs.Walks.{are_earliest, earliest_unique, visited, Simple, shorten, simple_length}
use Rattle.model.proofs.Within.{offered, offer_length, offer_entry, offer_no_rise, offer_at_most, within_no_sooner, Attained, offer_attained, first_attained, within_length}
use Rattle.model.proofs.Least.{labels_length, labels_are_earliest}

-- ---- No entry is later

abbrev NoLater : List ℕ → List ℕ → Type 0
NoLater xs ys = (j : ℕ) → get_or xs j never ≤ get_or ys j never

module _ (N : Net) (sound : Sound N) where
  -- Earlier labels make earlier offers to earlier entries.
  offer_no_later : (old old' new new' : List ℕ) (a : ℕ) → a < N.arcs → length new ≡ N.junctions → NoLater old old' → NoLater new new' →
      NoLater (offer N old a new) (offer N old' a new')
  offer_no_later old old' new new' a is_arc long old-no-later new-no-later j =
      ⊎_elim
      (λ stays. omega (arith, offer_no_rise N old a new j, new-no-later j))
      (λ lowered.
      let at_most = offer_at_most N old a new (omega (arith, sound.head_below a is_arc)) in
      let sooner = sound.monotone a (get_or old (N.tail a) never) (get_or old' (N.tail a) never) is_arc (old-no-later (N.tail a)) in
      let here : get_or (offer N old a new) j never ≤ offered N old a = rw lowered.0 at_most in
      omega (arith, sooner, lowered.1))
      (offer_entry N old' a new' j)

  -- ---- A pass

  over_length : (labels : List ℕ) (k : ℕ) → length (pass_over N labels k) ≡ length labels
  unfolding pass_over
  over_length labels zero = refl
  over_length labels (suc a) = offer_length N (pass_over N labels a) a (pass_over N labels a) ∙ over_length labels a

  pub over_no_rise : (labels : List ℕ) (k : ℕ) → NoLater (pass_over N labels k) labels
  unfolding pass_over
  over_no_rise labels zero j = omega arith
  over_no_rise labels (suc a) j = omega (arith, offer_no_rise N (pass_over N labels a) a (pass_over N labels a) j, over_no_rise labels a j)

  -- It is no later than a round in which all arcs are left at the labels from before it.
  over_no_later : (labels old : List ℕ) → length labels ≡ N.junctions → NoLater labels old → (k : ℕ) → k ≤ N.arcs →
      NoLater (pass_over N labels k) (offers N old k)
  unfolding pass_over offers
  over_no_later labels old long no_later zero few = no_later
  over_no_later labels old long no_later (suc a) few =
      let now = pass_over N labels a in
      offer_no_later now old now (offers N old a) a few (over_length labels a ∙ long)
      (λ j. omega (arith, over_no_rise labels a j, no_later j))
      (over_no_later labels old long no_later a (omega arith))

  -- ---- The passes

  module _ (source departure : ℕ) where
    passes_length : (n : ℕ) → length (after_passes N source departure n) ≡ N.junctions
    unfolding after_passes within
    passes_length zero = within_length N source departure zero
    passes_length (suc n) = over_length (after_passes N source departure n) N.arcs ∙ passes_length n

    passes_no_later : (n : ℕ) → NoLater (after_passes N source departure n) (within N source departure n)
    unfolding after_passes within
    passes_no_later zero = λ j. omega arith
    passes_no_later (suc n) =
        over_no_later (after_passes N source departure n) (within N source departure n) (passes_length n) (passes_no_later n) N.arcs (omega arith)

    over_attained : (labels : List ℕ) → Attained N sound source departure labels → (k : ℕ) → k ≤ N.arcs → Attained N sound source departure (pass_over N labels k)
    unfolding pass_over
    over_attained labels reached zero few = reached
    over_attained labels reached (suc a) few =
        let so_far = over_attained labels reached a (omega arith) in
        offer_attained N sound source departure (pass_over N labels a) so_far a few (pass_over N labels a) so_far

    passes_attained : (n : ℕ) → Attained N sound source departure (after_passes N source departure n)
    unfolding after_passes within
    passes_attained zero = first_attained N sound source departure
    passes_attained (suc n) = over_attained (after_passes N source departure n) (passes_attained n) N.arcs (omega arith)

    -- A walk that visits no junction twice is found after one pass fewer than there are junctions.
    passes_no_sooner : source < N.junctions → (n : ℕ) → N.junctions ≤ suc n → (j t : ℕ) → Arrives N source departure j t →
        get_or (after_passes N source departure n) j never ≤ t
    passes_no_sooner inside n enough j t w =
        let short : Simple N source departure j t = shorten sound w in
        let few : length (visited short.walk) ≤ N.junctions = simple_length sound inside short in
        omega (arith, passes_no_later n j, within_no_sooner N sound source departure inside n short.walk (omega arith), short.no_later)

    -- So the labels are the earliest arrivals then.
    module _ (inside : source < N.junctions) (departs : departure ≤ last) where
      passes_labels : (n : ℕ) → N.junctions ≤ suc n → after_passes N source departure n ≡ labels_of N source departure
      passes_labels n enough =
          ext_get_or never (after_passes N source departure n) (labels_of N source departure) (passes_length n ∙ sym (labels_length N source departure)) λ j h.
          earliest_unique
          (are_earliest sound departs (λ i is_junction. passes_attained n i) (passes_no_sooner inside n enough))
          (labels_are_earliest N sound source departure inside departs) j (omega (arith, passes_length n))

      -- One more pass changes none of them.
      last_unchanged : Unchanged N source departure N.junctions
      unfolding after_passes
      last_unchanged =
          let fewer = N.junctions - 1 in
          passes_labels (suc fewer) (omega arith) ∙ sym (passes_labels fewer (omega arith))

    -- ---- The first pass that changes no label

    -- Once a pass has changed no label, none does.
    stays_unchanged : (n : ℕ) → Unchanged N source departure n → (k : ℕ) → after_passes N source departure (k + (n - 1)) ≡ after_passes N source departure (n - 1)
    unfolding after_passes
    stays_unchanged n same zero = ap (after_passes N source departure) (zero-add (n - 1))
    stays_unchanged n same (suc k) = rw suc-add (ap (pass N) (stays_unchanged n same k) ∙ same)

    one_before : (m : ℕ) → suc m - 1 ≡ m
    one_before m = omega arith

    -- A pass after the first m, no later than pass p, that changes no label, and no pass between does.
    record FoundAfter (m p n : ℕ) : Type 0 where
      after : m < n
      no_later : n ≤ p
      unchanged : Unchanged N source departure n
      between_change : (i : ℕ) → m < i → i < n → Unchanged N source departure i → ⊥

    search_finds : (k m p : ℕ) → m < p → p ≤ m + k → Unchanged N source departure p →
        FoundAfter m p (first_unchanged N (after_passes N source departure m) (suc m) k)
    unfolding first_unchanged after_passes
    search_finds zero m p from to same = absurd (omega arith)
    search_finds (suc k) m p from to same =
        go (same? (pass N (after_passes N source departure m)) (after_passes N source departure m)) refl (search_finds k (suc m) p)
      where
        differs : same? (pass N (after_passes N source departure m)) (after_passes N source departure m) ≡ false → (i : ℕ) → i ≡ suc m → Unchanged N source departure i → ⊥
        differs test i is unchanged =
            let here : pass N (after_passes N source departure m) ≡ after_passes N source departure m = rw (is, one_before m) at unchanged in
            true≢false (sym (same_itself (after_passes N source departure m)) ∙ (ap (λ labels. same? labels (after_passes N source departure m)) (sym here) ∙ test))

        go : (b : Bool) → same? (pass N (after_passes N source departure m)) (after_passes N source departure m) ≡ b →
            (suc m < p → p ≤ suc m + k → Unchanged N source departure p →
            FoundAfter (suc m) p (first_unchanged N (after_passes N source departure (suc m)) (suc (suc m)) k)) →
            FoundAfter m p (cond b (suc m) (first_unchanged N (after_passes N source departure (suc m)) (suc (suc m)) k))
        go true test further = record {
          after = omega arith;
          no_later = omega arith;
          unchanged = rw (one_before m) (same_tables _ _ test);
          between_change = λ i after before. absurd (omega arith);
        }
        go false test further =
            let other : p ≡ suc m → ⊥ = λ is. differs test p is same in
            let found = further (omega arith) (omega arith) same in
            record {
              after = omega (arith, found.after);
              no_later = found.no_later;
              unchanged = found.unchanged;
              between_change = λ i after before same_here.
                  by_cases (ℕ_discrete i (suc m)) (λ is. differs test i is same_here) (λ other. found.between_change i (omega arith) before same_here);
            }

    module _ (inside : source < N.junctions) (departs : departure ≤ last) where
      found : FoundAfter 0 N.junctions (passes_of N source departure)
      unfolding passes_of after_passes
      found = search_finds N.junctions 0 N.junctions (omega arith) (omega arith) (last_unchanged inside departs)

      found_first : IsFirstUnchanged N source departure (passes_of N source departure)
      found_first = record { from_1 = found.after; unchanged = found.unchanged; earlier_change = found.between_change }

      -- Of two numbers that are first, neither is the lesser.
      first_is_one : (m n : ℕ) → IsFirstUnchanged N source departure m → IsFirstUnchanged N source departure n → m ≤ n
      first_is_one m n first-m first-n =
          by_cases (dec_lt n m) (λ less. absurd (first-m.earlier_change n first-n.from_1 less first-n.unchanged)) (λ no. omega arith)

pub passes_are_first_unchanged : PassesAreFirstUnchanged
passes_are_first_unchanged N sound source departure inside departs n = (λ is. rw is first, λ is_first. le_antisymm (one n _ is_first first) (one _ n first is_first))
  where
    first : IsFirstUnchanged N source departure (passes_of N source departure)
    first = found_first N sound source departure inside departs

    one : (m n : ℕ) → IsFirstUnchanged N source departure m → IsFirstUnchanged N source departure n → m ≤ n
    one = first_is_one N sound source departure inside departs

pub passes_at_most_junctions : PassesAtMostJunctions
passes_at_most_junctions N sound source departure inside departs =
    let f = found N sound source departure inside departs in
    (f.after, f.no_later)

-- From the pass before it on the labels stay, up to where they are the labels.
pub passes_leave_labels : PassesLeaveLabels
unfolding after_passes
passes_leave_labels N sound source departure inside departs =
    let n = passes_of N source departure in
    let f = found N sound source departure inside departs in
    let rest : (N.junctions - n) + (n - 1) ≡ N.junctions - 1 = omega (arith, f.after, f.no_later) in
    let one_more : suc (n - 1) ≡ n = omega (arith, f.after) in
    ap (after_passes N source departure) (sym one_more)
    ∙ f.unchanged
    ∙ sym (stays_unchanged N sound source departure n f.unchanged (N.junctions - n))
    ∙ ap (after_passes N source departure) rest
    ∙ passes_labels N sound source departure inside departs (N.junctions - 1) (omega arith)
