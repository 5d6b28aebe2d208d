-- The tournament. No node's key is less than the root's, and on a way down from the root the key stays until a leaf holds it. A
-- key that is set leaves at most the match above it unplayed; playing that one leaves at most the next.
use Prim.Native.Nat.{ℕ, zero, suc, ◌+◌, ◌-◌, ◌*◌, ◌/◌, ◌≤◌, ◌<◌, min}
use mathlib.Core.Path.{◌≡◌, refl, ap, ◌∙◌}
use mathlib.Core.List.{List}
use mathlib.Core.Logic.{◌⊎◌, inl, inr, ⊎_elim, by_cases}
use native.Mathlib.Decide.{dec_lt, ℕ_discrete}
use native.Mathlib.Nat.{le_refl}
use native.Mathlib.Omega.{arith}
use lib.ListN.{length, get_or, set, replicate, length-set, length-replicate, get_or-replicate}
use lib.Seq.{get_or-set_same, get_or-set_other}
use Rattle.tournament.specs.Tournament.{leaf, Played, Tournament, Least, Entered}

-- A node is one of the two below that of half its number.
halves : (k : ℕ) → (2 * (k / 2) ≡ k) ⊎ (2 * (k / 2) + 1 ≡ k)
halves k = by_cases (ℕ_discrete (2 * (k / 2)) k) inl (λ other. inr (omega arith))

-- Where every key is the same, every match is played.
pub equal_keys : (key : ℕ) → Tournament (replicate 512 key)
equal_keys key = record {
  long = length-replicate 512 key;
  played = λ k some above. rw (all k (omega arith), all (2 * k) (omega arith), all (2 * k + 1) (omega arith)) (omega arith);
}
  where
    all : (i : ℕ) → i < 512 → get_or (replicate 512 key) i 0 ≡ key
    all i h = get_or-replicate 512 i key 0 h

-- ---- The least key

module _ {tree : List ℕ} (t : Tournament tree) where
  below_no_less : (k : ℕ) → 1 ≤ k → k < 256 → get_or tree 1 0 ≤ get_or tree k 0 →
      (get_or tree 1 0 ≤ get_or tree (2 * k) 0) × (get_or tree 1 0 ≤ get_or tree (2 * k + 1) 0)
  below_no_less k some above no_less = let won = t.played k some above in (omega arith, omega arith)

  -- by steps up from node k, of which there are at most n
  root_least : (n k : ℕ) → k ≤ n → 1 ≤ k → k < 512 → get_or tree 1 0 ≤ get_or tree k 0
  root_least zero k h some inside = absurd (omega arith)
  root_least (suc n) k h some inside =
      by_cases (dec_lt 1 k)
      (λ below.
      let (even, odd) = below_no_less (k / 2) (omega arith) (omega arith) (root_least n (k / 2) (omega arith) (omega arith) (omega arith)) in
      ⊎_elim (λ e. rw e at even) (λ e. rw e at odd) (halves k))
      (λ not-below. let root : k ≡ 1 = omega arith in rw root (le_refl (get_or tree 1 0)))

  -- by steps down from node k, of which there are at most n
  holder_below : (n k : ℕ) → 512 ≤ n + k → 1 ≤ k → k < 512 → (j : ℕ) × (j < 256) × (leaf tree j ≡ get_or tree k 0)
  holder_below zero k h some inside = absurd (omega arith)
  holder_below (suc n) k h some inside =
      by_cases (dec_lt k 256)
      (λ above.
      let won = t.played k some above in
      by_cases (dec_lt (get_or tree (2 * k) 0) (get_or tree (2 * k + 1) 0))
      (λ even. let (j, here, holds) = holder_below n (2 * k) (omega arith) (omega arith) (omega arith) in (j, here, omega arith))
      (λ odd. let (j, here, holds) = holder_below n (2 * k + 1) (omega arith) (omega arith) (omega arith) in (j, here, omega arith)))
      (λ not-above. let at_leaf : 256 + (k - 256) ≡ k = omega arith in (k - 256, omega arith, rw at_leaf))

  pub root_is_least : Least tree (get_or tree 1 0)
  root_is_least =
      let (j, inside, holds) = holder_below 512 1 (omega arith) (omega arith) (omega arith) in
      record {
        no_lower = λ k h. root_least 512 (256 + k) (omega arith) (omega arith) (omega arith);
        holder = j;
        holder_inside = inside;
        held = holds;
      }

-- ---- A key is set

-- The node i was written last, with the winner so far: the matches but that above it are played. The leaves are those at the start.
pub record Entering (start tree : List ℕ) (i winner : ℕ) : Type 0 where
  pub some : 1 ≤ i
  pub within : i < 512
  pub long : length tree ≡ 512
  pub leaves_stay : (j : ℕ) → leaf tree j ≡ leaf start j
  pub holds : get_or tree i 0 ≡ winner
  pub played : (k : ℕ) → 1 ≤ k → k < 256 → (k ≡ i / 2 → ⊥) → Played tree k

-- A match stays played as a node is written that takes no part in it.
played_stays : (tree : List ℕ) (i v k : ℕ) → (k ≡ i → ⊥) → (2 * k ≡ i → ⊥) → (2 * k + 1 ≡ i → ⊥) → Played tree k → Played (set tree i v) k
played_stays tree i v k not-winner not-even not-odd played =
    rw (get_or-set_other tree i k v 0 not-winner, get_or-set_other tree i (2 * k) v 0 not-even, get_or-set_other tree i (2 * k + 1) v 0 not-odd) played

entering_goes_on : {start tree : List ℕ} {i winner won : ℕ} → Entering start tree i winner → 1 < i → won ≡ min (get_or tree (4 * (i / 2) + 1 - i) 0) winner →
    Entering start (set tree (i / 2) won) (i / 2) won
entering_goes_on {tree} {i} {winner} {won} e below wins = record {
  some = omega arith;
  within = omega (arith, e.within);
  long = length-set tree (i / 2) won ∙ e.long;
  leaves_stay = λ j. get_or-set_other tree (i / 2) (256 + j) won 0 (λ f. omega (arith, e.within)) ∙ e.leaves_stay j;
  holds = written;
  played = λ k some above not_last.
      by_cases (ℕ_discrete k (i / 2))
      (λ same. rw same just_played)
      (λ other. played_stays tree (i / 2) won k other (λ f. not_last (omega arith)) (λ f. not_last (omega arith))
      (e.played k some above other));
}
  where
    written : get_or (set tree (i / 2) won) (i / 2) 0 ≡ won
    written = get_or-set_same tree (i / 2) won 0 (omega (arith, e.within, e.long))

    -- the two below are the node and its opponent
    wins_match : won ≡ min (get_or tree (2 * (i / 2)) 0) (get_or tree (2 * (i / 2) + 1) 0)
    wins_match =
        ⊎_elim
        (λ even. omega (arith, wins, key even ∙ e.holds, key {k = 2 * (i / 2) + 1} {m = 4 * (i / 2) + 1 - i} (omega arith)))
        (λ odd. omega (arith, wins, key odd ∙ e.holds, key {k = 2 * (i / 2)} {m = 4 * (i / 2) + 1 - i} (omega arith)))
        (halves i)
      where
        key : {k m : ℕ} → k ≡ m → get_or tree k 0 ≡ get_or tree m 0
        key = ap (λ (k : ℕ). get_or tree k 0)

    just_played : Played (set tree (i / 2) won) (i / 2)
    just_played =
        rw (
          get_or-set_other tree (i / 2) (2 * (i / 2)) won 0 (λ f. omega arith),
          get_or-set_other tree (i / 2) (2 * (i / 2) + 1) won 0 (λ f. omega arith),
        )
        (written ∙ wins_match)

-- So it does whatever the next node is called.
pub entering_plays : {start tree tree' : List ℕ} {i winner won : ℕ} (next : ℕ) → Entering start tree i winner → 1 < i → next ≡ i / 2 →
    (won ≡ min (get_or tree (4 * (i / 2) + 1 - i) 0) winner) × (tree' ≡ set tree (i / 2) won) → Entering start tree' next won
entering_plays next e below is-next plays = rw (is-next, plays.1) (entering_goes_on e below plays.0)

module _ {before : List ℕ} (t : Tournament before) (junction key : ℕ) (inside : junction < 256) where
  pub entering_starts : Entering (set before (256 + junction) key) (set before (256 + junction) key) (256 + junction) key
  entering_starts = record {
    some = omega arith;
    within = omega arith;
    long = length-set before (256 + junction) key ∙ t.long;
    leaves_stay = λ j. refl;
    holds = get_or-set_same before (256 + junction) key 0 (omega (arith, t.long));
    played = λ k some above not_last.
        played_stays before (256 + junction) key k (λ e. omega arith) (λ e. not_last (omega arith)) (λ e. not_last (omega arith))
        (t.played k some above);
  }

  pub entering_ends : {tree : List ℕ} {i winner : ℕ} → Entering (set before (256 + junction) key) tree i winner → i ≤ 1 → Entered before junction key tree
  entering_ends e at-root = record {
    tournament = record { long = e.long; played = λ k some above. e.played k some above (λ f. omega arith) };
    is_set = e.leaves_stay junction ∙ get_or-set_same before (256 + junction) key 0 (omega (arith, t.long));
    others_stay = λ j h other. e.leaves_stay j ∙ get_or-set_other before (256 + junction) (256 + j) key 0 (λ f. other (omega arith));
  }
