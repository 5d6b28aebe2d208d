-- The junctions that are reached and not settled stand in the tournament with their keys (`Queued`), so that the least key is the
-- nearest one's. It stays so as a junction is settled, and as an offer lowers a label.
use Prim.Native.Nat.{ℕ, ◌+◌, ◌≤◌, ◌<◌}
use mathlib.Core.Path.{◌≡◌, sym, ◌∙◌}
use mathlib.Core.Bool.{Bool, true, false, cond}
use mathlib.Core.List.{List}
use mathlib.Core.Logic.{◌⊎◌, inl, inr, ⊎_elim, by_cases}
use native.Mathlib.Decide.{dec_lt, ℕ_discrete}
use native.Mathlib.Omega.{arith}
use lib.Dec.{ltb}
use lib.ListN.{length, get_or, set, replicate, get_or-replicate, get_or-eq_default}
use lib.Seq.{get_or-set_same, get_or-set_other}
use borrow.Author.Tests.{lt-ltb}
use Rattle.model.specs.Ticks.{last, never}
use Rattle.model.proofs.Tests.{ltb_cases}
use Rattle.dijkstra.specs.Code.Offering.{lowered, Rekeyed}
use Rattle.tournament.specs.Tournament.{leaf, Tournament, Least, Entered, key_of, junction_of_lem}
use Rattle.tournament.proofs.Matches.{equal_keys}
use Rattle.dijkstra.proofs.Settling.{by_flag}

-- The key with which a junction stands in the tournament: never where it is settled or unreached.
abbrev key_in : List ℕ → List Bool → ℕ → ℕ
key_in labels settled j = cond (get_or settled j false) never (cond (ltb (get_or labels j never) never) (key_of (get_or labels j never) j) never)

pub record Queued (tree labels : List ℕ) (settled : List Bool) : Type 0 where
  pub tournament : Tournament tree
  pub leaf_is : (j : ℕ) → j < 256 → leaf tree j ≡ key_in labels settled j

-- A junction that is reached and not settled.
pub record Waits (labels : List ℕ) (settled : List Bool) (junction : ℕ) : Type 0 where
  pub inside : junction < length labels
  pub unsettled : get_or settled junction false ≡ false
  pub reached : get_or labels junction never < never

-- Its label is the least of those that are not settled.
abbrev pub Nearest : List ℕ → List Bool → ℕ → Type 0
Nearest labels settled junction = (k : ℕ) → k < length labels → get_or settled k false ≡ false → get_or labels junction never ≤ get_or labels k never

-- Every label that is not never is by the last tick.
abbrev pub ByLast : List ℕ → Type 0
ByLast labels = (k : ℕ) → k < length labels → get_or labels k never < never → get_or labels k never ≤ last

-- ---- The least key

module _ (labels : List ℕ) (settled : List Bool) (j : ℕ) where
  key_waiting : get_or settled j false ≡ false → get_or labels j never < never → key_in labels settled j ≡ key_of (get_or labels j never) j
  key_waiting waits reached = rw (waits, lt-ltb (get_or labels j never) never reached)

  waiting_or_never : ((get_or settled j false ≡ false) × (get_or labels j never < never)) ⊎ (key_in labels settled j ≡ never)
  waiting_or_never =
      by_flag settled j
      (λ done. inr (rw done))
      (λ waits. ⊎_elim (λ w. inl (waits, w.1)) (λ w. inr (rw (waits, w.0))) (ltb_cases (get_or labels j never) never))

module _ {tree labels : List ℕ} {settled : List Bool} (q : Queued tree labels settled) (few : length labels ≤ 200) {key : ℕ} (l : Least tree key) where
  no_less : (k : ℕ) → k < 256 → get_or settled k false ≡ false → get_or labels k never < never → key ≤ key_of (get_or labels k never) k
  no_less k h waits reached = omega (arith, l.no_lower k h, q.leaf_is k h, key_waiting labels settled k waits reached)

  -- A key below never is that of a junction which waits. Of labels that are ticks, the lesser key is that of the lesser label.
  pub least_waits : key < never → {junction : ℕ} → junction ≡ junction_of_lem key → Waits labels settled junction × (ByLast labels → Nearest labels settled junction)
  least_waits some {junction} of-key =
      ⊎_elim
      (λ w.
      let holds : key ≡ key_of (get_or labels holder never) holder = sym l.held ∙ leaf_is ∙ key_waiting labels settled holder w.0 w.1 in
      let is-holder : junction ≡ holder = omega (arith, l.holder_inside) in
      let inside : holder < length labels =
      by_cases (dec_lt holder (length labels)) (λ h. h) (λ outside. absurd (omega (arith, w.1, unlabelled (omega arith)))) in
      rw is-holder (
        record { inside = inside; unsettled = w.0; reached = w.1 },
        λ by_Last k h waits.
            by_cases (dec_lt (get_or labels k never) never)
            (λ reached. omega (arith, no_less k (omega arith) waits reached, by_Last k h reached, by_Last holder inside w.1))
            (λ unreached. omega (arith, w.1)),
      ))
      (λ none. absurd (omega (arith, l.held, leaf_is, none)))
      (waiting_or_never labels settled holder)
    where
      holder : ℕ
      holder = l.holder

      leaf_is : leaf tree holder ≡ key_in labels settled holder
      leaf_is = q.leaf_is holder l.holder_inside

      unlabelled : length labels ≤ holder → get_or labels holder never ≡ never
      unlabelled h = get_or-eq_default labels never {n = holder} h

  -- Labels are ticks, whose keys lie below never.
  pub none_waits : never ≤ key → ByLast labels → (k : ℕ) → k < length labels → get_or settled k false ≡ false → never ≤ get_or labels k never
  none_waits none by_Last k h waits =
      by_cases (dec_lt (get_or labels k never) never)
      (λ reached. absurd (omega (arith, no_less k (omega arith) waits reached, by_Last k h reached)))
      (λ unreached. omega arith)

-- ---- The steps

-- No junction is reached yet.
pub queued_starts : (labels : List ℕ) (settled : List Bool) → ((j : ℕ) → get_or labels j never ≡ never) → ((j : ℕ) → get_or settled j false ≡ false) →
    Queued (replicate 512 never) labels settled
queued_starts labels settled unreached waiting = record {
  tournament = equal_keys never;
  leaf_is = λ j h. get_or-replicate 512 (256 + j) never 0 (omega arith) ∙ rw (waiting j, unreached j);
}

module _ {tree labels : List ℕ} {settled : List Bool} (q : Queued tree labels settled) where
  -- A junction's key is set to what it has become; the others' are as they were.
  queued_enters : {tree' labels' : List ℕ} {settled' : List Bool} {junction key : ℕ} → Entered tree junction key tree' →
      key ≡ key_in labels' settled' junction → ((j : ℕ) → (j ≡ junction → ⊥) → key_in labels settled j ≡ key_in labels' settled' j) →
      Queued tree' labels' settled'
  queued_enters {junction} e is_key others = record {
    tournament = e.tournament;
    leaf_is = λ j h.
        by_cases (ℕ_discrete j junction)
        (λ same. rw same (e.is_set ∙ is_key))
        (λ other. e.others_stay j h other ∙ q.leaf_is j h ∙ others j other);
  }

  pub queued_settles : {tree' : List ℕ} {junction : ℕ} → junction < length settled → Entered tree junction never tree' →
      Queued tree' labels (set settled junction true)
  queued_settles {junction} has-flag e =
      queued_enters e (rw (get_or-set_same settled junction true false has-flag)) (λ j other. rw (get_or-set_other settled junction j true false other))

  module _ {head t : ℕ} (inside : head < length labels) (waits : get_or settled head false ≡ false) where
    pub queued_lowers : {tree' : List ℕ} → t < never → Entered tree head (key_of t head) tree' → Queued tree' (set labels head t) settled
    queued_lowers reached e =
        queued_enters e
        (rw (waits, get_or-set_same labels head t never inside, lt-ltb t never reached))
        (λ j other. rw (get_or-set_other labels head j t never other))

    pub queued_offered : {tree' : List ℕ} → get_or labels head 0 ≤ never → Rekeyed labels tree head t tree' → Queued tree' (lowered labels head t) settled
    queued_offered at_most r =
        ⊎_elim
        (λ w. rw w.0 (queued_lowers (omega (arith, w.1)) (r.entered w.1)))
        (λ w. rw (w.0, r.kept w.1) q)
        (ltb_cases t (get_or labels head 0))
