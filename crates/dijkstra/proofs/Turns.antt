-- The labelling of an accepted network, by its loops. Between the turns of the outer loop every arc of a settled junction has offered
-- (`Round`); between those of the inner loop the arcs of the settled junction before arc a have (`Turn`). Beside each label stands its interval.
use Prim.Native.Nat.{ℕ, suc, ◌≤◌, ◌<◌}
use mathlib.Core.Path.{◌≡◌, sym, ap, ◌∙◌}
use mathlib.Core.Bool.{Bool, true, false, ◌&&◌, cond}
use mathlib.Core.List.{List}
use mathlib.Core.Logic.{◌⊎◌, inl, inr, ⊎_elim, by_cases}
use Rattle.std.specs.Prelude.{Option, None, Some}
use native.Mathlib.Decide.{dec_lt, ℕ_discrete}
use native.Mathlib.Omega.{arith}
use lib.Dec.{ltb, eqb}
use lib.ListN.{length, get_or, set, replicate}
use lib.Seq.{get_or-set_same, get_or-set_other}
use Rattle.model.specs.Ticks.{last, never}
use Rattle.model.specs.Intervals.{interval_of_lem, tick_and_interval?}
use Rattle.model.specs.Network.{Network, Accepted, arcs, roads_of, drive_of, net_of}
use Rattle.model.specs.Labels.{no_arc, labels_of, predecessors_of}
use Rattle.model.proofs.WithInterval.{arrived_at_law, arrived_never}
use Rattle.model.proofs.Entries.{get_or-inside, get_or-all}
use Rattle.model.proofs.Networks.{accepted_sound, drive_by_last}
use Rattle.model.proofs.Tests.{ltb_cases, eqb_cases}
use Rattle.checking.specs.Question.{Taken}
use Rattle.closed_arcs.specs.Arcs.{ArrivesOn}
use Rattle.closed_arcs.proofs.Arcs.{arc_kept}
use Rattle.tournament.specs.Tournament.{Least}
use Rattle.dijkstra.specs.Code.Linked.{arc_from, Linked}
use Rattle.dijkstra.specs.Code.Offering.{Tables, tables, lowered, taken, Leaves, ArcOffered, AllOffered, none_left, skips, offers}
use Rattle.dijkstra.specs.Code.Rounds.{IntervalsKept}
use Rattle.dijkstra.proofs.KeptIntervals.{kept_first, kept_by, kept_offered}
use Rattle.dijkstra.proofs.Linking.{arc_from_law, arc_from_least}
use Rattle.dijkstra.proofs.Queue.{Queued, Waits, Nearest, ByLast, none_waits}
use Rattle.dijkstra.proofs.Settling.{
  Settling,
  settling_starts,
  labels_at_most_never,
  reached_by_last,
  settling_weakens,
  settle,
  settled_label_stays,
  offer_keeps,
  offer_skips,
  offer_lowers,
  offer_ties,
  settling_ends,
}

-- ---- The outer loop

abbrev Done : Network → List Bool → ℕ → Type 0
Done N settled b = get_or settled (get_or N.tails b 0) false ≡ true

pub record Round (N : Network) (source departure : ℕ) (settled : List Bool) (t : Tables) : Type 0 where
  pub tick : ℕ
  pub settling : Settling (net_of N) source departure tick settled (Done N settled) t.labels t.predecessors
  pub intervals_kept : IntervalsKept N.fences t

module _ {N : Network} {source departure : ℕ} (q : Taken N source departure) where
  pub round_starts : {t : Tables} {interval : ℕ} → t.labels ≡ set (replicate N.junctions never) source departure →
      t.predecessors ≡ replicate N.junctions no_arc → interval ≡ interval_of_lem N.fences departure → t.intervals ≡ set (replicate 200 0) source interval →
      Round N source departure (replicate 200 false) t
  round_starts {t} {interval} l p in_interval k = record {
    tick = departure;
    settling = settling_starts q.source_below (omega (arith, q.departure_below)) l p (get_or-all 200 false) (λ b h d. d);
    intervals_kept = kept_first N.fences t N.junctions source departure interval q.source_below
        (omega (arith, q.source_below, q.accepted.junctions_fit)) l k in_interval;
  }

  module _ {settled : List Bool} {t : Tables} (r : Round N source departure settled t) where
    pub labels_by_last : ByLast t.labels
    labels_by_last k h = reached_by_last r.settling (accepted_sound N q.accepted) k (omega (arith, r.settling.labels_long))

    pub round_ends : Queued t.tree t.labels settled → {key : ℕ} → Least t.tree key → never ≤ key →
        (t.labels ≡ labels_of (net_of N) source departure) × (t.predecessors ≡ predecessors_of (net_of N) source departure)
    round_ends queued least none =
        let long : length t.labels ≡ N.junctions = r.settling.labels_long in
        settling_ends r.settling (accepted_sound N q.accepted)
        (λ k h. none_waits queued (omega (arith, q.accepted.junctions_fit)) least none labels_by_last k (omega arith))
        (λ b h e. e)
        q.source_below

-- ---- The inner loop

-- An arc of a settled junction; of the junction at hand, one before arc a.
abbrev HasOffered : Network → List Bool → ℕ → ℕ → ℕ → Type 0
HasOffered N settled junction a b = (b < arcs N) × (get_or settled (get_or N.tails b 0) false ≡ true) × (get_or N.tails b 0 ≡ junction → b < a)

-- Arc a is none, or an arc of the junction.
abbrev pub OfJunction : Network → ℕ → ℕ → Type 0
OfJunction N junction a = (a ≡ no_arc → ⊥) → (a < arcs N) × (get_or N.tails a 0 ≡ junction)

pub record Turn (N : Network) (source departure : ℕ) (settled : List Bool) (junction tick interval a : ℕ) (t : Tables) : Type 0 where
  pub settling : Settling (net_of N) source departure tick settled (HasOffered N settled junction a) t.labels t.predecessors
  pub junction_settled : get_or settled junction false ≡ true
  pub tick_is : get_or t.labels junction never ≡ tick
  pub interval_is : interval ≡ interval_of_lem N.fences tick
  pub intervals_kept : IntervalsKept N.fences t

-- The first arc of a tail from an arc on is none or an arc with that tail.
arc_known : (N : Network) (junction p : ℕ) → p ≤ arcs N → {a : ℕ} → a ≡ arc_from N.tails junction p → OfJunction N junction a
arc_known N junction p inside same some =
    ⊎_elim (λ e. absurd (some (same ∙ e))) (λ f. rw same (f.0, f.1)) (arc_from_law N.tails junction p inside)

-- Before its first arc, no arc of the junction has offered.
before_first : (N : Network) (settled : List Bool) (junction : ℕ) {a : ℕ} → a ≡ arc_from N.tails junction 0 →
    (b : ℕ) → HasOffered N (set settled junction true) junction a b → Done N settled b
before_first N settled junction same b d =
    by_cases (ℕ_discrete (get_or N.tails b 0) junction)
    (λ e. absurd (omega (arith, same, d.2 e, arc_from_least N.tails junction 0 b (omega arith) d.0 e)))
    (λ other. sym (get_or-set_other settled junction (get_or N.tails b 0) true false other) ∙ d.1)

-- Up to the next arc of the junction, only arc a is new.
one_more : (N : Network) (settled : List Bool) (junction a : ℕ) {next : ℕ} → next ≡ arc_from N.tails junction (suc a) →
    (b : ℕ) → HasOffered N settled junction next b → HasOffered N settled junction a b ⊎ (b ≡ a)
one_more N settled junction a same b d =
    by_cases (ℕ_discrete (get_or N.tails b 0) junction)
    (λ e.
    by_cases (dec_lt b a)
    (λ h. inl (d.0, d.1, λ _. h))
    (λ not-before.
    by_cases (ℕ_discrete b a) inr
    (λ other. absurd (omega (arith, same, d.2 e, arc_from_least N.tails junction (suc a) b (omega arith) d.0 e)))))
    (λ other. inl (d.0, d.1, λ e. absurd (other e)))

-- ---- An offer

module _ {N : Network} (accepted : Accepted N) {source departure tick : ℕ} {settled : List Bool} {D D' : ℕ → Type 0} {labels predecessors : List ℕ}
    (s : Settling (net_of N) source departure tick settled D labels predecessors) (a : ℕ) (is_arc : a < arcs N)
    (tail_settled : get_or settled (get_or N.tails a 0) false ≡ true) (tail_label : get_or labels (get_or N.tails a 0) never ≡ tick)
    (more : (b : ℕ) → D' b → D b ⊎ (b ≡ a)) where
  abbrev head : ℕ
  head = get_or N.heads a 0

  abbrev arrives : ℕ
  arrives = drive_of (roads_of N) a tick

  label_is : get_or labels head never ≡ get_or labels head 0
  label_is = get_or-inside labels head never 0 (omega (arith, accepted.head_below a is_arc, s.labels_long))

  predecessor_is : get_or predecessors head no_arc ≡ get_or predecessors head 0
  predecessor_is = get_or-inside predecessors head no_arc 0 (omega (arith, accepted.head_below a is_arc, s.predecessors_long))

  pub skipped : get_or settled head false ≡ true → Settling (net_of N) source departure tick settled D' labels predecessors
  skipped = offer_skips s (accepted_sound N accepted) a is_arc tail_settled tail_label more

  keeps : get_or labels head 0 ≤ arrives → (arrives ≡ get_or labels head 0 → arrives < never → get_or predecessors head 0 ≤ a) →
      Settling (net_of N) source departure tick settled D' labels predecessors
  keeps no_lower lowest =
      offer_keeps s (accepted_sound N accepted) a is_arc tail_settled tail_label more (rw label_is no_lower) (rw (label_is, predecessor_is) lowest)

  pub missed : arrives ≡ never → Settling (net_of N) source departure tick settled D' labels predecessors
  missed unreached =
      keeps (rw (← label_is) (omega (arith, labels_at_most_never s head))) (λ _ reached. absurd (omega arith))

  pub offered : get_or settled head false ≡ false → arrives < never →
      Settling (net_of N) source departure tick settled D' (lowered labels head arrives) (taken labels predecessors head arrives a)
  offered waits reached =
      ⊎_elim
      (λ w. rw w.0 (offer_lowers s (accepted_sound N accepted) a is_arc tail_settled tail_label more waits (rw label_is w.1)))
      (λ w. rw w.0 (⊎_elim (ties w.1) (λ e. rw e.0 (keeps w.1 (λ same _. absurd (e.1 same)))) (eqb_cases arrives (get_or labels head 0))))
      (ltb_cases arrives (get_or labels head 0))
    where
      ties : get_or labels head 0 ≤ arrives → (eqb arrives (get_or labels head 0) ≡ true) × (arrives ≡ get_or labels head 0) →
          Settling (net_of N) source departure tick settled D' labels
          (cond (eqb arrives (get_or labels head 0) && ltb a (get_or predecessors head 0)) (set predecessors head a) predecessors)
      ties no_lower (test, same) =
          rw test
          (⊎_elim
          (λ l. rw l.0
          (offer_ties s (accepted_sound N accepted) a is_arc tail_settled tail_label more (rw label_is same) reached (rw predecessor_is l.1)))
          (λ l. rw l.0 (keeps no_lower (λ _ _. l.1)))
          (ltb_cases a (get_or predecessors head 0)))

  -- A settled junction keeps its label.
  pub settled_stays : get_or settled head false ≡ false → (k : ℕ) → get_or settled k false ≡ true → get_or (lowered labels head arrives) k never ≡ get_or labels k never
  settled_stays waits k done =
      ⊎_elim (λ w. rw w.0 (settled_label_stays settled labels head k arrives waits done)) (λ w. rw w.0) (ltb_cases arrives (get_or labels head 0))

-- ---- The links

module _ (N : Network) {first next : List ℕ} (linked : Linked N.tails first next) where
  pub first_of : {junction : ℕ} → junction < 200 → OfJunction N junction (get_or first junction 0)
  first_of {junction} inside = arc_known N junction 0 (omega arith) (linked.first_is junction inside)

  next_linked : {junction a : ℕ} → (a < arcs N) × (get_or N.tails a 0 ≡ junction) → get_or next a 0 ≡ arc_from N.tails junction (suc a)
  next_linked {a} (is_arc, tail_is) = linked.next_is a is_arc ∙ rw tail_is

  next_of : {junction a : ℕ} → (a < arcs N) × (get_or N.tails a 0 ≡ junction) → OfJunction N junction (get_or next a 0)
  next_of {junction} {a} at = arc_known N junction (suc a) at.0 (next_linked at)

  -- a link leads to a later arc, or to none
  pub next_later : (a : ℕ) → a < arcs N → (get_or next a 0 ≡ no_arc → ⊥) → (a < get_or next a 0) × (get_or next a 0 < arcs N)
  next_later a is_arc more =
      let link = linked.next_is a is_arc in
      ⊎_elim
      (λ none. absurd (more (link ∙ none)))
      (λ f. (omega (arith, link, f.2), omega (arith, link, f.0)))
      (arc_from_law N.tails (get_or N.tails a 0) (suc a) is_arc)

-- ---- The inner loop's turns

module _ {N : Network} {source departure : ℕ} (q : Taken N source departure) where
  pub turn_starts : {settled : List Bool} {t : Tables} {tree first next : List ℕ} {junction : ℕ} →
      Round N source departure settled t → length settled ≡ 200 → Waits t.labels settled junction → Nearest t.labels settled junction →
      Linked N.tails first next →
      Turn N source departure (set settled junction true) junction (get_or t.labels junction 0) (get_or t.intervals junction 0) (get_or first junction 0)
      (tables t.labels t.predecessors t.intervals tree)
  turn_starts {settled} {t} {first} {junction} r settled_long waits nearest linked =
      let is_junction : junction < N.junctions = omega (arith, r.settling.labels_long, waits.inside) in
      let has-flag : junction < length settled = omega (arith, q.accepted.junctions_fit) in
      let same : get_or t.labels junction never ≡ get_or t.labels junction 0 = get_or-inside t.labels junction never 0 waits.inside in
      let first_is : get_or first junction 0 ≡ arc_from N.tails junction 0 = linked.first_is junction (omega (arith, q.accepted.junctions_fit)) in
      let settles =
      settle r.settling (accepted_sound N q.accepted) junction is_junction has-flag waits.unsettled waits.reached
      (λ k h. nearest k (omega (arith, r.settling.labels_long))) in
      record {
        settling = rw (← same) (settling_weakens settles (λ b h d. before_first N settled junction first_is b d));
        junction_settled = get_or-set_same settled junction true false has-flag;
        tick_is = same;
        interval_is = r.intervals_kept.interval_is junction waits.inside waits.reached ∙ ap (interval_of_lem N.fences) same;
        intervals_kept = kept_by r.intervals_kept;
      }

  module _ {settled : List Bool} {first next : List ℕ} {junction tick interval a : ℕ} {t : Tables} (linked : Linked N.tails first next)
      (turn : Turn N source departure settled junction tick interval a t) (at : (a < arcs N) × (get_or N.tails a 0 ≡ junction)) where
    tail_settled : get_or settled (get_or N.tails a 0) false ≡ true
    tail_settled = rw at.1 turn.junction_settled

    tail_label : get_or t.labels (get_or N.tails a 0) never ≡ tick
    tail_label = rw at.1 turn.tick_is

    more : (b : ℕ) → HasOffered N settled junction (get_or next a 0) b → HasOffered N settled junction a b ⊎ (b ≡ a)
    more = one_more N settled junction a (next_linked N linked at)

    turn_skips : get_or settled (get_or N.heads a 0) false ≡ true → Turn N source departure settled junction tick interval (get_or next a 0) t
    turn_skips done = record {
      settling = skipped q.accepted turn.settling a at.0 tail_settled tail_label more done;
      junction_settled = turn.junction_settled;
      tick_is = turn.tick_is;
      interval_is = turn.interval_is;
      intervals_kept = turn.intervals_kept;
    }

    -- what the engine answers is the arrival on the arc
    abbrev arrives_at : ℕ
    arrives_at = drive_of (roads_of N) a tick

    arrives_on : {arrived : Option (ℕ × ℕ)} → ArrivesOn (roads_of N) a tick interval arrived →
        arrived ≡ tick_and_interval? N.fences arrives_at
    arrives_on on = on q.closures_kept.at_most (arc_kept N q.accepted tick interval a turn.settling.in_time turn.interval_is at.0)

    turn_misses : ArrivesOn (roads_of N) a tick interval None → Turn N source departure settled junction tick interval (get_or next a 0) t
    turn_misses on = record {
      settling = missed q.accepted turn.settling a at.0 tail_settled tail_label more
          (arrived_never N.fences arrives_at (drive_by_last (roads_of N) a tick) (arrives_on on));
      junction_settled = turn.junction_settled;
      tick_is = turn.tick_is;
      interval_is = turn.interval_is;
      intervals_kept = turn.intervals_kept;
    }

    turn_offers : {arrival Arrives-in : ℕ} {u : Tables} → get_or settled (get_or N.heads a 0) false ≡ false →
        ArrivesOn (roads_of N) a tick interval (Some (arrival, Arrives-in)) →
        Leaves a (get_or N.heads a 0) arrival Arrives-in t u → Turn N source departure settled junction tick interval (get_or next a 0) u
    turn_offers {arrival} {Arrives-in} {u} waits on leaves = record {
      settling = rw (labels_are, predecessors_are) (offered q.accepted turn.settling a at.0 tail_settled tail_label more waits (omega (arith, arrives.2)));
      junction_settled = turn.junction_settled;
      tick_is = rw labels_are (stays ∙ turn.tick_is);
      interval_is = turn.interval_is;
      intervals_kept = kept_offered N.fences t u a head arrival Arrives-in
          (omega (arith, q.accepted.head_below a at.0, turn.settling.labels_long))
          (omega (arith, q.accepted.junctions_fit, turn.settling.labels_long))
          leaves (arrives.1 ∙ rw arrives.0) turn.intervals_kept;
    }
      where
        head : ℕ
        head = get_or N.heads a 0

        arrives : (arrival ≡ arrives_at) × (Arrives-in ≡ interval_of_lem N.fences arrives_at) × (arrives_at ≤ last)
        arrives = arrived_at_law N.fences arrival Arrives-in arrives_at (arrives_on on)

        labels_are : u.labels ≡ lowered t.labels head arrives_at
        labels_are = rw arrives.0 at leaves.labels_are

        predecessors_are : u.predecessors ≡ taken t.labels t.predecessors head arrives_at a
        predecessors_are = rw arrives.0 at leaves.predecessors_are

        stays : get_or (lowered t.labels head arrives_at) junction never ≡ get_or t.labels junction never
        stays = settled_stays q.accepted turn.settling a at.0 tail_settled tail_label more waits junction turn.junction_settled

  pub turn_through : {settled : List Bool} {first next : List ℕ} {junction tick interval a : ℕ} {t u : Tables} → Linked N.tails first next →
      AllOffered (roads_of N) N.heads next settled tick interval a t u → OfJunction N junction a →
      Turn N source departure settled junction tick interval a t → Turn N source departure settled junction tick interval no_arc u
  turn_through linked none_left is_arc turn = turn
  turn_through linked (skips some done rest) is_arc turn =
      turn_through linked rest (next_of N linked (is_arc some)) (turn_skips linked turn (is_arc some) done)
  turn_through linked (offers some waits (ArcOffered.missed on) rest) is_arc turn =
      turn_through linked rest (next_of N linked (is_arc some)) (turn_misses linked turn (is_arc some) on)
  turn_through linked (offers some waits (ArcOffered.offered on leaves) rest) is_arc turn =
      turn_through linked rest (next_of N linked (is_arc some)) (turn_offers linked turn (is_arc some) waits on leaves)

  pub turn_ends : {settled : List Bool} {t : Tables} {junction tick interval : ℕ} →
      Turn N source departure settled junction tick interval no_arc t → Round N source departure settled t
  turn_ends {tick} turn = record {
    tick = tick;
    settling = settling_weakens turn.settling (λ b h d. (h, d, λ _. omega (arith, q.accepted.arcs_fit)));
    intervals_kept = turn.intervals_kept;
  }
