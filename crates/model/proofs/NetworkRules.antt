-- No test of Network check fires exactly where the plain rules hold.
use Prim.Native.Nat.{ℕ, zero, suc, ◌*◌, ◌<◌, ◌≤◌}
use mathlib.Core.Path.{◌≡◌, refl, ap}
use mathlib.Core.Bool.{true, false, not, ◌&&◌}
use mathlib.Core.List.{List, [], ◌∷◌}
use native.Mathlib.Omega.{arith}
use lib.Dec.{leb, ltb, eqb}
use lib.ListN.{length, get_or}
use borrow.Author.Tests.{not-true, not-false, ltb-true, ltb-false, leb-true, eqb-true, eqb-false, lt-ltb, le-ltb, le-leb, eq-eqb, ne_eqb}
use Rattle.model.specs.Limits.{max_junctions, max_arcs, max_length, max_speed, max_hold}
use Rattle.model.specs.Network.{Network, arcs, intervals, Accepted}
use Rattle.model.specs.NetworkRules.{junctions_keep, tables_agree_lem, ends_keep_lem, network_rules, network_check_lem, AcceptsWhenKept}
use Rattle.model.specs.Rules.{AllKept, every, fences_keep_lem, length_keeps_lem}
use Rattle.model.proofs.Rules.{kept_replies, replies_kept, true_both, true_three, both_true}
use Rattle.model.proofs.Rules.{kept_count, count_kept, kept_length, length_kept, every_at, at_every, kept_within, within_kept, fences_kept, kept_fences}

-- ---- The ends of the arcs

-- The rule on one arc.
abbrev EndsKept : ℕ → ℕ → ℕ → Type 0
EndsKept junctions tail head = (tail < junctions) × (head < junctions) × (tail ≡ head → ⊥)

ends_at : (junctions : ℕ) (tails heads : List ℕ) → ends_keep_lem junctions tails heads ≡ true → length heads ≡ length tails →
    (a : ℕ) → a < length tails → EndsKept junctions (get_or tails a 0) (get_or heads a 0)
unfolding ends_keep_lem
ends_at junctions [] heads e same a h = absurd (omega arith)
ends_at junctions (t ∷ ts) [] e same a h = absurd (omega arith)
ends_at junctions (t ∷ ts) (g ∷ gs) e same zero h =
    let here = true_three (ltb t junctions) (ltb g junctions) (not (eqb t g)) (true_both _ (ends_keep_lem junctions ts gs) e).0 in
    (ltb-true t junctions here.0, ltb-true g junctions here.1, eqb-false t g (not-true (eqb t g) here.2))
ends_at junctions (t ∷ ts) (g ∷ gs) e same (suc a) h =
    let rest = (true_both (ltb t junctions && ltb g junctions && not (eqb t g)) (ends_keep_lem junctions ts gs) e).1 in
    ends_at junctions ts gs rest (omega arith) a (omega arith)

at_ends : (junctions : ℕ) (tails heads : List ℕ) →
    ((a : ℕ) → a < length tails → a < length heads → EndsKept junctions (get_or tails a 0) (get_or heads a 0)) → ends_keep_lem junctions tails heads ≡ true
unfolding ends_keep_lem
at_ends junctions [] heads kept = refl
at_ends junctions (t ∷ ts) [] kept = refl
at_ends junctions (t ∷ ts) (g ∷ gs) kept =
    let here = kept 0 (omega arith) (omega arith) in
    both_true
    (both_true (both_true (lt-ltb t junctions here.0) (lt-ltb g junctions here.1)) (ap not (ne_eqb t g here.2)))
    (at_ends junctions ts gs (λ a h h'. kept (suc a) (omega arith) (omega arith)))

-- ---- The lengths

-- The rule on one length.
abbrev LengthKept : ℕ → Type 0
LengthKept metres = (1 ≤ metres) × (metres ≤ max_length)

kept_lengths : (lengths : List ℕ) → not (every length_keeps_lem lengths) ≡ false → (a : ℕ) → a < length lengths → LengthKept (get_or lengths a 0)
kept_lengths lengths e a h = kept_length (get_or lengths a 0) (every_at length_keeps_lem 0 lengths (not-false (every length_keeps_lem lengths) e) a h)

lengths_kept : (lengths : List ℕ) → ((a : ℕ) → a < length lengths → LengthKept (get_or lengths a 0)) → not (every length_keeps_lem lengths) ≡ false
lengths_kept lengths kept = ap not (at_every length_keeps_lem 0 lengths (λ a h. length_kept (get_or lengths a 0) (kept a h).0 (kept a h).1))

-- ---- All rules

pub kept_tables : (fences tails heads lengths holds speeds : List ℕ) → not (tables_agree_lem fences tails heads lengths holds speeds) ≡ false →
    (length heads ≡ length tails) × (length lengths ≡ length tails) × (length holds ≡ length tails) × (length speeds ≡ length tails * length fences)
kept_tables fences tails heads lengths holds speeds e =
    let (of-arcs, of-speeds) = true_both _ _ (not-false (tables_agree_lem fences tails heads lengths holds speeds) e) in
    let long = true_three _ _ _ of-arcs in (
      eqb-true (length heads) (length tails) long.0,
      eqb-true (length lengths) (length tails) long.1,
      eqb-true (length holds) (length tails) long.2,
      eqb-true (length speeds) (length tails * length fences) of-speeds,
    )

module _ (N : Network) where
  pub kept_accepted : AllKept (network_rules N) → Accepted N
  kept_accepted kept =
      let count = true_both (ltb 0 N.junctions) (leb N.junctions max_junctions) (not-false (junctions_keep N.junctions) kept.0) in
      let fences = kept_count N.fences kept.1.0 in
      let long = kept_tables N.fences N.tails N.heads N.lengths N.holds N.speeds kept.1.1.1.0 in
      let all-ends = not-false (ends_keep_lem N.junctions N.tails N.heads) kept.1.1.1.1.1.0 in
      let ends = ends_at N.junctions N.tails N.heads all-ends long.0 in
      let metres = kept_lengths N.lengths kept.1.1.1.1.1.1.0 in
      record {
        some_junction = ltb-true 0 N.junctions count.0;
        junctions_fit = leb-true N.junctions max_junctions count.1;
        some_interval = fences.0;
        intervals_fit = fences.1;
        arcs_fit = ltb-false max_arcs (arcs N) kept.1.1.0;
        heads_long = long.0;
        lengths_long = long.1;
        holds_long = long.2;
        speeds_long = long.3;
        fences_kept = fences_kept N.fences (not-false (fences_keep_lem N.fences) kept.1.1.1.1.0);
        tail_below = λ a h. (ends a h).0;
        head_below = λ a h. (ends a h).1;
        ends_are_apart = λ a h. (ends a h).2;
        some_length = λ a h. (metres a (omega (arith, long.1))).0;
        length_fits = λ a h. (metres a (omega (arith, long.1))).1;
        speed_fits = λ i h. kept_within max_speed N.speeds kept.1.1.1.1.1.1.1.0 i (omega (arith, long.3));
        hold_fits = λ a h. kept_within max_hold N.holds kept.1.1.1.1.1.1.1.1.0 a (omega (arith, long.2));
      }

  pub accepted_kept : Accepted N → AllKept (network_rules N)
  accepted_kept a =
      let count = both_true (lt-ltb 0 N.junctions a.some_junction) (le-leb N.junctions max_junctions a.junctions_fit) in
      let heads_long = eq-eqb (length N.heads) (arcs N) a.heads_long in
      let lengths_long = eq-eqb (length N.lengths) (arcs N) a.lengths_long in
      let holds_long = eq-eqb (length N.holds) (arcs N) a.holds_long in
      let speeds_long = eq-eqb (length N.speeds) (arcs N * intervals N) a.speeds_long in
      let tables = both_true (both_true (both_true heads_long lengths_long) holds_long) speeds_long in
      let ends = at_ends N.junctions N.tails N.heads (λ i h h'. (a.tail_below i h, a.head_below i h, a.ends_are_apart i h)) in
      let fences = kept_fences N.fences a.fences_kept in
      let lengths = lengths_kept N.lengths (λ i h. (a.some_length i (omega (arith, a.lengths_long)), a.length_fits i (omega (arith, a.lengths_long)))) in
      let speeds = within_kept max_speed N.speeds (λ i h. a.speed_fits i (omega (arith, a.speeds_long))) in
      let holds = within_kept max_hold N.holds (λ i h. a.hold_fits i (omega (arith, a.holds_long))) in
      let intervals_kept = count_kept N.fences a.some_interval a.intervals_fit in
      let arcs_kept = le-ltb max_arcs (arcs N) a.arcs_fit in
      (ap not count, (intervals_kept, (arcs_kept, (ap not tables, (ap not fences, (ap not ends, (lengths, (speeds, (holds, tt)))))))))

pub accepts_when_kept : AcceptsWhenKept
unfolding network_check_lem
accepts_when_kept N =
    ((λ e. kept_accepted N (replies_kept (network_rules N) tt tt e)), (λ a. kept_replies (network_rules N) tt (accepted_kept N a)))
