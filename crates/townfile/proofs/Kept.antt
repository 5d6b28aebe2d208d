-- A town keeps its limits exactly where each of its arcs and names does, and its counts: the network's tests run through tables, and
-- here they are taken apart arc by arc.
use Prim.Native.Nat.{ℕ, zero, suc, ◌+◌, ◌*◌, ◌≤◌, ◌<◌}
use mathlib.Core.Path.{◌≡◌, refl, sym, ap, ◌∙◌}
use mathlib.Core.Bool.{Bool, true, not, ◌&&◌, and_assoc}
use mathlib.Core.List.{List, [], ◌∷◌, ◌++◌, map, flatten}
use native.Mathlib.Nat.{suc-mul}
use native.Mathlib.Omega.{arith}
use lib.ListN.{length, get_or, length-append, length-map}
use borrow.Author.Tests.{not-false, le-ltb, eq-eqb}
use Rattle.model.specs.Limits.{max_arcs}
use Rattle.model.specs.NetworkRules.{junctions_keep, ends_keep_lem}
use Rattle.model.specs.Rules.{every, count_keeps, fences_keep_lem, length_keeps_lem, speed_keeps, hold_keeps}
use Rattle.model.proofs.Rules.{true_both, both_true}
use Rattle.model.proofs.NetworkRules.{kept_accepted, accepted_kept}
use Rattle.townfile.specs.Grammar.{Named, Arc, Town, network_of, numbers_of_names, Each, TownKept}
use Rattle.townfile.specs.Lines.{ends_differ}

-- ---- The statement arc by arc and name by name

-- An arc passes the tests on it.
pub record ArcTested (junctions intervals : ℕ) (arc : Arc) : Type 0 where
  pub ends_keep : ends_differ junctions arc.tail arc.head ≡ true
  pub length_keeps : length_keeps_lem arc.metres ≡ true
  pub speeds_keep : every speed_keeps arc.speeds ≡ true
  pub hold_keeps_law : hold_keeps arc.hold ≡ true
  pub per_interval : length arc.speeds ≡ intervals

-- The names from a least number on.
unfoldable pub NamesFrom : ℕ → ℕ → List Named → Type 0
NamesFrom junctions least [] = Unit {0}
NamesFrom junctions least (named ∷ names) = ((named.number < junctions) × (least ≤ named.number)) × NamesFrom junctions (named.number + 1) names

pub record PartsKept (T : Town) : Type 0 where
  pub junctions_keep_law : junctions_keep T.junctions ≡ true
  pub count_keeps_law : count_keeps T.fences ≡ true
  pub fences_keep : fences_keep_lem T.fences ≡ true
  pub names_kept : NamesFrom T.junctions 0 T.names
  pub arcs_kept : Each (ArcTested T.junctions (length T.fences)) T.arcs
  pub arcs_few : length T.arcs ≤ max_arcs

-- ---- Arcs

every_append : {A : Type 0} (test : A → Bool) (xs ys : List A) → every test (xs ++ ys) ≡ (every test xs && every test ys)
every_append test [] ys = refl
every_append test (x ∷ xs) ys = rw (every_append test xs ys) (sym (and_assoc (test x) (every test xs) (every test ys)))

module _ (junctions intervals : ℕ) where
  arcs_parted : (arcs : List Arc) → ends_keep_lem junctions (map (λ a. a.tail) arcs) (map (λ a. a.head) arcs) ≡ true → every length_keeps_lem (map (λ a. a.metres) arcs) ≡ true →
      every speed_keeps (flatten (map (λ a. a.speeds) arcs)) ≡ true → every hold_keeps (map (λ a. a.hold) arcs) ≡ true → Each (λ a. length a.speeds ≡ intervals) arcs →
      Each (ArcTested junctions intervals) arcs
  unfolding ends_keep_lem flatten Each
  arcs_parted [] ends lengths speeds holds counts = tt
  arcs_parted (arc ∷ arcs) ends lengths speeds holds counts =
      let end = true_both (ends_differ junctions arc.tail arc.head) (ends_keep_lem junctions (map (λ a. a.tail) arcs) (map (λ a. a.head) arcs)) ends in
      let metres = true_both (length_keeps_lem arc.metres) (every length_keeps_lem (map (λ a. a.metres) arcs)) lengths in
      let hold = true_both (hold_keeps arc.hold) (every hold_keeps (map (λ a. a.hold) arcs)) holds in
      let later = flatten (map (λ a. a.speeds) arcs) in
      let speed = true_both (every speed_keeps arc.speeds) (every speed_keeps later) (sym (every_append speed_keeps arc.speeds later) ∙ speeds) in (
        record { ends_keep = end.0; length_keeps = metres.0; speeds_keep = speed.0; hold_keeps_law = hold.0; per_interval = counts.0 },
        arcs_parted arcs end.1 metres.1 speed.1 hold.1 counts.1,
      )

  -- What the tests on the arcs' tables say together.
  record ArcsKept (arcs : List Arc) : Type 0 where
    ends : ends_keep_lem junctions (map (λ a. a.tail) arcs) (map (λ a. a.head) arcs) ≡ true
    lengths : every length_keeps_lem (map (λ a. a.metres) arcs) ≡ true
    holds : every hold_keeps (map (λ a. a.hold) arcs) ≡ true
    speeds : every speed_keeps (flatten (map (λ a. a.speeds) arcs)) ≡ true
    counts : Each (λ a. length a.speeds ≡ intervals) arcs
    count : length (flatten (map (λ a. a.speeds) arcs)) ≡ length arcs * intervals

  arcs_joined : (arcs : List Arc) → Each (ArcTested junctions intervals) arcs → ArcsKept arcs
  unfolding ends_keep_lem flatten Each
  arcs_joined [] kept = record { ends = refl; lengths = refl; holds = refl; speeds = refl; counts = tt; count = omega arith }
  arcs_joined (arc ∷ arcs) kept =
      let rest = arcs_joined arcs kept.1 in
      record {
        ends = both_true kept.0.ends_keep rest.ends;
        lengths = both_true kept.0.length_keeps rest.lengths;
        holds = both_true kept.0.hold_keeps_law rest.holds;
        speeds = every_append speed_keeps arc.speeds (flatten (map (λ a. a.speeds) arcs)) ∙ both_true kept.0.speeds_keep rest.speeds;
        counts = (kept.0.per_interval, rest.counts);
        count = rw (length-append, suc-mul, rest.count, kept.0.per_interval) (omega arith);
      }

-- ---- Names

names_rising : (junctions least : ℕ) (names : List Named) → NamesFrom junctions least names → (k : ℕ) → suc k < length names →
    get_or (numbers_of_names names) k 0 < get_or (numbers_of_names names) (suc k) 0
unfolding NamesFrom
names_rising junctions least [] kept k h = absurd (omega arith)
names_rising junctions least (named ∷ []) kept k h = absurd (omega arith)
names_rising junctions least (named ∷ next ∷ names) kept zero h = omega (arith, kept.1.0.1)
names_rising junctions least (named ∷ next ∷ names) kept (suc k) h = names_rising junctions (named.number + 1) (next ∷ names) kept.1 k (omega arith)

names_below : (junctions least : ℕ) (names : List Named) → NamesFrom junctions least names → (k : ℕ) → k < length names → get_or (numbers_of_names names) k 0 < junctions
unfolding NamesFrom
names_below junctions least [] kept k h = absurd (omega arith)
names_below junctions least (named ∷ names) kept zero h = kept.0.0
names_below junctions least (named ∷ names) kept (suc k) h = names_below junctions (named.number + 1) names kept.1 k (omega arith)

rising_names : (junctions least : ℕ) (names : List Named) → (0 < length names → least ≤ get_or (numbers_of_names names) 0 0) →
    ((k : ℕ) → suc k < length names → get_or (numbers_of_names names) k 0 < get_or (numbers_of_names names) (suc k) 0) →
    ((k : ℕ) → k < length names → get_or (numbers_of_names names) k 0 < junctions) → NamesFrom junctions least names
unfolding NamesFrom
rising_names junctions least [] first rise below = tt
rising_names junctions least (named ∷ names) first rise below =
    let next : 0 < length names → named.number + 1 ≤ get_or (numbers_of_names names) 0 0 = (λ h. omega (arith, rise 0 (omega arith))) in
    ((below 0 (omega arith), first (omega arith)), rising_names junctions (named.number + 1) names next (λ k h. rise (suc k) (omega arith)) (λ k h. below (suc k) (omega arith)))

-- ---- A town

pub parts_kept : {T : Town} → PartsKept T → TownKept T
parts_kept {T} parts =
    let arcs = arcs_joined T.junctions (length T.fences) T.arcs parts.arcs_kept in
    let speeds_long = arcs.count ∙ ap (λ n. n * length T.fences) (sym (length-map T.arcs (λ a. a.tail))) in
    record {
      network_accepted = kept_accepted (network_of T) (
        ap not parts.junctions_keep_law,
        (
          ap not parts.count_keeps_law,
          (
            le-ltb max_arcs (length (map (λ a. a.tail) T.arcs)) (rw length-map parts.arcs_few),
            (
              ap not
                  (both_true
                  (both_true (both_true (eq-eqb _ _ (as_long (λ a. a.head))) (eq-eqb _ _ (as_long (λ a. a.metres)))) (eq-eqb _ _ (as_long (λ a. a.hold))))
                  (eq-eqb _ _ speeds_long)),
              (ap not parts.fences_keep, (ap not arcs.ends, (ap not arcs.lengths, (ap not arcs.speeds, (ap not arcs.holds, tt))))),
            ),
          ),
        ),
      );
      speeds_per_interval = arcs.counts;
      names_rise = names_rising T.junctions 0 T.names parts.names_kept;
      names_below = names_below T.junctions 0 T.names parts.names_kept;
    }
  where
    as_long : (field : Arc → ℕ) → length (map field T.arcs) ≡ length (map (λ a. a.tail) T.arcs)
    as_long field = length-map T.arcs field ∙ sym (length-map T.arcs (λ a. a.tail))

pub kept_parts : {T : Town} → TownKept T → PartsKept T
kept_parts {T} kept =
    let tests = accepted_kept (network_of T) kept.network_accepted in
    let arcs = tests.1.1.1.1.1 in
    let parted =
    arcs_parted T.junctions (length T.fences) T.arcs (not-false _ arcs.0) (not-false _ arcs.1.0) (not-false _ arcs.1.1.0) (not-false _ arcs.1.1.1.0) in
    record {
      junctions_keep_law = not-false (junctions_keep T.junctions) tests.0;
      count_keeps_law = not-false (count_keeps T.fences) tests.1.0;
      fences_keep = not-false (fences_keep_lem T.fences) tests.1.1.1.1.0;
      names_kept = rising_names T.junctions 0 T.names (λ h. omega arith) kept.names_rise kept.names_below;
      arcs_kept = parted kept.speeds_per_interval;
      arcs_few = rw (length-map T.arcs (λ a. a.tail)) at kept.network_accepted.arcs_fit;
    }
