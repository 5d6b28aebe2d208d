-- What an arc's offer does to the tables, by how its arrival stands to the head's label, and what stays.
use Prim.Native.Nat.{ℕ, ◌≤◌, ◌<◌}
use mathlib.Core.Path.{◌≡◌, refl, ap, ◌∙◌}
use mathlib.Core.Bool.{Bool, true, false, ◌&&◌, cond}
use mathlib.Core.List.{List}
use mathlib.Core.Logic.{⊎_elim}
use native.Mathlib.Omega.{arith}
use lib.Dec.{ltb, eqb}
use lib.ListN.{length, get_or, set, length-set}
use borrow.Author.Tests.{lt-ltb, le-ltb, eq-eqb, ne_eqb}
use Rattle.model.proofs.Tests.{ltb_cases}
use Rattle.model.specs.Network.{Roads}
use Rattle.tournament.specs.Tournament.{Tournament, Entered, key_of}
use Rattle.dijkstra.specs.Code.Offering.{Tables, tables, Leaves, ArcOffered, missed, offered}

-- ---- What is left

module _ (before : Tables) (a head r interval : ℕ) where
  pub leaves_lower : r < get_or before.labels head 0 → {key : ℕ} {tree : List ℕ} → key ≡ key_of r head → Entered before.tree head key tree →
      Leaves a head r interval before (tables (set before.labels head r) (set before.predecessors head a) (set before.intervals head interval) tree)
  leaves_lower h is_key entered =
      let lower = lt-ltb r (get_or before.labels head 0) h in
      record {
        labels_are = rw lower;
        predecessors_are = rw lower;
        intervals_are = rw lower;
        rekeyed = record { entered = λ _. rw is_key at entered; kept = λ l. absurd (omega arith) };
      }

  -- where the label is not lowered, the predecessor alone can change
  leaves_labels : get_or before.labels head 0 ≤ r → (lower : Bool) →
      (eqb r (get_or before.labels head 0) && ltb a (get_or before.predecessors head 0)) ≡ lower →
      Leaves a head r interval before
      (tables before.labels (cond lower (set before.predecessors head a) before.predecessors) before.intervals before.tree)
  leaves_labels h lower e =
      let no_lower = le-ltb r (get_or before.labels head 0) h in
      record {
        labels_are = rw no_lower;
        predecessors_are = rw (no_lower, e);
        intervals_are = rw no_lower;
        rekeyed = record { entered = λ l. absurd (omega arith); kept = λ _. refl };
      }

  module _ (h : get_or before.labels head 0 ≤ r) where
    pub leaves_tie : r ≡ get_or before.labels head 0 → a < get_or before.predecessors head 0 →
        Leaves a head r interval before (tables before.labels (set before.predecessors head a) before.intervals before.tree)
    leaves_tie e lower = leaves_labels h true (rw (eq-eqb r (get_or before.labels head 0) e, lt-ltb a (get_or before.predecessors head 0) lower))

    pub leaves_tie_kept : r ≡ get_or before.labels head 0 → get_or before.predecessors head 0 ≤ a → Leaves a head r interval before before
    leaves_tie_kept e kept = leaves_labels h false (rw (eq-eqb r (get_or before.labels head 0) e, le-ltb a (get_or before.predecessors head 0) kept))

    pub leaves_later : (r ≡ get_or before.labels head 0 → ⊥) → Leaves a head r interval before before
    leaves_later e = leaves_labels h false (rw (ne_eqb r (get_or before.labels head 0) e))

-- ---- What stays

set_or_not : (b : Bool) (l : List ℕ) (i v : ℕ) (rest : List ℕ) → length rest ≡ length l → length (cond b (set l i v) rest) ≡ length l
set_or_not true l i v rest same = length-set l i v
set_or_not false l i v rest same = same

module _ {a head t interval : ℕ} {before after : Tables} (l : Leaves a head t interval before after) where
  pub labels_stay_long : length after.labels ≡ length before.labels
  labels_stay_long = ap length l.labels_are ∙ set_or_not (ltb t (get_or before.labels head 0)) before.labels head t before.labels refl

  pub predecessors_stay_long : length after.predecessors ≡ length before.predecessors
  predecessors_stay_long =
      let old = before.predecessors in
      let ties = eqb t (get_or before.labels head 0) && ltb a (get_or old head 0) in
      let kept : length (cond ties (set old head a) old) ≡ length old = set_or_not ties old head a old refl in
      ap length l.predecessors_are ∙ set_or_not (ltb t (get_or before.labels head 0)) old head a (cond ties (set old head a) old) kept

  pub stays_tournament : Tournament before.tree → Tournament after.tree
  stays_tournament played =
      ⊎_elim
      (λ w. (l.rekeyed.entered w.1).tournament)
      (λ w. rw (l.rekeyed.kept w.1) played)
      (ltb_cases t (get_or before.labels head 0))

module _ {R : Roads} {a head tick interval : ℕ} where
  pub labels_stay : {t u : Tables} → ArcOffered R a head tick interval t u → length u.labels ≡ length t.labels
  labels_stay (missed on) = refl
  labels_stay (offered on leaves) = labels_stay_long leaves

  pub predecessors_stay : {t u : Tables} → ArcOffered R a head tick interval t u → length u.predecessors ≡ length t.predecessors
  predecessors_stay (missed on) = refl
  predecessors_stay (offered on leaves) = predecessors_stay_long leaves

  pub tournament_stays : {t u : Tables} → ArcOffered R a head tick interval t u → Tournament t.tree → Tournament u.tree
  tournament_stays (missed on) played = played
  tournament_stays (offered on leaves) played = stays_tournament leaves played
