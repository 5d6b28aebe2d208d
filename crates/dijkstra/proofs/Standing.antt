-- What every step of the labelling keeps, whatever the tables: their lengths, and that the junctions which wait stand in the
-- tournament. Its indices and its end rest on this.
use Prim.Native.Nat.{ℕ, zero, suc, ◌≤◌, ◌<◌}
use mathlib.Core.Path.{◌≡◌, refl, ap, ◌∙◌}
use mathlib.Core.Bool.{Bool, true, false}
use mathlib.Core.List.{List, [], ◌∷◌}
use mathlib.Core.Logic.{⊎_elim, by_cases}
use native.Mathlib.Decide.{ℕ_discrete}
use native.Mathlib.Omega.{arith}
use lib.ListN.{length, get_or, set, replicate, length-set, length-replicate}
use lib.Seq.{get_or-set_same, get_or-set_other}
use Rattle.model.specs.Ticks.{last, never}
use Rattle.model.specs.Labels.{no_arc}
use Rattle.model.specs.Network.{Roads}
use Rattle.model.proofs.Entries.{get_or-inside, get_or-all}
use Rattle.model.proofs.Tests.{ltb_cases}
use Rattle.checking.proofs.Flags.{true_not_false}
use Rattle.tournament.specs.Tournament.{Entered, key_of}
use Rattle.dijkstra.specs.Code.Offering.{Tables, tables, Leaves, AllOffered, none_left, skips, offers, missed, offered}
use Rattle.dijkstra.proofs.Offered.{labels_stay_long, predecessors_stay_long}
use Rattle.dijkstra.proofs.Queue.{Queued, queued_starts, queued_settles, queued_lowers, queued_offered}

pub record Standing (junctions : ℕ) (settled : List Bool) (t : Tables) : Type 0 where
  pub settled_long : length settled ≡ 200
  pub labels_long : length t.labels ≡ junctions
  pub predecessors_long : length t.predecessors ≡ junctions
  pub at_most : (k : ℕ) → get_or t.labels k never ≤ never
  pub queued : Queued t.tree t.labels settled

-- ---- What is left to settle

unfoldable pub waiting : List Bool → ℕ
waiting [] = 0
waiting (true ∷ flags) = waiting flags
waiting (false ∷ flags) = suc (waiting flags)

pub waiting_falls : (flags : List Bool) (j : ℕ) → j < length flags → get_or flags j false ≡ false → waiting (set flags j true) < waiting flags
unfolding waiting
waiting_falls [] j h e = absurd (omega arith)
waiting_falls (true ∷ flags) zero h e = absurd (true_not_false refl e)
waiting_falls (false ∷ flags) zero h e = omega arith
waiting_falls (true ∷ flags) (suc j) h e = waiting_falls flags j (omega arith) e
waiting_falls (false ∷ flags) (suc j) h e = omega (arith, waiting_falls flags j (omega arith) e)

-- ---- The steps

lower_at_most : (labels : List ℕ) (head t : ℕ) → head < length labels → t ≤ never → ((k : ℕ) → get_or labels k never ≤ never) →
    (k : ℕ) → get_or (set labels head t) k never ≤ never
lower_at_most labels head t inside h at_most k =
    by_cases (ℕ_discrete k head)
    (λ e. rw (e, get_or-set_same labels head t never inside) h)
    (λ other. rw (get_or-set_other labels head k t never other) (at_most k))

pub stands_first : {junctions source departure key : ℕ} {t : Tables} → source < junctions → departure ≤ last →
    t.labels ≡ set (replicate junctions never) source departure → t.predecessors ≡ replicate junctions no_arc →
    key ≡ key_of departure source → Entered (replicate 512 never) source key t.tree → Standing junctions (replicate 200 false) t
stands_first {junctions} {source} {departure} inside in_time labels_are predecessors_are is_key e = record {
  settled_long = length-replicate 200 false;
  labels_long = ap length labels_are ∙ length-set blank source departure ∙ length-replicate junctions never;
  predecessors_long = ap length predecessors_are ∙ length-replicate junctions no_arc;
  at_most = rw labels_are (lower_at_most blank source departure has_label (omega arith) (λ k. rw (get_or-all junctions never k) (omega arith)));
  queued = rw labels_are
      (queued_lowers (queued_starts blank (replicate 200 false) (get_or-all junctions never) (get_or-all 200 false)) has_label
      (get_or-all 200 false source) (omega arith) (rw is_key at e));
}
  where
    blank : List ℕ
    blank = replicate junctions never

    has_label : source < length blank
    has_label = rw length-replicate inside

module _ {junctions : ℕ} {settled : List Bool} {t : Tables} (s : Standing junctions settled t) where
  pub stands_settles : {tree : List ℕ} {junction : ℕ} → junction < 200 → Entered t.tree junction never tree →
      Standing junctions (set settled junction true) (tables t.labels t.predecessors t.intervals tree)
  stands_settles {junction} inside e = record {
    settled_long = length-set settled junction true ∙ s.settled_long;
    labels_long = s.labels_long;
    predecessors_long = s.predecessors_long;
    at_most = s.at_most;
    queued = queued_settles s.queued (omega (arith, s.settled_long)) e;
  }

  stands_leaves : {a head tick interval : ℕ} {after : Tables} → head < junctions → get_or settled head false ≡ false → Leaves a head tick interval t after →
      Standing junctions settled after
  stands_leaves {head} {tick} inside waits l = record {
    settled_long = s.settled_long;
    labels_long = labels_stay_long l ∙ s.labels_long;
    predecessors_long = predecessors_stay_long l ∙ s.predecessors_long;
    at_most = rw l.labels_are
        (⊎_elim
        (λ w. rw w.0 (lower_at_most t.labels head tick has_label (omega (arith, w.1, label_fits)) s.at_most))
        (λ w. rw w.0 s.at_most)
        (ltb_cases tick (get_or t.labels head 0)));
    queued = rw l.labels_are (queued_offered s.queued has_label waits label_fits l.rekeyed);
  }
    where
      has_label : head < length t.labels
      has_label = omega (arith, s.labels_long)

      label_fits : get_or t.labels head 0 ≤ never
      label_fits = rw (get_or-inside t.labels head never 0 has_label) at (s.at_most head)

-- An arc of the table, or none.
abbrev pub IsArc : List ℕ → ℕ → Type 0
IsArc heads a = (a ≡ no_arc → ⊥) → a < length heads

module _ {R : Roads} {heads next : List ℕ} {settled : List Bool} {tick interval junctions : ℕ}
    (head_below : (a : ℕ) → a < length heads → get_or heads a 0 < junctions)
    (next_is : (a : ℕ) → a < length heads → IsArc heads (get_or next a 0)) where
  pub stands_offered : {a : ℕ} {t u : Tables} → AllOffered R heads next settled tick interval a t u →
      IsArc heads a → Standing junctions settled t → Standing junctions settled u
  stands_offered none_left is_arc s = s
  stands_offered {a} (skips some done rest) is_arc s = stands_offered rest (next_is a (is_arc some)) s
  stands_offered {a} (offers some waits (missed on) rest) is_arc s = stands_offered rest (next_is a (is_arc some)) s
  stands_offered {a} (offers some waits (offered on leaves) rest) is_arc s =
      stands_offered rest (next_is a (is_arc some)) (stands_leaves s (head_below a (is_arc some)) waits leaves)
