-- What the offers of arcs do to the tables of a labelling.
use Rattle.std.specs.Prelude.{ℕ, ◌*◌, ◌≤◌, ◌<◌, ◌≡◌, Bool, true, false, ◌&&◌, cond, List, ltb, eqb, length, get_or, set, None, Some}
use Rattle.model.specs.Limits.{max_junctions, max_arcs, max_intervals}
use Rattle.model.specs.Labels.{no_arc}
use Rattle.model.specs.Network.{Roads}
use Rattle.closed_arcs.specs.Arcs.{ArrivesOn}
use Rattle.tournament.specs.Tournament.{Tournament, Entered, key_of}
use Rattle.dijkstra.specs.declared.tables.Tables.{Tables as Held}

-- What the labelling writes: both buffers, the interval of each label, and the tournament of the junctions that are reached and not settled.
pub record Tables : Type 0 where
  pub labels : List ℕ
  pub predecessors : List ℕ
  pub intervals : List ℕ
  pub tree : List ℕ

abbrev pub tables : List ℕ → List ℕ → List ℕ → List ℕ → Tables
tables labels predecessors intervals tree = record { labels = labels; predecessors = predecessors; intervals = intervals; tree = tree }

-- Those that a value of the code holds.
abbrev pub held : Held → Tables
held t = tables t.labels.now t.predecessors.now t.intervals t.tree.now

-- Both buffers are those that were lent, so that what stands in them in the end stands behind the caller's references.
pub record SameBuffers (before after : Held) : Type 0 where
  pub labels : after.labels.ghost_name ≡ before.labels.ghost_name
  pub predecessors : after.predecessors.ghost_name ≡ before.predecessors.ghost_name

-- ---- An arc's offer

-- An earlier arrival lowers the head's label.
abbrev pub lowered : List ℕ → ℕ → ℕ → List ℕ
lowered labels head t = cond (ltb t (get_or labels head 0)) (set labels head t) labels

-- A head whose label is lowered gets the interval of its new label.
abbrev pub noted : List ℕ → List ℕ → ℕ → ℕ → ℕ → List ℕ
noted labels intervals head t interval = cond (ltb t (get_or labels head 0)) (set intervals head interval) intervals

-- Of the arcs that arrive at the head's label, the lowest_numbered is its predecessor.
abbrev pub taken : List ℕ → List ℕ → ℕ → ℕ → ℕ → List ℕ
taken labels predecessors head t a =
    cond (ltb t (get_or labels head 0)) (set predecessors head a)
    (cond (eqb t (get_or labels head 0) && ltb a (get_or predecessors head 0)) (set predecessors head a) predecessors)

-- A head whose label is lowered gets the key of its new label.
pub record Rekeyed (labels before : List ℕ) (head t : ℕ) (after : List ℕ) : Type 0 where
  pub entered : t < get_or labels head 0 → Entered before head (key_of t head) after
  pub kept : get_or labels head 0 ≤ t → after ≡ before

-- The tables have the head.
pub record Offerable (head : ℕ) (before : Tables) : Type 0 where
  pub is_junction : head < max_junctions
  pub has_label : head < length before.labels
  pub has_predecessor : head < length before.predecessors
  pub tournament : Tournament before.tree

-- What an offer leaves that arrives at the tick t in the interval.
pub record Leaves (a head t interval : ℕ) (before after : Tables) : Type 0 where
  pub labels_are : after.labels ≡ lowered before.labels head t
  pub predecessors_are : after.predecessors ≡ taken before.labels before.predecessors head t a
  pub intervals_are : after.intervals ≡ noted before.labels before.intervals head t interval
  pub rekeyed : Rekeyed before.labels before.tree head t after.tree

-- What driving an arc leaves: where it does not arrive by the last tick, all is as it was.
pub data ArcOffered (R : Roads) (a head tick interval : ℕ) : Tables → Tables → Type 0 where
  missed : {t : Tables} → ArrivesOn R a tick interval None → ArcOffered R a head tick interval t t
  offered : {arrival Arrives-in : ℕ} {t u : Tables} → ArrivesOn R a tick interval (Some (arrival, Arrives-in)) →
      Leaves a head arrival Arrives-in t u → ArcOffered R a head tick interval t u

-- ---- The offers of a junction's arcs

-- What they are handed: an arc or none, and links that lead from each arc to a later one or to none.
pub record Drivable (R : Roads) (heads next : List ℕ) (first : ℕ) (before : Tables) : Type 0 where
  pub few_arcs : length heads ≤ max_arcs
  pub few_intervals : length R.fences ≤ max_intervals
  pub lengths_long : length R.lengths ≡ length heads
  pub holds_long : length R.holds ≡ length heads
  pub speeds_long : length R.speeds ≡ length heads * length R.fences
  pub few_junctions : length before.labels ≤ max_junctions
  pub predecessors_long : length before.predecessors ≡ length before.labels
  pub head_below : (a : ℕ) → a < length heads → get_or heads a 0 < length before.labels
  pub first_is : (first ≡ no_arc → ⊥) → first < length heads
  pub next_is : (a : ℕ) → a < length heads → (get_or next a 0 ≡ no_arc → ⊥) → (a < get_or next a 0) × (get_or next a 0 < length heads)
  pub tournament : Tournament before.tree

-- From arc a on along the links, each arc to a head that is not settled has been driven, one after the other.
pub data AllOffered (R : Roads) (heads next : List ℕ) (settled : List Bool) (tick interval : ℕ) : ℕ → Tables → Tables → Type 0 where
  none_left : {t : Tables} → AllOffered R heads next settled tick interval no_arc t t
  skips : {a : ℕ} {t u : Tables} → (a ≡ no_arc → ⊥) → get_or settled (get_or heads a 0) false ≡ true →
      AllOffered R heads next settled tick interval (get_or next a 0) t u →
      AllOffered R heads next settled tick interval a t u
  offers : {a : ℕ} {t v u : Tables} → (a ≡ no_arc → ⊥) → get_or settled (get_or heads a 0) false ≡ false →
      ArcOffered R a (get_or heads a 0) tick interval t v →
      AllOffered R heads next settled tick interval (get_or next a 0) v u →
      AllOffered R heads next settled tick interval a t u
