-- "Load (text; lent tables). 20 [to 27]; 28, a lent table too short, at line 0. Otherwise the junction, interval and arc counts; each
-- table starts with its entries (the speeds arc by arc) and is unchanged after them." Document 02, order 6: "It fills the lent hold table too, and
-- 28 covers that table."
use Rattle.std.specs.Prelude.{ℕ, ◌*◌, ◌≤◌, ◌≡◌, Bool, cond, ◌||◌, ◌↔◌, List, [], ltb, length, take, replicate}
use Rattle.model.specs.Limits.{max_arcs, max_intervals}
use Rattle.model.specs.Network.{Network, arcs, intervals}
use Rattle.model.specs.Rules.{written}
use Rattle.townfile.specs.Grammar.{Bytes, Town, Describes, network_of}
use Rattle.townfile.specs.FirstFault.{Reading, refused_at, accepted, first_fault}
use Rattle.townfile.specs.Tables.{town_of}
use Rattle.townfile.specs.declared.counts.Counts.{Counts}
use Rattle.townfile.specs.declared.progress.Progress.{Progress}

abbrev pub counts : ℕ → ℕ → ℕ → Counts
counts junctions intervals arcs = record { junctions = junctions; intervals = intervals; arcs = arcs }

pub record Tables : Type 0 where
  pub fences : List ℕ
  pub tails : List ℕ
  pub heads : List ℕ
  pub lengths : List ℕ
  pub holds : List ℕ
  pub speeds : List ℕ

abbrev pub tables : List ℕ → List ℕ → List ℕ → List ℕ → List ℕ → List ℕ → Tables
tables fences tails heads lengths holds speeds =
    record { fences = fences; tails = tails; heads = heads; lengths = lengths; holds = holds; speeds = speeds }

abbrev pub counts_of : Progress → Counts
counts_of p = counts p.junctions p.intervals p.arcs

-- Each table has room for its own entries: the plain statement of what `is_too_short` tests.
pub record LongEnough (asked : Counts) (lent : Tables) : Type 0 where
  pub fences_long : asked.intervals ≤ length lent.fences
  pub tails_long : asked.arcs ≤ length lent.tails
  pub heads_long : asked.arcs ≤ length lent.heads
  pub lengths_long : asked.arcs ≤ length lent.lengths
  pub holds_long : asked.arcs ≤ length lent.holds
  pub speeds_long : asked.arcs * asked.intervals ≤ length lent.speeds

-- Tables of zeros with room for every town.
abbrev pub roomy_tables : Tables
roomy_tables = record {
  fences = replicate max_intervals 0;
  tails = replicate max_arcs 0;
  heads = replicate max_arcs 0;
  lengths = replicate max_arcs 0;
  holds = replicate max_arcs 0;
  speeds = replicate (max_arcs * max_intervals) 0;
}

-- The network at the tables' start, of as many entries as the counts say.
abbrev pub network_at : Counts → Tables → Network
network_at asked held = record {
  junctions = asked.junctions;
  fences = take asked.intervals held.fences;
  tails = take asked.arcs held.tails;
  heads = take asked.arcs held.heads;
  lengths = take asked.arcs held.lengths;
  holds = take asked.arcs held.holds;
  speeds = take (asked.arcs * asked.intervals) held.speeds;
  closures = [];
}

-- A network stands at the tables' start.
pub record Stands (N : Network) (reply : Counts) (held : Tables) : Type 0 where
  pub long : LongEnough reply held
  pub is_network : network_at reply held ≡ N

-- Lengths of tables that are too small for their own entries.
abbrev pub lacks_room_lem : ℕ → ℕ → ℕ → ℕ → ℕ → ℕ → ℕ → ℕ → Bool
lacks_room_lem intervals arcs fences tails heads lengths holds speeds =
    ltb fences intervals || ltb tails arcs || ltb heads arcs || ltb lengths arcs || ltb holds arcs || ltb speeds (arcs * intervals)

abbrev pub is_too_short : Counts → Tables → Bool
is_too_short asked lent =
    lacks_room_lem asked.intervals asked.arcs (length lent.fences) (length lent.tails) (length lent.heads) (length lent.lengths)
    (length lent.holds) (length lent.speeds)

abbrev pub into_tables : Reading Progress → Tables → Reading Counts
into_tables (refused_at number line) lent = refused_at number line
into_tables (accepted p) lent = cond (is_too_short (counts_of p) lent) (refused_at 28 0) (accepted (counts_of p))

unfoldable pub load_answer : List ℕ → Tables → Reading Counts
load_answer text lent = into_tables (first_fault text) lent

-- The lent tables with a network's entries at their start.
abbrev pub holding : Network → Tables → Tables
holding N lent = record {
  fences = written N.fences lent.fences;
  tails = written N.tails lent.tails;
  heads = written N.heads lent.heads;
  lengths = written N.lengths lent.lengths;
  holds = written N.holds lent.holds;
  speeds = written N.speeds lent.speeds;
}

-- What the lent tables hold afterwards: where the call is refused, what they held before.
abbrev pub after_reading : Reading Counts → Tables → Tables → Tables
after_reading (refused_at number line) after before = before
after_reading (accepted reply) after before = after

unfoldable pub tables_after : List ℕ → Tables → Tables
tables_after text lent = after_reading (load_answer text lent) (holding (network_of (town_of text)) lent) lent

-- ---- What is proved of it

abbrev pub counts_of_town : Town → Counts
counts_of_town T = counts T.junctions (intervals (network_of T)) (arcs (network_of T))

-- With tables long enough Load accepts a text exactly where it describes a town; it replies that town's counts, and the tables then
-- hold that town.
abbrev pub LoadAcceptsWhenDescribed : Type 0
LoadAcceptsWhenDescribed = (text : List ℕ) → Bytes text → (lent : Tables) (reply : Counts) →
    (load_answer text lent ≡ accepted reply)
    ↔ ((held : Bool) × (T : Town) × Describes text held T × LongEnough (counts_of_town T) lent × (reply ≡ counts_of_town T) × (tables_after text lent ≡ holding (network_of T) lent))

-- 28 is said, at line 0, exactly of a text that describes a town for which a lent table is too short.
abbrev pub TooShortWhenDescribed : Type 0
TooShortWhenDescribed = (text : List ℕ) → Bytes text → (lent : Tables) (line : ℕ) →
    (load_answer text lent ≡ refused_at 28 line) ↔ ((line ≡ 0) × ((held : Bool) × (T : Town) × Describes text held T × (LongEnough (counts_of_town T) lent → ⊥)))
