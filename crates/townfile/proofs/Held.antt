-- A town in the tables: after a text is loaded its town's network stands at their start, of as many entries as the counts say; and
-- tables with room for every town take every text that describes one.
use Prim.Native.Nat.{ℕ, zero, suc, ◌*◌, ◌≤◌}
use mathlib.Core.Path.{◌≡◌, refl, sym, ap, ◌∙◌}
use mathlib.Core.Bool.{Bool, false}
use mathlib.Core.List.{List, [], ◌∷◌, map}
use native.Mathlib.Nat.{mul-le-mul}
use native.Mathlib.Omega.{arith}
use lib.ListN.{length, get_or, take, drop, replicate, length-append, length-replicate}
use lib.Seq.{take-append_seam}
use Rattle.model.specs.Limits.{max_arcs, max_intervals}
use Rattle.model.specs.Network.{Network, network, Accepted, arcs, intervals, drive_of}
use Rattle.model.proofs.Holds.{no_hold_law}
use Rattle.model.specs.Rules.{written}
use Rattle.townfile.specs.FirstFault.{accepted}
use Rattle.townfile.specs.Grammar.{Bytes, Arc, Town, Each, Line, TN, FN, JN, AR, CM, Reads, arc_line, ReadsAll, no_lines, reads_line, Describes, network_of}
use Rattle.townfile.specs.Tables.{town_of, OldTownsAreNotHeld}
use Rattle.townfile.specs.Load.{counts, Tables, LongEnough, Stands, roomy_tables, counts_of_town, load_answer, holding, tables_after}
use Rattle.townfile.specs.declared.counts.Counts.{Counts}
use Rattle.townfile.proofs.Described.{described_town}
use Rattle.townfile.proofs.Gathered.{town_said, town_said_law}
use Rattle.townfile.proofs.Load.{long_fits, described_answer, load_accepts_when_described}

-- ---- At the tables' start

written_long : (entries table : List ℕ) {n : ℕ} → n ≡ length entries → n ≤ length (written entries table)
written_long entries table e = omega (arith, length-append entries (drop (length entries) table))

written_start : (entries table : List ℕ) {n : ℕ} → n ≡ length entries → take n (written entries table) ≡ entries
written_start entries table e = rw e (take-append_seam entries (drop (length entries) table))

-- a network without closures, as no file has any
holding_stands : (N : Network) → N.closures ≡ [] → Accepted N → (lent : Tables) → Stands N (counts N.junctions (intervals N) (arcs N)) (holding N lent)
holding_stands N none kept lent =
    let heads = sym kept.heads_long in
    let lengths = sym kept.lengths_long in
    let holds = sym kept.holds_long in
    let speeds = sym kept.speeds_long in
    let fences-start = written_start N.fences lent.fences refl in
    let tails-start = written_start N.tails lent.tails refl in
    let heads-start = written_start N.heads lent.heads heads in
    let lengths-start = written_start N.lengths lent.lengths lengths in
    let holds-start = written_start N.holds lent.holds holds in
    let speeds-start = written_start N.speeds lent.speeds speeds in
    record {
      long = record {
        fences_long = written_long N.fences lent.fences refl;
        tails_long = written_long N.tails lent.tails refl;
        heads_long = written_long N.heads lent.heads heads;
        lengths_long = written_long N.lengths lent.lengths lengths;
        holds_long = written_long N.holds lent.holds holds;
        speeds_long = written_long N.speeds lent.speeds speeds;
      };
      is_network = rw (fences-start, tails-start, heads-start, lengths-start, holds-start, speeds-start)
          (ap (network N.junctions N.fences N.tails N.heads N.lengths N.holds N.speeds) (sym none));
    }

-- In the old form no arc is held.
old_arcs_unheld : {lines : List (List ℕ)} {say : List Line} → ReadsAll false lines say → Each (λ a. a.hold ≡ 0) (town_said say).arcs
unfolding Each town_said
old_arcs_unheld no_lines = tt
old_arcs_unheld (reads_line {says = TN junctions intervals} short reads all) = old_arcs_unheld all
old_arcs_unheld (reads_line {says = FN fences} short reads all) = old_arcs_unheld all
old_arcs_unheld (reads_line {says = JN named} short reads all) = old_arcs_unheld all
old_arcs_unheld (reads_line {says = AR arc} short reads all) = (old_arc_unheld reads, old_arcs_unheld all)
  where
    old_arc_unheld : {line : List ℕ} {arc : Arc} → Reads false line (AR arc) → arc.hold ≡ 0
    old_arc_unheld (arc_line fields) = refl
old_arcs_unheld (reads_line {says = CM} short reads all) = old_arcs_unheld all

unheld_at : (given : List Arc) (a : ℕ) → Each (λ a. a.hold ≡ 0) given → get_or (map (λ a. a.hold) given) a 0 ≡ 0
unfolding Each
unheld_at [] a each = refl
unheld_at (arc ∷ rest) zero each = each.0
unheld_at (arc ∷ rest) (suc a) each = unheld_at rest a each.1

pub old_towns_are_not_held : OldTownsAreNotHeld
unfolding drive_of
old_towns_are_not_held text T described a t =
    let unheld = rw (town_said_law described.say T described.in_order) at (old_arcs_unheld described.each_reads) in
    rw (unheld_at T.arcs a unheld) (no_hold_law _ _ t)

pub loaded_stands : (text : List ℕ) (lent : Tables) {reply : Counts} {held : Tables} → Bytes text → accepted reply ≡ load_answer text lent →
    held ≡ tables_after text lent → Stands (network_of (town_of text)) reply held
loaded_stands text lent {reply} {held} bytes e are =
    let found = (load_accepts_when_described text bytes lent reply).0 (sym e) in
    go found.0 found.1 found.2 found.4 (are ∙ found.5)
  where
    go : (form : Bool) (T : Town) → Describes text form T → reply ≡ counts_of_town T → held ≡ holding (network_of T) lent → Stands (network_of (town_of text)) reply held
    go form T described counted holds =
        let kept = described.kept.network_accepted in
        rw (described_town described, counted, holds) (holding_stands (network_of T) refl kept lent)

-- ---- Room for every town

pub zeros_long : (room : ℕ) {n : ℕ} → n ≤ room → n ≤ length (replicate {A = ℕ} room 0)
zeros_long room fits = rw (length-replicate {A = ℕ} room 0) fits

town_long : (T : Town) → Accepted (network_of T) → LongEnough (counts_of_town T) roomy_tables
town_long T kept = record {
  fences_long = zeros_long max_intervals kept.intervals_fit;
  tails_long = zeros_long max_arcs kept.arcs_fit;
  heads_long = zeros_long max_arcs kept.arcs_fit;
  lengths_long = zeros_long max_arcs kept.arcs_fit;
  holds_long = zeros_long max_arcs kept.arcs_fit;
  speeds_long = zeros_long (max_arcs * max_intervals) (mul-le-mul kept.arcs_fit kept.intervals_fit);
}

pub town_loads : {text : List ℕ} {held : Bool} {T : Town} → Describes text held T → load_answer text roomy_tables ≡ accepted (counts_of_town T)
town_loads {T = T} described = described_answer roomy_tables described ∙ rw (long_fits T roomy_tables (town_long T described.kept.network_accepted))
