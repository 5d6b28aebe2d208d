-- Filling the tables line by line: each table stores what the lines left give, behind what it has, so that storing what is left comes
-- to storing all. What is left is told by the lines of a mark, from a place on.
use Prim.Native.Nat.{ℕ, suc, ◌+◌, ◌*◌, ◌≤◌}
use mathlib.Core.Path.{◌≡◌, refl, sym, ap, ◌∙◌}
use mathlib.Core.Bool.{Bool, true, cond}
use mathlib.Core.List.{List, [], ◌∷◌, ◌++◌, map, flatten}
use native.Mathlib.Omega.{arith}
use lib.Dec.{eqb}
use lib.ListN.{length, get_or, set, take, drop, length-append, length-map, length-drop}
use lib.Seq.{length-take-le, sets, length-sets, sets-eq}
use borrow.Author.Tests.{eqb-true}
use Rattle.model.specs.Rules.{every, written}
use Rattle.model.proofs.Rules.{true_both, both_true}
use Rattle.townfile.specs.Numbers.{decimal, number_keeps}
use Rattle.townfile.specs.Grammar.{network_of, Each}
use Rattle.townfile.specs.Lines.{mark_fn, mark_ar, mark_of, mark_alone, fields_of, numbers_of, numbers_keep}
use Rattle.townfile.specs.Tables.{arc_of, town_of}
use Rattle.townfile.specs.Load.{Tables, tables, holding}
use Rattle.fields.specs.Fields.{line_from, numbers_from}
use Rattle.loading.specs.Code.Filling.{EndsInside, NumbersFill, ArcFills, ArcHasRoom, with_arc, FencesLine, ArcLine, Fillable}
use Rattle.fields.proofs.BehindMark.{BehindMark}
use Rattle.loading.proofs.MarkedFrom.{marked_from, none_left, this_marked, this_unmarked}

-- ---- One table

sets_append : (entries more table : List ℕ) (place : ℕ) → sets table place (entries ++ more) ≡ sets (sets table place entries) (place + length entries) more
sets_append [] more table place = ap (λ k. sets table k more) (omega arith)
sets_append (entry ∷ entries) more table place =
    sets_append entries more (set table place entry) (suc place) ∙ ap (λ k. sets (sets table place (entry ∷ entries)) k more) (omega arith)

-- A table filled up to a place, with what is left to store there.
pub record FilledTo (before table : List ℕ) (place : ℕ) (left all : List ℕ) : Type 0 where
  pub same_table : sets table place left ≡ sets before 0 all
  pub room : place + length left ≤ length table
  pub same_length : length table ≡ length before

nothing_filled : (table all : List ℕ) → length all ≤ length table → FilledTo table table 0 all all
nothing_filled table all h = record { same_table = refl; room = omega arith; same_length = refl }

entries_filled : {before table : List ℕ} {place : ℕ} {left all : List ℕ} (entries more after : List ℕ) (place' : ℕ) → FilledTo before table place left all →
    left ≡ entries ++ more → after ≡ sets table place entries → place' ≡ place + length entries → FilledTo before after place' more all
entries_filled {table = table} {place = place} entries more after place' filled e stored moved =
    record {
      same_table = rw (stored, moved, ← (sets_append entries more table place), ← e) filled.same_table;
      room = omega (arith, filled.room, ap length e, length-append entries more, ap length stored, length-sets table place entries);
      same_length = ap length stored ∙ length-sets table place entries ∙ filled.same_length;
    }

all_filled : {before table : List ℕ} {place : ℕ} {left all : List ℕ} → FilledTo before table place left all → length all ≤ length before → left ≡ [] → table ≡ written all before
all_filled {before = before} {all = all} filled long e =
    let same : 0 + length all ≡ length all = omega arith in
    rw e at filled.same_table ∙ sets-eq all before 0 (omega arith) ∙ rw same

-- ---- Lines that fill tables

numbers_count : (count : ℕ) (line : List ℕ) → numbers_keep count line ≡ true → length (numbers_of line) ≡ count
numbers_count count line form =
    length-map (fields_of line) decimal
    ∙ eqb-true (length (fields_of line)) count (true_both (every number_keeps (fields_of line)) (eqb (length (fields_of line)) count) form).1

module _ {text : List ℕ} {at : ℕ} (behind : BehindMark text at) where
  numbers_behind : numbers_from text (at + 2) ≡ numbers_of (line_from text at)
  numbers_behind = ap (map decimal) (sym behind.fields_are)

  fill_behind : EndsInside text at → (count : ℕ) → mark_alone (line_from text at) ≡ true → numbers_keep count (line_from text at) ≡ true → NumbersFill count text (at + 2)
  fill_behind ends count alone form =
      let parts = true_both (every number_keeps (fields_of (line_from text at))) (eqb (length (fields_of (line_from text at))) count) form in
      record {
        filled = rw (← behind.fields_are) (both_true (both_true (sym behind.alone_is ∙ alone) parts.0) parts.1);
        ends = omega (arith, ap length behind.line_is, ends);
      }

  arc_behind : EndsInside text at → (intervals : ℕ) (held : Bool) → ArcLine intervals held (line_from text at) → ArcFills intervals held text (at + 2)
  arc_behind ends intervals held line = record {
    numbers_fill = fill_behind ends (3 + intervals + cond held 1 0) line.alone line.form;
    tail_fits = rw numbers_behind line.tail_fits;
    head_fits = rw numbers_behind line.head_fits;
    speeds_fit = rw numbers_behind line.speeds_fit;
    hold_fits = rw numbers_behind line.hold_fits;
  }

-- ---- All tables

-- What the lines of fences, and those of arcs, store in each table.
abbrev fences_of : List (List ℕ) → List ℕ
fences_of lines = flatten (map numbers_of lines)

module _ (intervals : ℕ) where
  abbrev tails_of : List (List ℕ) → List ℕ
  tails_of lines = map (λ a. a.tail) (map (arc_of intervals) lines)

  abbrev heads_of : List (List ℕ) → List ℕ
  heads_of lines = map (λ a. a.head) (map (arc_of intervals) lines)

  abbrev lengths_of : List (List ℕ) → List ℕ
  lengths_of lines = map (λ a. a.metres) (map (arc_of intervals) lines)

  abbrev holds_of : List (List ℕ) → List ℕ
  holds_of lines = map (λ a. a.hold) (map (arc_of intervals) lines)

  abbrev speeds_of : List (List ℕ) → List ℕ
  speeds_of lines = flatten (map (λ a. a.speeds) (map (arc_of intervals) lines))

-- The tables, with the lines of fences and of arcs that are left of all.
pub record TablesFilled (intervals : ℕ) (held : Bool) (allFences allArcs : List (List ℕ)) (before : Tables) (leftFences leftArcs : List (List ℕ)) (fence arc : ℕ)
    (lent : Tables) : Type 0 where
  pub fences_left : Each (FencesLine intervals) leftFences
  pub arcs_left : Each (ArcLine intervals held) leftArcs
  pub fences_filled : FilledTo before.fences lent.fences fence (fences_of leftFences) (fences_of allFences)
  pub tails_filled : FilledTo before.tails lent.tails arc (tails_of intervals leftArcs) (tails_of intervals allArcs)
  pub heads_filled : FilledTo before.heads lent.heads arc (heads_of intervals leftArcs) (heads_of intervals allArcs)
  pub lengths_filled : FilledTo before.lengths lent.lengths arc (lengths_of intervals leftArcs) (lengths_of intervals allArcs)
  pub holds_filled : FilledTo before.holds lent.holds arc (holds_of intervals leftArcs) (holds_of intervals allArcs)
  pub speeds_filled : FilledTo before.speeds lent.speeds (arc * intervals) (speeds_of intervals leftArcs) (speeds_of intervals allArcs)

module _ {intervals : ℕ} {held : Bool} {allFences allArcs : List (List ℕ)} {before : Tables} {fences arcs : List (List ℕ)} {line : List ℕ} {fence arc : ℕ} {lent : Tables} where
  -- A line of fences comes first of those left.
  module _ (filled : TablesFilled intervals held allFences allArcs before (line ∷ fences) arcs fence arc lent) where
    this_fences : FencesLine intervals line
    unfolding Each
    this_fences = filled.fences_left.0

    fences_count : length (numbers_of line) ≡ intervals
    fences_count = numbers_count intervals line this_fences.form

    fences_room : fence + intervals ≤ length lent.fences
    unfolding flatten
    fences_room = omega (arith, filled.fences_filled.room, fences_count, length-append (numbers_of line) (fences_of fences))

    fences_stored : (after : List ℕ) → after ≡ sets lent.fences fence (numbers_of line) →
        TablesFilled intervals held allFences allArcs before fences arcs (fence + intervals) arc
        (tables after lent.tails lent.heads lent.lengths lent.holds lent.speeds)
    unfolding flatten Each
    fences_stored after e = record {
      fences_left = filled.fences_left.1;
      arcs_left = filled.arcs_left;
      fences_filled = entries_filled (numbers_of line) (fences_of fences) after (fence + intervals) filled.fences_filled refl e (omega (arith, fences_count));
      tails_filled = filled.tails_filled;
      heads_filled = filled.heads_filled;
      lengths_filled = filled.lengths_filled;
      holds_filled = filled.holds_filled;
      speeds_filled = filled.speeds_filled;
    }

  -- An arc comes first of those left.
  module _ (filled : TablesFilled intervals held allFences allArcs before fences (line ∷ arcs) fence arc lent) where
    this_arc : ArcLine intervals held line
    unfolding Each
    this_arc = filled.arcs_left.0

    speeds_count : length (take intervals (drop 3 (numbers_of line))) ≡ intervals
    speeds_count =
        length-take-le intervals (drop 3 (numbers_of line))
        (omega (arith, length-drop 3 (numbers_of line), numbers_count (3 + intervals + cond held 1 0) line this_arc.form))

    speeds_room : arc * intervals + intervals ≤ length lent.speeds
    unfolding flatten
    speeds_room = omega (arith, filled.speeds_filled.room, speeds_count, length-append (take intervals (drop 3 (numbers_of line))) (speeds_of intervals arcs))

    arc_stored : {numbers : List ℕ} → numbers ≡ numbers_of line → TablesFilled intervals held allFences allArcs before fences arcs fence (arc + 1) (with_arc intervals arc numbers lent)
    unfolding flatten Each
    arc_stored e = rw e (record {
      fences_left = filled.fences_left;
      arcs_left = filled.arcs_left.1;
      fences_filled = filled.fences_filled;
      tails_filled = entries_filled (get_or (numbers_of line) 0 0 ∷ []) (tails_of intervals arcs) _ (arc + 1) filled.tails_filled refl refl refl;
      heads_filled = entries_filled (get_or (numbers_of line) 1 0 ∷ []) (heads_of intervals arcs) _ (arc + 1) filled.heads_filled refl refl refl;
      lengths_filled = entries_filled (get_or (numbers_of line) 2 0 ∷ []) (lengths_of intervals arcs) _ (arc + 1) filled.lengths_filled refl refl refl;
      holds_filled = entries_filled (get_or (drop 3 (numbers_of line)) intervals 0 ∷ []) (holds_of intervals arcs) _ (arc + 1) filled.holds_filled refl refl refl;
      speeds_filled =
          entries_filled (take intervals (drop 3 (numbers_of line))) (speeds_of intervals arcs) _ ((arc + 1) * intervals) filled.speeds_filled refl refl
          (omega (arith, speeds_count));
    })

-- ---- The text from a place on

-- The tables, with lines of fences and of arcs left of all that the text has.
abbrev FilledBut : ℕ → Bool → List ℕ → Tables → List (List ℕ) → List (List ℕ) → ℕ → ℕ → Tables → Type 0
FilledBut intervals held text before fences arcs fence arc lent =
    TablesFilled intervals held (marked_from mark_fn text 0) (marked_from mark_ar text 0) before fences arcs fence arc lent

-- Those left stand from a place of the text on.
abbrev pub FilledFrom : ℕ → Bool → List ℕ → Tables → ℕ → ℕ → ℕ → Tables → Type 0
FilledFrom intervals held text before at fence arc lent = FilledBut intervals held text before (marked_from mark_fn text at) (marked_from mark_ar text at) fence arc lent

pub fillable_starts : {intervals : ℕ} {held : Bool} {text : List ℕ} {lent : Tables} → Fillable intervals held text lent → FilledFrom intervals held text lent 0 0 0 lent
unfolding town_of
fillable_starts {intervals = intervals} fillable =
    let own = fillable.intervals_are in
    record {
      fences_left = fillable.fences_fill;
      arcs_left = fillable.arcs_fill;
      fences_filled = nothing_filled _ _ fillable.fences_long;
      tails_filled = nothing_filled _ _ (rw own at fillable.tails_long);
      heads_filled = nothing_filled _ _ (rw own at fillable.heads_long);
      lengths_filled = nothing_filled _ _ (rw own at fillable.lengths_long);
      holds_filled = nothing_filled _ _ (rw own at fillable.holds_long);
      speeds_filled = let none : 0 * intervals ≡ 0 = omega arith in rw none (nothing_filled _ _ (rw own at fillable.speeds_long));
    }

module _ {intervals : ℕ} {held : Bool} (text : List ℕ) {before : Tables} (at : ℕ) {fence arc : ℕ} {lent : Tables}
    (filled : FilledFrom intervals held text before at fence arc lent) where
  -- Where the lines left begin with one of fences.
  module _ (behind : BehindMark text at) (is : mark_of (line_from text at) ≡ mark_fn) where
    fences_first : (next : ℕ) → next ≡ at + length (line_from text at) + 1 →
        FilledBut intervals held text before (line_from text at ∷ marked_from mark_fn text next) (marked_from mark_ar text next) fence arc lent
    fences_first next e =
        rw (this_marked mark_fn (λ z. omega arith) text at next e is, this_unmarked mark_ar (λ z. omega arith) text at next e (λ a. omega arith)) at filled

    pub fences_asked : EndsInside text at → NumbersFill intervals text (at + 2) × (fence + intervals ≤ length lent.fences)
    fences_asked ends =
        let first = fences_first (at + length (line_from text at) + 1) refl in
        (fill_behind behind ends intervals (this_fences first).alone (this_fences first).form, fences_room first)

    pub fences_next : (next : ℕ) → next ≡ at + 2 + length (line_from text (at + 2)) + 1 → (after : List ℕ) → after ≡ sets lent.fences fence (numbers_from text (at + 2)) →
        FilledFrom intervals held text before next (fence + intervals) arc (tables after lent.tails lent.heads lent.lengths lent.holds lent.speeds)
    fences_next next e after s =
        fences_stored (fences_first next (omega (arith, ap length behind.line_is))) after (rw (numbers_behind behind) at s)

  -- Where they begin with an arc.
  module _ (behind : BehindMark text at) (is : mark_of (line_from text at) ≡ mark_ar) where
    arc_first : (next : ℕ) → next ≡ at + length (line_from text at) + 1 →
        FilledBut intervals held text before (marked_from mark_fn text next) (line_from text at ∷ marked_from mark_ar text next) fence arc lent
    arc_first next e =
        rw (this_marked mark_ar (λ z. omega arith) text at next e is, this_unmarked mark_fn (λ z. omega arith) text at next e (λ a. omega arith)) at filled

    pub arc_asked : EndsInside text at → ArcFills intervals held text (at + 2) × ArcHasRoom intervals arc lent
    arc_asked ends =
        let first = arc_first (at + length (line_from text at) + 1) refl in (
          arc_behind behind ends intervals held (this_arc first),
          record {
            tail_inside = omega (arith, first.tails_filled.room);
            head_inside = omega (arith, first.heads_filled.room);
            length_inside = omega (arith, first.lengths_filled.room);
            hold_inside = omega (arith, first.holds_filled.room);
            speeds_inside = speeds_room first;
          },
        )

    pub arc_next : (next : ℕ) → next ≡ at + 2 + length (line_from text (at + 2)) + 1 → (after : Tables) →
        after ≡ with_arc intervals arc (numbers_from text (at + 2)) lent → FilledFrom intervals held text before next fence (arc + 1) after
    arc_next next e after stored = rw stored (arc_stored (arc_first next (omega (arith, ap length behind.line_is))) (numbers_behind behind))

  -- Where they begin with another.
  pub other_next : (mark_of (line_from text at) ≡ mark_fn → ⊥) → (mark_of (line_from text at) ≡ mark_ar → ⊥) → (next : ℕ) → next ≡ at + length (line_from text at) + 1 →
      FilledFrom intervals held text before next fence arc lent
  other_next no-fences has_no_arc next e =
      rw (this_unmarked mark_fn (λ z. omega arith) text at next e no-fences, this_unmarked mark_ar (λ z. omega arith) text at next e has_no_arc) at filled

  -- Where none is left.
  pub filled_whole : length text ≤ at → Fillable intervals held text before →
      lent ≡ holding (network_of (town_of text)) before
  unfolding town_of flatten
  filled_whole past fillable =
      let no-fences = none_left mark_fn (λ z. omega arith) text at past in
      let no-arcs = none_left mark_ar (λ z. omega arith) text at past in
      let own = fillable.intervals_are in
      same_tables lent (holding (network_of (town_of text)) before)
      (all_filled filled.fences_filled fillable.fences_long (rw no-fences))
      (rw own (all_filled filled.tails_filled (rw own at fillable.tails_long) (rw no-arcs)))
      (rw own (all_filled filled.heads_filled (rw own at fillable.heads_long) (rw no-arcs)))
      (rw own (all_filled filled.lengths_filled (rw own at fillable.lengths_long) (rw no-arcs)))
      (rw own (all_filled filled.holds_filled (rw own at fillable.holds_long) (rw no-arcs)))
      (rw own (all_filled filled.speeds_filled (rw own at fillable.speeds_long) (rw no-arcs)))
    where
      -- Tables that are equal one by one.
      same_tables : (a b : Tables) → a.fences ≡ b.fences → a.tails ≡ b.tails → a.heads ≡ b.heads → a.lengths ≡ b.lengths → a.holds ≡ b.holds →
          a.speeds ≡ b.speeds → a ≡ b
      same_tables a b f t h l d s = rw (← f, ← t, ← h, ← l, ← d, ← s)
