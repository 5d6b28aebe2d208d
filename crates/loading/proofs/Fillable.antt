-- A text without fault fills tables that are long enough: each of its lines keeps the form and the limits that the progress at that
-- line asks, and once the town's line is read the intervals are those of the end.
use Prim.Native.Nat.{ℕ, zero, suc, ◌+◌, ◌-◌, ◌≤◌, ◌<◌}
use mathlib.Core.Path.{◌≡◌, refl, sym, ap, ◌∙◌}
use mathlib.Core.Bool.{Bool, true, false, cond, ◌&&◌}
use mathlib.Core.Logic.{inl, inr}
use mathlib.Core.List.{List, [], ◌∷◌}
use native.Mathlib.Omega.{arith}
use lib.Dec.{leb, ltb, eqb}
use lib.ListN.{length, get_or, take, drop, length-append}
use lib.Seq.{get_or-append-add}
use borrow.Author.Tests.{not-false, ltb-true, leb-true, eqb-true, ne_eqb}
use Rattle.model.specs.Limits.{max_arcs, max_hold, max_intervals, max_junctions}
use Rattle.model.specs.NetworkRules.{junctions_keep}
use Rattle.model.specs.Rules.{Outcome, refused, replied, every, length_keeps_lem, speed_keeps, hold_keeps}
use Rattle.model.proofs.Rules.{true_both, kept_replies, replies_kept}
use Rattle.model.proofs.Tests.{ltb_cases}
use Rattle.townfile.specs.Bytes.{line_feed, pieces}
use Rattle.townfile.specs.Grammar.{Bytes, Each, joined}
use Rattle.townfile.specs.Lines.{mark_tn, mark_fn, mark_ar, first_two, mark_of, mark_alone, numbers_of, line_rules, line_read, line_answer}
use Rattle.townfile.specs.Lines.{known, in_turn, arc_fields, numbers_keep, form_keeps, ends_differ, values_keep}
use Rattle.townfile.specs.FirstFault.{Reading, refused_at, accepted, start, at_end, onward, lines_from, first_fault}
use Rattle.townfile.specs.Tables.{marked}
use Rattle.townfile.specs.Load.{Tables, counts_of, is_too_short, load_answer}
use Rattle.townfile.specs.declared.progress.Progress.{Progress}
use Rattle.townfile.specs.LineFaults.{Known, town_mark, fences_mark, junction_mark, arc_mark, comment_mark}
use Rattle.townfile.proofs.Marks.{known_mark}
use Rattle.townfile.proofs.Described.{described_intervals, described_town}
use Rattle.townfile.proofs.Load.{load_accepts_when_described}
use Rattle.townfile.proofs.Pieces.{up_to_has_none}
use Rattle.fields.specs.Fields.{line_from}
use Rattle.loading.specs.Code.Filling.{EndsInside, FencesLine, ArcLine, Fillable}
use Rattle.fields.proofs.LineFrom.{line_at}

-- ---- One line

-- A progress at which the town's line is read.
abbrev Settled : Progress → ℕ → Bool → Type 0
Settled p intervals held = 1 ≤ p.turn → (p.intervals ≡ intervals) × (p.held ≡ held)

-- Once the town's line is read, the junctions keep their limit.
abbrev Limited : Progress → Type 0
Limited p = 1 ≤ p.turn → p.junctions ≤ max_junctions

record LineKeeps (p : Progress) (line : List ℕ) : Type 0 where
  marked_so : Known (mark_of line)
  mark_in_turn : in_turn p.turn (mark_of line) ≡ true
  form : form_keeps p line ≡ true
  values : values_keep p line ≡ true

line_keeps : (p q : Progress) (line : List ℕ) → line_answer p line ≡ replied q → LineKeeps p line × (q ≡ line_read p line)
unfolding line_answer
line_keeps p q line e =
    let kept = replies_kept (line_rules p line) (line_read p line) q e in
    let (_, (mark, (turn, (form, (values, _))))) = kept in
    let same : replied q ≡ replied (line_read p line) = sym e ∙ kept_replies (line_rules p line) (line_read p line) kept in (
      record {
        marked_so = known_mark (mark_of line) (not-false (known (mark_of line)) mark);
        mark_in_turn = not-false (in_turn p.turn (mark_of line)) turn;
        form = not-false (form_keeps p line) form;
        values = not-false (values_keep p line) values;
      },
      cc,
    )

record LinesFill (p : Progress) (intervals : ℕ) (held : Bool) (lines : List (List ℕ)) : Type 0 where
  settled : Settled p intervals held
  fences_fill : Each (FencesLine intervals) (marked mark_fn lines)
  arcs_fill : Each (ArcLine intervals held) (marked mark_ar lines)

module _ (p : Progress) (line : List ℕ) (keeps : LineKeeps p line) where
  fences_line : mark_of line ≡ mark_fn → FencesLine p.intervals line
  unfolding form_keeps
  fences_line is =
      let form = true_both (mark_alone line) (numbers_keep p.intervals line) (rw is at keeps.form) in
      record { alone = form.0; form = form.1 }

  arc_line : Limited p → 1 ≤ p.turn → mark_of line ≡ mark_ar → ArcLine p.intervals p.held line
  unfolding form_keeps values_keep
  arc_line limited turn is =
      let form = true_both (mark_alone line) (numbers_keep (arc_fields p) line) (rw is at keeps.form) in
      let numbers = numbers_of line in
      let tail = get_or numbers 0 0 in
      let head = get_or numbers 1 0 in
      let differ = ends_differ p.junctions tail head in
      let metres = length_keeps_lem (get_or numbers 2 0) in
      let slow = every speed_keeps (take p.intervals (drop 3 numbers)) in
      let hold = get_or (drop 3 numbers) p.intervals 0 in
      let few = true_both (differ && metres && slow && hold_keeps hold) (ltb p.arcs max_arcs) (rw is at keeps.values) in
      let held = true_both (differ && metres && slow) (hold_keeps hold) few.0 in
      let speeds = true_both (differ && metres) slow held.0 in
      let ends = true_both (ltb tail p.junctions && ltb head p.junctions) _ (true_both differ metres speeds.0).0 in
      let both = true_both (ltb tail p.junctions) (ltb head p.junctions) ends.0 in
      record {
        alone = form.0;
        form = form.1;
        tail_fits = omega (arith, limited turn, ltb-true tail p.junctions both.0);
        head_fits = omega (arith, limited turn, ltb-true head p.junctions both.1);
        speeds_fit = speeds.1;
        hold_fits = omega (arith, leb-true hold max_hold held.1);
      }

  town_limited : mark_of line ≡ mark_tn → get_or (numbers_of line) 0 0 ≤ max_junctions
  unfolding values_keep
  town_limited is =
      let junctions = get_or (numbers_of line) 0 0 in
      let intervals = get_or (numbers_of line) 1 0 in
      let some = true_both (junctions_keep junctions && ltb 0 intervals) (leb intervals max_intervals) (rw is at keeps.values) in
      leb-true junctions max_junctions (true_both (ltb 0 junctions) (leb junctions max_junctions) (true_both (junctions_keep junctions) (ltb 0 intervals) some.0).0).1

  -- The line in front of others.
  with_line : (intervals : ℕ) (held : Bool) (lines : List (List ℕ)) → Limited p → (Limited (line_read p line) → LinesFill (line_read p line) intervals held lines) →
      LinesFill p intervals held (line ∷ lines)
  unfolding line_read values_keep marked Each
  with_line intervals held lines limited later = go keeps.marked_so
    where
      go : Known (mark_of line) → LinesFill p intervals held (line ∷ lines)
      go (town_mark is) =
          let turn = eqb-true p.turn 0 (rw is at keeps.mark_in_turn) in
          let rest = (rw is at later) (λ h. town_limited is) in
          record { settled = λ h. absurd (omega arith); fences_fill = rw is rest.fences_fill; arcs_fill = rw is rest.arcs_fill }
      go (fences_mark is) =
          let turn = eqb-true p.turn 1 (rw is at keeps.mark_in_turn) in
          let rest = (rw is at later) (λ h. limited (omega arith)) in
          let same = rest.settled (omega arith) in
          record { settled = λ h. same; fences_fill = rw is (rw same.0 at (fences_line is), rest.fences_fill); arcs_fill = rw is rest.arcs_fill }
      go (junction_mark is) =
          let rest = (rw is at later) limited in
          record { settled = rest.settled; fences_fill = rw is rest.fences_fill; arcs_fill = rw is rest.arcs_fill }
      go (arc_mark is) =
          let turn = leb-true 2 p.turn (rw is at keeps.mark_in_turn) in
          let rest = (rw is at later) (λ h. limited (omega arith)) in
          let same = rest.settled (omega arith) in
          record { settled = λ h. same; fences_fill = rw is rest.fences_fill; arcs_fill = rw is (rw (same.0, same.1) at (arc_line limited (omega arith) is), rest.arcs_fill) }
      go (comment_mark is) =
          let rest = (rw is at later) limited in
          record { settled = rest.settled; fences_fill = rw is rest.fences_fill; arcs_fill = rw is rest.arcs_fill }

-- ---- The lines

not_refused : (test : Bool) (fault line : ℕ) (rest : Reading Progress) (p : Progress) → cond test (refused_at fault line) rest ≡ accepted p → rest ≡ accepted p
not_refused true fault line rest p e = absurd (let z : ◌≡◌ {A = ℕ} 0 1 = cc in omega arith)
not_refused false fault line rest p e = e

ended : (p q : Progress) (number : ℕ) → at_end p number ≡ accepted q → (p.intervals ≡ q.intervals) × (p.held ≡ q.held)
ended p q number e =
    let same : accepted p ≡ accepted q = not_refused (ltb p.turn 2) 27 number (accepted p) q e in
    let is : p ≡ q = cc in
    (ap (λ p. p.intervals) is, ap (λ p. p.held) is)

lines_fill : (p q : Progress) (number : ℕ) (lines : List (List ℕ)) → Limited p → lines_from p number lines ≡ accepted q → LinesFill p q.intervals q.held lines
unfolding lines_from marked mark_of first_two Each
lines_fill p q number [] limited e = record { settled = λ h. ended p q number e; fences_fill = tt; arcs_fill = tt }
lines_fill p q number ([] ∷ []) limited e = record { settled = λ h. ended p q number e; fences_fill = tt; arcs_fill = tt }
lines_fill p q number ((byte ∷ line) ∷ []) limited e =
    let more : eqb (length (byte ∷ line)) 0 ≡ false = ne_eqb (length (byte ∷ line)) 0 (λ z. omega arith) in
    let refusal : refused_at 21 number ≡ accepted q = rw more at e in
    absurd (let z : ◌≡◌ {A = ℕ} 0 1 = cc in omega arith)
lines_fill p q number (line ∷ next ∷ lines) limited e = go (line_answer p line) refl (λ p'. lines_fill p' q (suc number) (next ∷ lines)) e
  where
    go : (answer : Outcome Progress) → line_answer p line ≡ answer →
        ((p' : Progress) → Limited p' → lines_from p' (suc number) (next ∷ lines) ≡ accepted q → LinesFill p' q.intervals q.held (next ∷ lines)) →
        onward answer number (λ p'. lines_from p' (suc number) (next ∷ lines)) ≡ accepted q → LinesFill p q.intervals q.held (line ∷ next ∷ lines)
    go (refused fault) a later e = absurd (let z : ◌≡◌ {A = ℕ} 0 1 = cc in omega arith)
    go (replied p') a later e =
        let keeps = line_keeps p p' line a in
        with_line p line keeps.0 q.intervals q.held (next ∷ lines) limited (λ h. later (line_read p line) h (rw keeps.1 at e))

-- ---- The text

-- The last byte of lines that each end in a line feed is one.
last_feed : (lines : List (List ℕ)) (k : ℕ) → suc k ≡ length (joined lines) → get_or (joined lines) k 0 ≡ line_feed
unfolding joined
last_feed [] k e = absurd (omega arith)
last_feed (line ∷ lines) k e = go (last_feed lines) (k - length line) (omega (arith, length-append line (line_feed ∷ joined lines)))
  where
    go : ((k : ℕ) → suc k ≡ length (joined lines) → get_or (joined lines) k 0 ≡ line_feed) → (j : ℕ) → k ≡ length line + j → get_or (joined (line ∷ lines)) k 0 ≡ line_feed
    go later zero place = rw (place, get_or-append-add line (line_feed ∷ joined lines) 0 0)
    go later (suc j) place = rw (place, get_or-append-add line (line_feed ∷ joined lines) (suc j) 0) (later j (omega (arith, length-append line (line_feed ∷ joined lines))))

-- So each line ends before the text does.
lines_end : (lines : List (List ℕ)) (at : ℕ) → at < length (joined lines) → EndsInside (joined lines) at
unfolding line_from
lines_end lines at h = elim (ltb_cases (at + length (line_from (joined lines) at)) (length (joined lines))) [
  | inl inside ↦ inside.1
  | inr past ↦
      let k = length (joined lines) - 1 - at in
      let within : k < length (line_from (joined lines) at) = omega (arith, past.1) in
      absurd (up_to_has_none line_feed (drop at (joined lines)) k within (line_at (joined lines) at k within ∙ last_feed lines (at + k) (omega arith)))
]

pub accepted_fillable : (text : List ℕ) → Bytes text → (p : Progress) → first_fault text ≡ accepted p → (lent : Tables) → is_too_short (counts_of p) lent ≡ false →
    Fillable p.intervals p.held text lent
unfolding load_answer first_fault
accepted_fillable text bytes p e lent long =
    let loaded : load_answer text lent ≡ accepted (counts_of p) = rw (e, long) in
    let (form, T, described, room, counted, _) = (load_accepts_when_described text bytes lent (counts_of p)).0 loaded in
    let same = described_town described in
    let kept = described.kept.network_accepted in
    let lines = pieces line_feed text in
    let fills = lines_fill start p 1 lines (λ h. absurd (omega arith)) (not_refused (ltb 65536 (length text)) 20 0 (lines_from start 1 lines) p e) in
    record {
      intervals_are = described_intervals described ∙ sym (ap (λ counts. counts.intervals) counted);
      lines_end = rw described.in_lines (lines_end described.lines);
      fences_fill = fills.fences_fill;
      arcs_fill = fills.arcs_fill;
      fences_long = rw same room.fences_long;
      tails_long = rw same room.tails_long;
      heads_long = rw same (omega (arith, kept.heads_long, room.heads_long));
      lengths_long = rw same (omega (arith, kept.lengths_long, room.lengths_long));
      holds_long = rw same (omega (arith, kept.holds_long, room.holds_long));
      speeds_long = rw same (omega (arith, kept.speeds_long, room.speeds_long));
    }
