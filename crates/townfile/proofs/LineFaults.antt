-- 25 and 26 in the grammar's terms. The form: a line that keeps it has a known mark, so that it reads; and a line that reads keeps it. The
-- values: the test on a line's bytes is one on what the line says, and each of its parts is a limit.
use Prim.Native.Nat.{ℕ}
use mathlib.Core.Path.{◌≡◌, refl, ap, sym, ◌∙◌}
use mathlib.Core.Bool.{Bool, true, false, cond, not, ◌&&◌}
use mathlib.Core.List.{List}
use native.Mathlib.Omega.{arith}
use lib.Dec.{leb, ltb, eqb}
use lib.ListN.{get_or, drop}
use borrow.Author.Tests.{not-true, ltb-true, leb-true, eqb-false, lt-ltb, le-leb, eq-eqb, ne_eqb}
use Rattle.model.specs.Limits.{max_junctions, max_intervals, max_arcs, max_hold, max_speed}
use Rattle.model.specs.NetworkRules.{junctions_keep}
use Rattle.model.specs.Rules.{every, speed_keeps}
use Rattle.model.proofs.Rules.{true_both, both_true, kept_length, length_kept, every_at, at_every, fences_kept, kept_fences}
use Rattle.townfile.specs.Bytes.{printable}
use Rattle.townfile.specs.Numbers.{number_keeps}
use Rattle.townfile.specs.Grammar.{Arc, Line, TN, FN, JN, AR, CM}
use Rattle.townfile.specs.Lines.{mark_tn, mark_fn, mark_jn, mark_ar, mark_cm, begins_held, mark_of, by_mark, known, town_due, fences_due, names_due, in_turn}
use Rattle.townfile.specs.Lines.{arc_fields, mark_alone, numbers_keep, number_field, name_field, name_keeps, form_keeps}
use Rattle.townfile.specs.LineFaults.{TownWithin, ArcWithin, WithinLimits, FormKeptWhenReads, ValuesKeptWhenWithin}
use Rattle.townfile.specs.declared.progress.Progress.{Progress}
use Rattle.townfile.proofs.Says.{says_of}
use Rattle.townfile.proofs.LineForm.{OfForm, form_reads, form_counts, reads_form, reads_says}
use Rattle.townfile.proofs.Order.{said_keeps, arc_limits, values_said}

-- ---- The form

-- What is asked by the mark, and of no other mark, asks that the mark is known.
by_mark_known : (mark : ℕ) (town fences junction arc comment : Bool) → by_mark mark town fences junction arc comment false ≡ true → known mark ≡ true
by_mark_known mark town fences junction arc comment = go (eqb mark mark_tn) (eqb mark mark_fn) (eqb mark mark_jn) (eqb mark mark_ar) (eqb mark mark_cm)
  where
    go : (a b c d e : Bool) → cond a town (cond b fences (cond c junction (cond d arc (cond e comment false)))) ≡ true →
        cond a true (cond b true (cond c true (cond d true (cond e true false)))) ≡ true
    go true b c d e kept = refl
    go false true c d e kept = refl
    go false false true d e kept = refl
    go false false false true e kept = refl
    go false false false false true kept = refl
    go false false false false false kept = kept

pub in_turn_known : (turn mark : ℕ) → in_turn turn mark ≡ true → known mark ≡ true
in_turn_known turn mark = by_mark_known mark (eqb turn town_due) (eqb turn fences_due) (eqb turn names_due) (leb names_due turn) true

form_known : (p : Progress) (line : List ℕ) → form_keeps p line ≡ true → known (mark_of line) ≡ true
unfolding form_keeps
form_known p line kept =
    by_mark_known (mark_of line) (numbers_keep 2 line) (numbers_keep p.intervals line) (number_keeps (number_field line) && name_keeps (name_field line))
    (numbers_keep (arc_fields p) line) (every printable (drop 2 line)) (true_both (mark_alone line) _ kept).1

-- The form that a line is of by itself, or by the lines before it.
form_for : Progress → List ℕ → Bool
form_for p line = cond (eqb (mark_of line) mark_tn) (begins_held line) p.held

form_for_law : (p : Progress) (line : List ℕ) → OfForm p (form_for p line) line
unfolding form_for
form_for_law p line = ((λ is. rw (eq-eqb (mark_of line) mark_tn is)), (λ is. rw (ne_eqb (mark_of line) mark_tn (λ e. omega (arith, is, e)))))

pub form_kept_when_reads : FormKeptWhenReads
form_kept_when_reads p line bytes = (
  (λ kept.
      let mark = form_known p line kept in
      let own = form_for_law p line in
      let held = form_for p line in
      (held, says_of p.intervals line, form_reads p held line own bytes mark kept, form_counts p held line own mark kept)),
  (λ read. reads_form p read.2 read.3),
)

-- ---- The values

town_within : (junctions intervals : ℕ) → (junctions_keep junctions && ltb 0 intervals && leb intervals max_intervals) ≡ true → TownWithin junctions intervals
town_within junctions intervals e =
    let most = true_both (junctions_keep junctions && ltb 0 intervals) (leb intervals max_intervals) e in
    let least = true_both (junctions_keep junctions) (ltb 0 intervals) most.0 in
    let count = true_both (ltb 0 junctions) (leb junctions max_junctions) least.0 in
    record {
      some_junction = ltb-true 0 junctions count.0;
      junctions_fit = leb-true junctions max_junctions count.1;
      some_interval = ltb-true 0 intervals least.1;
      intervals_fit = leb-true intervals max_intervals most.1;
    }

within_town : (junctions intervals : ℕ) → TownWithin junctions intervals → (junctions_keep junctions && ltb 0 intervals && leb intervals max_intervals) ≡ true
within_town junctions intervals t =
    both_true
    (both_true (both_true (lt-ltb 0 junctions t.some_junction) (le-leb junctions max_junctions t.junctions_fit)) (lt-ltb 0 intervals t.some_interval))
    (le-leb intervals max_intervals t.intervals_fit)

arc_within : (p : Progress) (arc : Arc) → said_keeps p (AR arc) ≡ true → ArcWithin p arc
arc_within p arc e =
    let limits = arc_limits p arc e in
    let differ = true_both (ltb arc.tail p.junctions && ltb arc.head p.junctions) (not (eqb arc.tail arc.head)) limits.0 in
    let below = true_both (ltb arc.tail p.junctions) (ltb arc.head p.junctions) differ.0 in
    let metres = kept_length arc.metres limits.1 in
    record {
      tail_below = ltb-true arc.tail p.junctions below.0;
      head_below = ltb-true arc.head p.junctions below.1;
      ends_are_apart = eqb-false arc.tail arc.head (not-true (eqb arc.tail arc.head) differ.1);
      some_length = metres.0;
      length_fits = metres.1;
      hold_fits = leb-true arc.hold max_hold limits.3;
      speed_fits = λ k h. leb-true (get_or arc.speeds k 0) max_speed (every_at speed_keeps 0 arc.speeds limits.2 k h);
      arcs_fit = limits.4;
    }

within_arc : (p : Progress) (arc : Arc) → ArcWithin p arc → said_keeps p (AR arc) ≡ true
within_arc p arc w =
    let below = both_true (lt-ltb arc.tail p.junctions w.tail_below) (lt-ltb arc.head p.junctions w.head_below) in
    let ends = both_true below (ap not (ne_eqb arc.tail arc.head w.ends_are_apart)) in
    let speeds = at_every speed_keeps 0 arc.speeds (λ k h. le-leb (get_or arc.speeds k 0) max_speed (w.speed_fits k h)) in
    let hold = le-leb arc.hold max_hold w.hold_fits in
    both_true (both_true (both_true (both_true ends (length_kept arc.metres w.some_length w.length_fits)) speeds) hold) (lt-ltb p.arcs max_arcs w.arcs_fit)

said_within : (p : Progress) (says : Line) → said_keeps p says ≡ true → WithinLimits p says
said_within p (TN junctions intervals) e = town_within junctions intervals e
said_within p (FN fences) e = fences_kept fences e
said_within p (JN named) e =
    let parts = true_both (ltb named.number p.junctions) (leb p.unnamed named.number) e in
    record { below = ltb-true named.number p.junctions parts.0; rises = leb-true p.unnamed named.number parts.1 }
said_within p (AR arc) e = arc_within p arc e
said_within p CM e = tt

within_said : (p : Progress) (says : Line) → WithinLimits p says → said_keeps p says ≡ true
within_said p (TN junctions intervals) w = within_town junctions intervals w
within_said p (FN fences) w = kept_fences fences w
within_said p (JN named) w = both_true (lt-ltb named.number p.junctions w.below) (le-leb p.unnamed named.number w.rises)
within_said p (AR arc) w = within_arc p arc w
within_said p CM w = refl

pub values_kept_when_within : ValuesKeptWhenWithin
values_kept_when_within p line held says reads counts =
    let same = ap (said_keeps p) (sym (reads_says p reads counts)) ∙ values_said p line in
    ((λ kept. said_within p says (same ∙ kept)), (λ within. sym same ∙ within_said p says within))
