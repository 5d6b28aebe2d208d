-- How long a converted line is: two bytes more or fewer for an arc, and for no other line. An arc's numbers have few digits by their limits, so that
-- its line in the old form has at most 401 bytes, and in the new form no more than a line may have.
use Prim.Native.Nat.{ℕ, ◌+◌, ◌≤◌}
use mathlib.Core.Path.{◌≡◌}
use mathlib.Core.Bool.{Bool, true, false, not, cond}
use mathlib.Core.List.{List}
use native.Mathlib.Omega.{arith}
use lib.Dec.{ltb, eqb}
use lib.ListN.{length, get_or, length-append, length-take}
use borrow.Author.Tests.{ltb-true, leb-true}
use Rattle.model.specs.Limits.{max_junctions, max_intervals, max_speed}
use Rattle.model.specs.Rules.{speed_keeps}
use Rattle.model.proofs.Rules.{true_three, kept_length, every_at}
use Rattle.townfile.specs.Grammar.{Arc, Line, TN, FN, JN, AR, CM}
use Rattle.townfile.specs.Grammar.{Reads, town_line, held_town_line, fences_line, junction_line, arc_line, held_arc_line, bare_comment, comment_line}
use Rattle.townfile.specs.Lines.{first_two}
use Rattle.townfile.proofs.Kept.{ArcTested}
use Rattle.conversion.specs.Conversion.{no_hold, converted_line}
use Rattle.conversion.proofs.Digits.{with_zeros, first_short, fields_short}
use Rattle.conversion.proofs.LineSteps.{OfArc}

-- The bytes that a line has more in the new form.
abbrev pub hold_bytes : Line → ℕ
hold_bytes (TN junctions intervals) = 0
hold_bytes (FN fences) = 0
hold_bytes (JN named) = 0
hold_bytes (AR arc) = 2
hold_bytes CM = 0

-- A length before and after, by such bytes.
abbrev pub Longer : (wanted : Bool) → (before more after : ℕ) → Type 0
Longer wanted before more after = cond wanted (after ≡ before + more) (after + more ≡ before)

pub line_longer : (wanted : Bool) {line : List ℕ} {says : Line} → Reads (not wanted) line says →
    Longer wanted (length line) (hold_bytes says) (length (converted_line wanted line))
unfolding converted_line first_two
line_longer true (town_line fields) = omega arith
line_longer true (fences_line fields) = omega arith
line_longer true (junction_line number kept) = omega arith
line_longer true (arc_line {bytes} fields) = omega (arith, length-append bytes no_hold)
line_longer true bare_comment = omega arith
line_longer true (comment_line all) = omega arith
line_longer false (held_town_line fields) = omega arith
line_longer false (fences_line fields) = omega arith
line_longer false (junction_line number kept) = omega arith
line_longer false (held_arc_line {bytes} fields) = simp length-take (omega arith)
line_longer false bare_comment = omega arith
line_longer false (comment_line all) = omega arith

-- ---- The longest arc

arc_short : {junctions intervals : ℕ} {line : List ℕ} {arc : Arc} → junctions ≤ max_junctions → intervals ≤ max_intervals → ArcTested junctions intervals arc →
    Reads false line (AR arc) → length line ≤ 401
unfolding with_zeros
arc_short {junctions} junctions_fit intervals_fit tested (arc_line {bytes} {speeds} {tail} {head} {metres} fields) =
    let ends = true_three (ltb tail junctions) (ltb head junctions) (not (eqb tail head)) tested.ends_keep in
    let below-tail = ltb-true tail junctions ends.0 in
    let below-head = ltb-true head junctions ends.1 in
    let fitting = kept_length metres tested.length_keeps in
    let after_IsTail = first_short 3 fields (omega arith) (omega arith) in
    let after-head = first_short 3 after_IsTail.fields (omega arith) (omega arith) in
    let after-metres = first_short 6 after-head.fields (omega arith) (omega arith) in
    let fits = every_at speed_keeps 0 speeds tested.speeds_keep in
    let of-speeds = fields_short 3 after-metres.fields (λ k h. omega (arith, leb-true (get_or speeds k 0) max_speed (fits k h))) (omega arith) in
    omega (arith, after_IsTail.short, after-head.short, after-metres.short, of-speeds, tested.per_interval)

-- So the result keeps to the limit of a line.
pub line_short : (wanted : Bool) {junctions intervals : ℕ} {line : List ℕ} (says : Line) → junctions ≤ max_junctions → intervals ≤ max_intervals →
    OfArc (ArcTested junctions intervals) says → Reads (not wanted) line says → length line ≤ 700 → length (converted_line wanted line) ≤ 700
line_short true (AR arc) junctions_fit intervals_fit tested reads short = omega (arith, line_longer true reads, arc_short junctions_fit intervals_fit tested reads)
line_short true (TN junctions intervals) junctions_fit intervals_fit tested reads short = omega (arith, line_longer true reads)
line_short true (FN fences) junctions_fit intervals_fit tested reads short = omega (arith, line_longer true reads)
line_short true (JN named) junctions_fit intervals_fit tested reads short = omega (arith, line_longer true reads)
line_short true CM junctions_fit intervals_fit tested reads short = omega (arith, line_longer true reads)
line_short false says junctions_fit intervals_fit tested reads short = omega (arith, line_longer false reads)
