-- Whether a town in the new form has a hold other than 0 is seen at the ends of its `AR` lines: a hold is 0 exactly where its line ends in a space and 0,
-- since a longer number has a digit before its last one.
use Prim.Native.Nat.{ℕ, suc, ◌+◌, ◌-◌, ◌≤◌}
use mathlib.Core.Path.{◌≡◌, refl, sym}
use mathlib.Core.Bool.{Bool, true, false, ◌&&◌}
use mathlib.Core.List.{List, [], ◌∷◌, ◌++◌}
use mathlib.Core.Logic.{inl, inr}
use native.Mathlib.Omega.{arith}
use lib.Dec.{eqb}
use lib.ListN.{length, get_or, length-append}
use lib.Seq.{get_or-append-add}
use borrow.Author.Tests.{eq-eqb, ne_eqb}
use Rattle.model.specs.Rules.{every}
use Rattle.model.proofs.Tests.{eqb_cases}
use Rattle.townfile.specs.Bytes.{space}
use Rattle.townfile.specs.Numbers.{decimal_from}
use Rattle.townfile.specs.Grammar.{Number, Town, Line, TN, FN, JN, AR, CM, ReadsAll, no_lines, reads_line, Describes}
use Rattle.townfile.specs.Grammar.{Reads, held_town_line, fences_line, junction_line, held_arc_line, bare_comment, comment_line}
use Rattle.townfile.specs.Lines.{first_two}
use Rattle.townfile.proofs.Gathered.{town_said, town_said_law}
use Rattle.conversion.specs.Conversion.{lines_of}
use Rattle.conversion.specs.Code.LineEnds.{ends_unheld, loses_none}
use Rattle.conversion.proofs.LineSteps.{last_field, zero_digit}
use Rattle.conversion.proofs.Peeled.{lines_described}

-- The bytes of the last field, counted from the line's end.
module _ (before digits : List ℕ) where
  from_end : (k : ℕ) → k ≤ length digits →
      let line = before ++ (space ∷ digits) in get_or line (length line - suc k) 0 ≡ get_or (space ∷ digits) (length digits - k) 0
  from_end k h =
      let at : length (before ++ (space ∷ digits)) - suc k ≡ length before + (length digits - k) = omega (arith, length-append before (space ∷ digits)) in
      rw (at, get_or-append-add)

end_tells : (before digits : List ℕ) {n : ℕ} → Number digits n → ends_unheld (before ++ (space ∷ digits)) ≡ eqb n 0
unfolding decimal_from
end_tells before [] number = absurd (omega (arith, number.some_digit))
end_tells before (digit ∷ []) {n} number = rw (from_end before (digit ∷ []) 1 (omega arith), from_end before (digit ∷ []) 0 (omega arith)) (elim (eqb_cases digit 48) [
  | inl zero ↦ rw zero.0 (sym (eq-eqb n 0 (omega (arith, zero.1, number.value))))
  | inr more ↦ rw more.0 (sym (ne_eqb n 0 (λ e. omega (arith, more.1, number.value, (number.digits 0 (omega arith)).0))))
])
end_tells before (digit ∷ next ∷ digits) {n} number =
    let all : List ℕ = digit ∷ next ∷ digits in
    let not_0 : eqb n 0 ≡ false = ne_eqb n 0 (λ e. let one : all ≡ 48 ∷ [] = zero_digit all number e in let z : ◌≡◌ {A = ℕ} 0 1 = cc in omega arith) in
    let some_digit = (number.digits (length digits) (omega arith)).0 in
    let no-space : eqb (get_or all (length digits) 0) space ≡ false = ne_eqb (get_or all (length digits) 0) space (λ e. omega arith) in
    let second-last : length all - 1 ≡ suc (length digits) = omega arith in
    rw (from_end before all 1 (omega arith), second-last, no-space, not_0)

-- What a line tells of its arc's hold.
abbrev unheld_said : Line → Bool
unheld_said (TN junctions intervals) = true
unheld_said (FN fences) = true
unheld_said (JN named) = true
unheld_said (AR arc) = eqb arc.hold 0
unheld_said CM = true

line_tells : {line : List ℕ} {says : Line} → Reads true line says → loses_none line ≡ unheld_said says
unfolding first_two
line_tells (held_town_line fields) = refl
line_tells (fences_line fields) = refl
line_tells (junction_line number kept) = refl
line_tells (held_arc_line {bytes} {speeds} {tail} {head} {metres} fields) =
    let last = last_field (tail ∷ head ∷ metres ∷ speeds) fields in
    rw last.whole (end_tells (65 ∷ 82 ∷ last.front) last.digits last.number)
line_tells bare_comment = refl
line_tells (comment_line all) = refl

said_unheld : (says : Line) (say : List Line) →
    every (λ a. eqb a.hold 0) (town_said (says ∷ say)).arcs ≡ (unheld_said says && every (λ a. eqb a.hold 0) (town_said say).arcs)
unfolding town_said
said_unheld (TN junctions intervals) say = refl
said_unheld (FN fences) say = refl
said_unheld (JN named) say = refl
said_unheld (AR arc) say = refl
said_unheld CM say = refl

lines_tell : {lines : List (List ℕ)} {say : List Line} → ReadsAll true lines say → every loses_none lines ≡ every (λ a. eqb a.hold 0) (town_said say).arcs
unfolding town_said
lines_tell no_lines = refl
lines_tell (reads_line {says = says} {say = say} short reads all) = rw (line_tells reads, lines_tell all) (sym (said_unheld says say))

pub holds_by_ends : {text : List ℕ} {T : Town} → Describes text true T → every loses_none (lines_of text) ≡ every (λ a. eqb a.hold 0) T.arcs
holds_by_ends {text} {T} described =
    rw (lines_described described, ← (town_said_law described.say T described.in_order)) (lines_tell described.each_reads)
