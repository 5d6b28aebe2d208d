-- Which mark is due. Behind good lines an `FN` stands only behind a `TN`, and an `AR` only behind an `FN` (`Ordered`), so that the turn is how many
-- of the three marks stand, and a test of the turn is one of the marks that stand.
use Prim.Native.Nat.{ℕ, ◌+◌, ◌≤◌, min}
use mathlib.Core.Path.{◌≡◌}
use mathlib.Core.Bool.{true}
use mathlib.Core.List.{List}
use mathlib.Core.Logic.{inl, inr}
use native.Mathlib.Omega.{arith}
use lib.ListN.{length}
use borrow.Author.Tests.{eqb-true, leb-true, le-leb, eq-eqb}
use Rattle.model.proofs.Tests.{ltb_cases}
use Rattle.townfile.specs.Lines.{mark_tn, mark_fn, mark_ar, known, town_due, fences_due, names_due, in_turn}
use Rattle.townfile.specs.LineFaults.{Known, town_mark, fences_mark, junction_mark, arc_mark, comment_mark}
use Rattle.townfile.specs.Tables.{marked}
use Rattle.townfile.proofs.LineFaults.{in_turn_known}
use Rattle.townfile.proofs.Marks.{known_mark}
use Rattle.text_faults.specs.Faulty.{due_after, InTurn, first_town, first_fences, junction_before_arcs, arc_after_fences, any_comment}

-- How many lines have the mark.
abbrev pub count : ℕ → List (List ℕ) → ℕ
count mark lines = length (marked mark lines)

-- An `FN` stands behind a `TN`, and an `AR` behind an `FN`.
pub record Ordered (lines : List (List ℕ)) : Type 0 where
  pub fences_behind : min 1 (count mark_fn lines) ≤ min 1 (count mark_tn lines)
  pub arcs_behind : min 1 (count mark_ar lines) ≤ min 1 (count mark_fn lines)

-- Each of the three marks that stands is a turn further.
pub due_is : (lines : List (List ℕ)) → Ordered lines → due_after lines ≡ min 1 (count mark_tn lines) + min 1 (count mark_fn lines) + min 1 (count mark_ar lines)
unfolding due_after
due_is lines o = elim (ltb_cases 0 (count mark_ar lines)) [
  | inl some_arc ↦ rw some_arc.0 (omega arith)
  | inr has_no_arc ↦ elim (ltb_cases 0 (count mark_fn lines)) [
    | inl some-fences ↦ rw (has_no_arc.0, some-fences.0) (omega arith)
    | inr no-fences ↦ elim (ltb_cases 0 (count mark_tn lines)) [
      | inl some-town ↦ rw (has_no_arc.0, no-fences.0, some-town.0) (omega arith)
      | inr no-town ↦ rw (has_no_arc.0, no-fences.0, no-town.0) (omega arith)
    ]
  ]
]

module _ {before : List (List ℕ)} (o : Ordered before) where
  pub turn_plain : {mark : ℕ} → in_turn (due_after before) mark ≡ true → InTurn before mark
  turn_plain {mark} e = go (known_mark mark (in_turn_known (due_after before) mark e))
    where
      go : Known mark → InTurn before mark
      go (town_mark is) =
          let none : due_after before ≡ town_due = eqb-true (due_after before) town_due (rw is at e) in
          first_town is (λ stands. omega (arith, due_is before o, o))
      go (fences_mark is) =
          let one : due_after before ≡ fences_due = eqb-true (due_after before) fences_due (rw is at e) in
          first_fences is (omega (arith, due_is before o, o)) (λ stands. omega (arith, due_is before o, o))
      go (junction_mark is) =
          let two : due_after before ≡ names_due = eqb-true (due_after before) names_due (rw is at e) in
          junction_before_arcs is (omega (arith, due_is before o, o)) (λ stands. omega (arith, due_is before o, o))
      go (arc_mark is) =
          let behind : names_due ≤ due_after before = leb-true names_due (due_after before) (rw is at e) in
          arc_after_fences is (omega (arith, due_is before o, o))
      go (comment_mark is) = any_comment is

  pub turn_tested : {mark : ℕ} → InTurn before mark → in_turn (due_after before) mark ≡ true
  turn_tested (first_town is none) = rw is (eq-eqb (due_after before) town_due (omega (arith, due_is before o, o)))
  turn_tested (first_fences is town none) = rw is (eq-eqb (due_after before) fences_due (omega (arith, due_is before o, o)))
  turn_tested (junction_before_arcs is fences none) = rw is (eq-eqb (due_after before) names_due (omega (arith, due_is before o, o)))
  turn_tested (arc_after_fences is fences) = rw is (le-leb names_due (due_after before) (omega (arith, due_is before o, o)))
  turn_tested (any_comment is) = rw is

pub turn_is_known : {before : List (List ℕ)} {mark : ℕ} → InTurn before mark → known mark ≡ true
turn_is_known (first_town is none) = rw is
turn_is_known (first_fences is town none) = rw is
turn_is_known (junction_before_arcs is fences none) = rw is
turn_is_known (arc_after_fences is fences) = rw is
turn_is_known (any_comment is) = rw is

pub mark_is_known : {mark : ℕ} → Known mark → known mark ≡ true
mark_is_known (town_mark is) = rw is
mark_is_known (fences_mark is) = rw is
mark_is_known (junction_mark is) = rw is
mark_is_known (arc_mark is) = rw is
mark_is_known (comment_mark is) = rw is
