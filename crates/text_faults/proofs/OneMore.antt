-- One line more behind others: the lines with each mark are those before, and it where the mark is its own. So a line in its turn leaves the
-- progress of the lines with it (`after_line`).
use Prim.Native.Nat.{ℕ, suc, ◌+◌, ◌≤◌, min}
use mathlib.Core.Path.{◌≡◌, refl, sym, ap, ◌∙◌}
use mathlib.Core.Bool.{Bool, true, false, cond}
use mathlib.Core.List.{List, [], ◌∷◌, ◌++◌, map, flatten, append-nil, map-append}
use mathlib.Core.Logic.{inl, inr}
use native.Mathlib.Omega.{arith}
use lib.Dec.{eqb}
use lib.ListN.{length, get_or, length-map, length-append}
use borrow.Author.Tests.{eq-eqb, ne_eqb}
use Rattle.model.proofs.Tests.{eqb_cases}
use Rattle.townfile.specs.Numbers.{decimal}
use Rattle.townfile.specs.Grammar.{Named}
use Rattle.townfile.specs.Lines.{mark_tn, mark_fn, mark_jn, mark_ar, begins_held, mark_of, numbers_of, number_field, line_read}
use Rattle.townfile.specs.Tables.{marked, named_of, arc_of, town_in, names_in, arcs_in}
use Rattle.townfile.specs.declared.progress.Progress.{Progress}
use Rattle.text_faults.specs.Faulty.{Stands, last_or, due_after, progress_after}
use Rattle.text_faults.specs.Faulty.{InTurn, first_town, first_fences, junction_before_arcs, arc_after_fences, any_comment}
use Rattle.text_faults.proofs.Order.{count, Ordered, due_is}

marked_more : (mark : ℕ) (lines : List (List ℕ)) (line : List ℕ) → marked mark (lines ++ (line ∷ [])) ≡ marked mark lines ++ marked mark (line ∷ [])
unfolding marked
marked_more mark [] line = refl
marked_more mark (first ∷ lines) line = elim (eqb_cases (mark_of first) mark) [
  | inl here ↦ rw (here.0, marked_more mark lines line)
  | inr other ↦ rw (other.0, marked_more mark lines line)
]

last_is : (other n : ℕ) (numbers : List ℕ) → last_or other (numbers ++ (n ∷ [])) ≡ n
unfolding last_or
last_is other n [] = refl
last_is other n (first ∷ numbers) = last_is first n numbers

pub none_there : {A : Type 0} (xs : List A) → (1 ≤ length xs → ⊥) → xs ≡ []
none_there [] none = refl
none_there (x ∷ xs) none = absurd (none (omega arith))

-- One more than a name's number, and than the last of some.
abbrev next_number : Named → ℕ
next_number named = suc named.number

abbrev unnamed : List Named → ℕ
unnamed names = last_or 0 (map next_number names)

arcs_counted : (lines : List (List ℕ)) → length (arcs_in lines) ≡ count mark_ar lines
arcs_counted lines = length-map (marked mark_ar lines) (arc_of (get_or (town_in lines) 1 0))

abbrev progress : (turn : ℕ) (held : Bool) (junctions intervals unnamed arcs : ℕ) → Progress
progress turn held junctions intervals unnamed arcs =
    record { turn = turn; held = held; junctions = junctions; intervals = intervals; unnamed = unnamed; arcs = arcs }

same_progress : {turn turn' : ℕ} {held held' : Bool} {junctions junctions' intervals intervals' unnamed unnamed' arcs arcs' : ℕ} →
    turn ≡ turn' → held ≡ held' → junctions ≡ junctions' → intervals ≡ intervals' → unnamed ≡ unnamed' → arcs ≡ arcs' →
    progress turn held junctions intervals unnamed arcs ≡ progress turn' held' junctions' intervals' unnamed' arcs'
same_progress t h j i u a = rw (t, h, j, i, u, a)

module _ {before : List (List ℕ)} (o : Ordered before) (line : List ℕ) where
  abbrev more : List (List ℕ)
  more = before ++ (line ∷ [])

  with_mark : (mark : ℕ) → mark_of line ≡ mark → marked mark more ≡ marked mark before ++ (line ∷ [])
  unfolding marked
  with_mark mark is = marked_more mark before line ∙ rw (eq-eqb (mark_of line) mark is)

  without_mark : (mark : ℕ) → (mark_of line ≡ mark → ⊥) → marked mark more ≡ marked mark before
  unfolding marked
  without_mark mark other = marked_more mark before line ∙ rw (ne_eqb (mark_of line) mark other) (append-nil (marked mark before))

  counted : {own : ℕ} (mark : ℕ) → mark_of line ≡ own → count mark more ≡ count mark before + cond (eqb own mark) 1 0
  unfolding marked
  counted {own} mark is = ap length (marked_more mark before line) ∙ length-append (marked mark before) (marked mark (line ∷ []))
      ∙ ap (λ n. count mark before + n) (rw is (by_test (eqb own mark)))
    where
      by_test : (test : Bool) → length (cond test (line ∷ []) []) ≡ cond test 1 0
      by_test true = refl
      by_test false = refl

  pub still_ordered : InTurn before (mark_of line) → Ordered more
  still_ordered (first_town is none) = omega (arith, counted mark_tn is, counted mark_fn is, counted mark_ar is)
  still_ordered (first_fences is town none) = omega (arith, counted mark_tn is, counted mark_fn is, counted mark_ar is)
  still_ordered (junction_before_arcs is fences none) = omega (arith, counted mark_tn is, counted mark_fn is, counted mark_ar is)
  still_ordered (arc_after_fences is fences) = omega (arith, counted mark_tn is, counted mark_fn is, counted mark_ar is)
  still_ordered (any_comment is) = omega (arith, counted mark_tn is, counted mark_fn is, counted mark_ar is)

  counts_same : (mark_of line ≡ mark_tn → ⊥) → (k : ℕ) → get_or (town_in before) k 0 ≡ get_or (town_in more) k 0
  counts_same other k = ap (λ lines. get_or (flatten (map numbers_of lines)) k 0) (sym (without_mark mark_tn other))

  unnamed_same : (mark_of line ≡ mark_jn → ⊥) → unnamed (names_in before) ≡ unnamed (names_in more)
  unnamed_same other = ap (λ lines. unnamed (map named_of lines)) (sym (without_mark mark_jn other))

  form_same : (mark_of line ≡ mark_tn → ⊥) → begins_held (get_or (marked mark_tn before) 0 []) ≡ begins_held (get_or (marked mark_tn more) 0 [])
  form_same other = ap (λ lines. begins_held (get_or lines 0 [])) (sym (without_mark mark_tn other))

  arcs_same : (mark_of line ≡ mark_ar → ⊥) → length (arcs_in before) ≡ length (arcs_in more)
  arcs_same other = arcs_counted before ∙ ap length (sym (without_mark mark_ar other)) ∙ sym (arcs_counted more)

  form_said : mark_of line ≡ mark_tn → (Stands mark_tn before → ⊥) → begins_held line ≡ begins_held (get_or (marked mark_tn more) 0 [])
  form_said is none =
      let first : marked mark_tn before ≡ [] = none_there (marked mark_tn before) none in
      ap (λ lines. begins_held (get_or lines 0 [])) (sym (with_mark mark_tn is ∙ ap (λ lines. lines ++ (line ∷ [])) first))

  town_said_law : mark_of line ≡ mark_tn → (Stands mark_tn before → ⊥) → numbers_of line ≡ town_in more
  unfolding flatten
  town_said_law is none =
      let first : marked mark_tn before ≡ [] = none_there (marked mark_tn before) none in
      let alone : marked mark_tn more ≡ line ∷ [] = with_mark mark_tn is ∙ ap (λ lines. lines ++ (line ∷ [])) first in
      sym (ap (λ lines. flatten (map numbers_of lines)) alone ∙ append-nil (numbers_of line))

  name_said : mark_of line ≡ mark_jn → decimal (number_field line) + 1 ≡ unnamed (names_in more)
  name_said is =
      let number : ℕ = decimal (number_field line) in
      let before-and-own : map next_number (names_in more) ≡ map next_number (names_in before) ++ (suc number ∷ []) =
      ap (λ lines. map next_number (map named_of lines)) (with_mark mark_jn is)
      ∙ ap (map next_number) (map-append named_of (marked mark_jn before) (line ∷ []))
      ∙ map-append next_number (names_in before) (named_of line ∷ []) in
      let next : number + 1 ≡ suc number = omega arith in
      next ∙ sym (ap (last_or 0) before-and-own ∙ last_is 0 (suc number) (map next_number (names_in before)))

  arc_said : mark_of line ≡ mark_ar → length (arcs_in before) + 1 ≡ length (arcs_in more)
  arc_said is = omega (arith, counted mark_ar is, arcs_counted before, arcs_counted more)

  -- A line in its turn leaves the progress of the lines with it.
  pub after_line : InTurn before (mark_of line) → line_read (progress_after before) line ≡ progress_after more
  unfolding progress_after line_read
  after_line turn = go turn (due_is before o) (due_is more (still_ordered turn))
    where
      go : InTurn before (mark_of line) →
          due_after before ≡ min 1 (count mark_tn before) + min 1 (count mark_fn before) + min 1 (count mark_ar before) →
          due_after more ≡ min 1 (count mark_tn more) + min 1 (count mark_fn more) + min 1 (count mark_ar more) →
          line_read (progress_after before) line ≡ progress_after more
      go (first_town is none) was due =
          let numbers = town_said_law is none in
          rw is
          (same_progress (omega (arith, counted mark_tn is, counted mark_fn is, counted mark_ar is)) (form_said is none) (ap (λ n. get_or n 0 0) numbers) (ap (λ n. get_or n 1 0) numbers)
          (unnamed_same (λ e. omega (arith, is, e))) (arcs_same (λ e. omega (arith, is, e))))
      go (first_fences is town none) was due =
          let form = form_same (λ e. omega (arith, is, e)) in
          let same = counts_same (λ e. omega (arith, is, e)) in
          rw is
          (same_progress (omega (arith, counted mark_tn is, counted mark_fn is, counted mark_ar is)) form (same 0) (same 1)
          (unnamed_same (λ e. omega (arith, is, e))) (arcs_same (λ e. omega (arith, is, e))))
      go (junction_before_arcs is fences none) was due =
          let form = form_same (λ e. omega (arith, is, e)) in
          let same = counts_same (λ e. omega (arith, is, e)) in
          rw is
          (same_progress (omega (arith, counted mark_tn is, counted mark_fn is, counted mark_ar is)) form (same 0) (same 1) (name_said is) (arcs_same (λ e. omega (arith, is, e))))
      go (arc_after_fences is fences) was due =
          let form = form_same (λ e. omega (arith, is, e)) in
          let same = counts_same (λ e. omega (arith, is, e)) in
          rw is
          (same_progress (omega (arith, counted mark_tn is, counted mark_fn is, counted mark_ar is)) form (same 0) (same 1)
          (unnamed_same (λ e. omega (arith, is, e))) (arc_said is))
      go (any_comment is) was due =
          let form = form_same (λ e. omega (arith, is, e)) in
          let same = counts_same (λ e. omega (arith, is, e)) in
          rw is
          (same_progress (omega (arith, counted mark_tn is, counted mark_fn is, counted mark_ar is)) form (same 0) (same 1)
          (unnamed_same (λ e. omega (arith, is, e))) (arcs_same (λ e. omega (arith, is, e))))
