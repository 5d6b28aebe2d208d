-- Load's refusals of a text in plain words: behind good lines the next line meets their progress and the next number (`lines_good`), so that the
-- first fault is met on a line behind good ones, or at the text's end.
use Prim.Native.Nat.{ℕ, suc, ◌≤◌, ◌<◌}
use mathlib.Core.Path.{◌≡◌, refl, sym, ap, ◌∙◌}
use mathlib.Core.Bool.{Bool, true, false, cond}
use mathlib.Core.List.{List, [], ◌∷◌, ◌++◌, flatten, append-nil, append_assoc}
use mathlib.Core.Logic.{inl, inr}
use native.Mathlib.Omega.{arith}
use lib.Dec.{eqb}
use lib.ListN.{length, length-append}
use borrow.Author.Tests.{lt-ltb, le-ltb, ne_eqb}
use Rattle.model.specs.Rules.{Outcome}
use Rattle.model.proofs.Tests.{ltb_cases, eqb_cases}
use Rattle.townfile.specs.Bytes.{line_feed, pieces}
use Rattle.townfile.specs.Grammar.{Bytes, Each, Unbroken, joined}
use Rattle.townfile.specs.Lines.{mark_tn, mark_fn, first_two, mark_of, names_due, line_read}
use Rattle.townfile.specs.FirstFault.{Reading, refused_at, accepted, start, at_end, onward, lines_from, first_fault}
use Rattle.townfile.specs.Tables.{marked}
use Rattle.townfile.specs.Load.{counts_of, is_too_short, into_tables, load_answer}
use Rattle.townfile.specs.declared.progress.Progress.{Progress}
use Rattle.townfile.proofs.Joined.{pieces_of_line, pieces_of_rest, pieces_behind_lines, pieces_unbroken, glued, glued_pieces, bytes_parts}
use Rattle.townfile.proofs.LineForm.{reads_unbroken}
use Rattle.townfile.proofs.Order.{lines_next}
use Rattle.townfile.proofs.Pieces.{pieces_next}
use Rattle.text_faults.specs.Faulty.{Stands, last_or, due_after, progress_after, InTurn, Good, GoodAfter}
use Rattle.text_faults.specs.Faulty.{Faulty, text_too_long, no_line_feed, in_line, line_missing, LoadRefusesWhenFaulty}
use Rattle.text_faults.proofs.Order.{count, Ordered, due_is}
use Rattle.text_faults.proofs.LineRules.{Tested, good, breaks, tested, breaks_tested, good_tested}
use Rattle.text_faults.proofs.OneMore.{none_there, still_ordered, after_line}

-- ---- Good lines

one_longer : (lines : List (List ℕ)) (line : List ℕ) → length (lines ++ (line ∷ [])) ≡ suc (length lines)
one_longer lines line = length-append lines (line ∷ []) ∙ omega arith

good_and_one : (before lines : List (List ℕ)) (line : List ℕ) → GoodAfter before lines → Good (before ++ lines) line → GoodAfter before (lines ++ (line ∷ []))
unfolding GoodAfter
good_and_one before [] line all g = (rw append-nil at g, tt)
good_and_one before (first ∷ lines) line all g = (all.0, good_and_one (before ++ (first ∷ [])) lines line all.1 (rw (← (append_assoc before (first ∷ []) lines)) at g))

all_unbroken : (before lines : List (List ℕ)) → GoodAfter before lines → Each Unbroken lines
unfolding GoodAfter Each
all_unbroken before [] all = tt
all_unbroken before (line ∷ lines) all = (reads_unbroken all.0.formed.2, all_unbroken (before ++ (line ∷ [])) lines all.1)

-- Behind good lines the next line meets their progress and the next number.
lines_good : (before lines : List (List ℕ)) (next : List ℕ) (rest : List (List ℕ)) → Ordered before → GoodAfter before lines →
    Ordered (before ++ lines)
    × (lines_from (progress_after before) (suc (length before)) (lines ++ (next ∷ rest)) ≡ lines_from (progress_after (before ++ lines)) (suc (length (before ++ lines))) (next ∷ rest))
unfolding GoodAfter
lines_good before [] next rest o all = rw append-nil (o, refl)
lines_good before (line ∷ lines) next rest o all =
    let turn = all.0.mark_in_turn in
    let more : List (List ℕ) = before ++ (line ∷ []) in
    let later = lines_good more lines next rest (still_ordered o line turn) all.1 in
    let assoc : more ++ lines ≡ before ++ (line ∷ lines) = append_assoc before (line ∷ []) lines in
    let behind : List (List ℕ) = lines ++ (next ∷ rest) in
    let one : lines_from (progress_after before) (suc (length before)) (line ∷ behind) ≡ lines_from (progress_after more) (suc (length more)) behind =
    lines_next (progress_after before) (suc (length before)) line lines next rest
    ∙ rw (good_tested o line all.0, after_line o line turn, one_longer before line) in
    (rw assoc at later.0, one ∙ rw assoc at later.1)

nothing_ordered : Ordered []
unfolding marked
nothing_ordered = record { fences_behind = omega arith; arcs_behind = omega arith }

start_is : progress_after [] ≡ start
unfolding progress_after due_after marked last_or flatten first_two
start_is = refl

-- ---- The first fault

same_fault : {text : List ℕ} {number number' line line' : ℕ} → ◌≡◌ {A = Reading Progress} (refused_at number line) (refused_at number' line') →
    Faulty text number line → Faulty text number' line'
same_fault {number = number} {number'} {line} {line'} e fault = let n : number ≡ number' = cc in let l : line ≡ line' = cc in rw (n, l) at fault

joined_more : (lines : List (List ℕ)) (line rest : List ℕ) → joined (lines ++ (line ∷ [])) ++ rest ≡ joined lines ++ (line ++ (line_feed ∷ rest))
unfolding joined
joined_more [] line rest = append_assoc line (line_feed ∷ []) rest
joined_more (first ∷ lines) line rest =
    append_assoc first (line_feed ∷ joined (lines ++ (line ∷ []))) rest
    ∙ ap (λ more. first ++ (line_feed ∷ more)) (joined_more lines line rest)
    ∙ sym (append_assoc first (line_feed ∷ joined lines) (line ++ (line_feed ∷ rest)))

module _ (text : List ℕ) (bytes : Bytes text) (short : length text ≤ 65536) where
  -- Where the lines are at their end.
  end_faulty : (lines : List (List ℕ)) → Ordered lines → GoodAfter [] lines → text ≡ joined lines → {number line : ℕ} →
      at_end (progress_after lines) (suc (length lines)) ≡ refused_at number line → Faulty text number line
  unfolding progress_after
  end_faulty lines o all is e = elim (ltb_cases (due_after lines) names_due) [
    | inl early ↦ same_fault (rw early.0 at e) (line_missing lines short all is (λ town fences. omega (arith, early.1, due_is lines o)))
    | inr late ↦ (let none : accepted (progress_after lines) ≡ refused_at _ _ = rw late.0 at e in absurd (let z : ◌≡◌ {A = ℕ} 0 1 = cc in omega arith))
  ]

  faulty_from : (before : List (List ℕ)) (first : List ℕ) (rest : List (List ℕ)) → Ordered before → GoodAfter [] before →
      text ≡ joined before ++ glued (first ∷ rest) → Each Unbroken (first ∷ rest) → {number line : ℕ} →
      lines_from (progress_after before) (suc (length before)) (first ∷ rest) ≡ refused_at number line → Faulty text number line
  unfolding lines_from glued Each
  faulty_from before first [] o all is unbroken {number} {line} e = elim (eqb_cases (length first) 0) [
    | inl none ↦
        (let ends : text ≡ joined before = is ∙ rw (none_there first (λ h. omega (arith, h, none.1))) (append-nil (joined before)) in
        end_faulty before o all ends (rw none.0 at e))
    | inr some ↦ same_fault (rw some.0 at e) (no_line_feed before first short all is unbroken.0 (omega arith))
  ]
  faulty_from before first (next ∷ rest) o all is unbroken {number} {line} e =
      let own : Bytes first = (bytes_parts first (line_feed ∷ glued (next ∷ rest)) (bytes_parts (joined before) (first ++ (line_feed ∷ glued (next ∷ rest))) (rw is at bytes)).1).0 in
      go (tested o first own)
      (λ turn g. faulty_from (before ++ (first ∷ [])) next rest (still_ordered o first turn) (good_and_one [] before first all g)
      (is ∙ sym (joined_more before first (glued (next ∷ rest)))) unbroken.1) e
    where
      go : {answer : Outcome Progress} → Tested before first (line_read (progress_after before) first) answer →
          (InTurn before (mark_of first) → Good before first →
          lines_from (progress_after (before ++ (first ∷ []))) (suc (length (before ++ (first ∷ [])))) (next ∷ rest) ≡ refused_at number line → Faulty text number line) →
          onward answer (suc (length before)) (λ q. lines_from q (suc (suc (length before))) (next ∷ rest)) ≡ refused_at number line → Faulty text number line
      go (breaks b) later e = same_fault e (in_line before first (glued (next ∷ rest)) short all is unbroken.0 b)
      go (good g) later e = later g.mark_in_turn g (rw (← (after_line o first g.mark_in_turn), one_longer before first) e)

-- What the pieces of a text behind good lines come to.
from_start : (lines : List (List ℕ)) (next : List ℕ) (rest : List (List ℕ)) → GoodAfter [] lines →
    Ordered lines × (lines_from start 1 (lines ++ (next ∷ rest)) ≡ lines_from (progress_after lines) (suc (length lines)) (next ∷ rest))
from_start lines next rest all = rw start_is at (lines_good [] lines next rest nothing_ordered all)

due_early : (lines : List (List ℕ)) → Ordered lines → (Stands mark_tn lines → Stands mark_fn lines → ⊥) → due_after lines < names_due
due_early lines o missing = elim (ltb_cases 0 (count mark_fn lines)) [
  | inl some ↦ absurd (missing (omega (arith, o, some.1)) some.1)
  | inr none ↦ omega (arith, o, due_is lines o, none.1)
]

module _ (text : List ℕ) (bytes : Bytes text) where
  pieces_after : (lines : List (List ℕ)) (rest : List ℕ) → GoodAfter [] lines → text ≡ joined lines ++ rest → pieces line_feed text ≡ lines ++ pieces line_feed rest
  pieces_after lines rest all is = rw is (pieces_behind_lines lines rest (all_unbroken [] lines all))

  fault_faulty : {number line : ℕ} → first_fault text ≡ refused_at number line → Faulty text number line
  unfolding first_fault GoodAfter joined
  fault_faulty e = elim (ltb_cases 65536 (length text)) [
    | inl long ↦ same_fault (rw long.0 at e) (text_too_long long.1)
    | inr short ↦
        (let next = pieces_next line_feed text in
        faulty_from text bytes short.1 [] _ _ nothing_ordered tt (sym (rw next at (glued_pieces text))) (rw next at (pieces_unbroken text))
        (rw (short.0, next, ← start_is) at e))
  ]

  faulty_fault : {number line : ℕ} → Faulty text number line → first_fault text ≡ refused_at number line
  unfolding first_fault lines_from pieces progress_after
  faulty_fault (text_too_long h) = rw (lt-ltb 65536 (length text) h)
  faulty_fault (no_line_feed lines rest short all is unbroken some) =
      let none : eqb (length rest) 0 ≡ false = ne_eqb (length rest) 0 (λ e. omega arith) in
      rw (le-ltb 65536 (length text) short, pieces_after lines rest all is, pieces_of_rest rest unbroken) ((from_start lines rest [] all).1 ∙ rw none)
  faulty_fault (in_line lines line rest short all is unbroken b) =
      let own : Bytes line = (bytes_parts line (line_feed ∷ rest) (bytes_parts (joined lines) (line ++ (line_feed ∷ rest)) (rw is at bytes)).1).0 in
      let lead = from_start lines line (pieces line_feed rest) all in
      rw (le-ltb 65536 (length text) short, pieces_after lines (line ++ (line_feed ∷ rest)) all is, pieces_of_line line rest unbroken)
      (lead.1 ∙ rw (pieces_next line_feed rest, breaks_tested lead.0 line own b))
  faulty_fault (line_missing lines short all is missing) =
      let lead = from_start lines [] [] all in
      rw (le-ltb 65536 (length text) short, pieces_after lines [] all (is ∙ sym (append-nil (joined lines))))
      (lead.1 ∙ rw (lt-ltb (due_after lines) names_due (due_early lines lead.0 missing)))

pub load_refuses_when_faulty : LoadRefusesWhenFaulty
unfolding load_answer
load_refuses_when_faulty text bytes lent number line other = (
  (λ e. go (first_fault text) refl e),
  (λ faulty. rw (faulty_fault text bytes faulty)),
)
  where
    go : (reading : Reading Progress) → first_fault text ≡ reading → into_tables reading lent ≡ refused_at number line → Faulty text number line
    go (refused_at number' line') r e = let n : number' ≡ number = cc in let l : line' ≡ line = cc in rw (n, l) at (fault_faulty text bytes r)
    go (accepted p) r e = absurd (by_room (is_too_short (counts_of p) lent) e)
      where
        by_room : (short : Bool) → cond short (refused_at 28 0) (accepted (counts_of p)) ≡ refused_at number line → ⊥
        by_room true e = other (let n : 28 ≡ number = cc in sym n)
        by_room false e = let z : ◌≡◌ {A = ℕ} 0 1 = cc in omega arith
