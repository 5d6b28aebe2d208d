-- The rules of a line behind good lines: its five tests, in their order, come to the plain rules (`tested`), and the plain rules to the tests
-- (`breaks_tested`, `good_tested`).
use Prim.Native.Nat.{ℕ}
use mathlib.Core.Path.{◌≡◌, refl, sym, ◌∙◌}
use mathlib.Core.Bool.{Bool, true, false, cond, not}
use mathlib.Core.List.{List}
use native.Mathlib.Omega.{arith}
use lib.Dec.{ltb}
use lib.ListN.{length}
use borrow.Author.Tests.{ltb-true, ltb-false, lt-ltb, le-ltb}
use Rattle.model.specs.Rules.{Outcome, refused, replied, first_broken}
use Rattle.townfile.specs.Grammar.{Bytes, Line, Reads}
use Rattle.townfile.specs.Lines.{mark_of, known, in_turn, form_keeps, values_keep, line_read, line_answer}
use Rattle.townfile.specs.LineFaults.{CountsMatch}
use Rattle.townfile.specs.declared.progress.Progress.{Progress}
use Rattle.townfile.proofs.LineFaults.{form_kept_when_reads, values_kept_when_within}
use Rattle.townfile.proofs.LineForm.{reads_form}
use Rattle.townfile.proofs.Marks.{known_mark}
use Rattle.text_faults.specs.Faulty.{due_after, progress_after, Formed, Limited, Good, Breaks, too_long, unknown, out_of_turn, malformed, outside}
use Rattle.text_faults.proofs.Order.{Ordered, turn_plain, turn_tested, turn_is_known, mark_is_known}

-- What five tests come to, in their order.
abbrev answer_by : (long marked mark_in_turn formed limited : Bool) → Progress → Outcome Progress
answer_by long marked mark_in_turn formed limited next =
    cond long (refused 22)
    (cond (not marked) (refused 23)
    (cond (not mark_in_turn) (refused 24)
    (cond (not formed) (refused 25)
    (cond (not limited) (refused 26) (replied next)))))

line_answer_law : (p : Progress) (line : List ℕ) →
    line_answer p line ≡ answer_by (ltb 700 (length line)) (known (mark_of line)) (in_turn p.turn (mark_of line)) (form_keeps p line) (values_keep p line) (line_read p line)
unfolding line_answer first_broken
line_answer_law p line = refl

-- What a line comes to, in plain words.
pub data Tested (before : List (List ℕ)) (line : List ℕ) (next : Progress) : Outcome Progress → Type 0 where
  good : Good before line → Tested before line next (replied next)
  breaks : {number : ℕ} → Breaks before line number → Tested before line next (refused number)

false_unless : (test : Bool) → (test ≡ true → ⊥) → test ≡ false
false_unless true other = absurd (other refl)
false_unless false other = refl

true_not_false : {test : Bool} → test ≡ true → test ≡ false → ⊥
true_not_false {test} t f = let both : true ≡ false = sym t ∙ f in let z : ◌≡◌ {A = ℕ} 0 1 = cc in omega arith

module _ {before : List (List ℕ)} (o : Ordered before) (line : List ℕ) where
  abbrev P : Progress
  P = progress_after before

  formed_tested : Formed before line → form_keeps P line ≡ true
  formed_tested (held, says, reads, counts) = reads_form P reads counts

  limited_tested : Limited before line → values_keep P line ≡ true
  limited_tested (held, says, reads, counts, within) = (values_kept_when_within P line held says reads counts).1 within

  pub tested : Bytes line → Tested before line (line_read P line) (line_answer P line)
  unfolding progress_after
  tested bytes = rw (line_answer_law P line) (go (ltb 700 (length line)) refl (known (mark_of line)) refl (in_turn (due_after before) (mark_of line)) refl
      (form_keeps P line) refl (values_keep P line) refl)
    where
      go : (long : Bool) → ltb 700 (length line) ≡ long → (marked : Bool) → known (mark_of line) ≡ marked →
          (mark_in_turn : Bool) → in_turn (due_after before) (mark_of line) ≡ mark_in_turn → (formed : Bool) → form_keeps P line ≡ formed →
          (limited : Bool) → values_keep P line ≡ limited → Tested before line (line_read P line) (answer_by long marked mark_in_turn formed limited (line_read P line))
      go true l marked m mark_in_turn t formed f limited v = breaks (too_long (ltb-true 700 (length line) l))
      go false l false m mark_in_turn t formed f limited v = breaks (unknown (ltb-false 700 (length line) l) (λ is. true_not_false (mark_is_known is) m))
      go false l true m false t formed f limited v =
          breaks (out_of_turn (ltb-false 700 (length line) l) (known_mark (mark_of line) m) (λ turn. true_not_false (turn_tested o turn) t))
      go false l true m true t false f limited v =
          breaks (malformed (ltb-false 700 (length line) l) (turn_plain o t) (λ formed. true_not_false (formed_tested formed) f))
      go false l true m true t true f limited v =
          let reads = (form_kept_when_reads P line bytes).0 f in last limited v reads.0 reads.1 reads.2 reads.3
        where
          last : (limited : Bool) → values_keep P line ≡ limited → (held : Bool) (says : Line) → Reads held line says → CountsMatch P held says →
              Tested before line (line_read P line) (answer_by false true true true limited (line_read P line))
          last true v held says reads counts = good (record {
            short = ltb-false 700 (length line) l;
            mark_in_turn = turn_plain o t;
            formed = (held, says, reads, counts);
            limited = (held, says, reads, counts, (values_kept_when_within P line held says reads counts).0 v);
          })
          last false v held says reads counts =
              breaks (outside (ltb-false 700 (length line) l) (turn_plain o t) (held, says, reads, counts) (λ limited. true_not_false (limited_tested limited) v))

  pub breaks_tested : Bytes line → {number : ℕ} → Breaks before line number → line_answer P line ≡ refused number
  unfolding progress_after
  breaks_tested bytes (too_long h) = line_answer_law P line ∙ rw (lt-ltb 700 (length line) h)
  breaks_tested bytes (unknown h other) =
      let unmarked = false_unless (known (mark_of line)) (λ m. other (known_mark (mark_of line) m)) in
      line_answer_law P line ∙ rw (le-ltb 700 (length line) h, unmarked)
  breaks_tested bytes (out_of_turn h mark other) =
      let not-due = false_unless (in_turn (due_after before) (mark_of line)) (λ t. other (turn_plain o t)) in
      line_answer_law P line ∙ rw (le-ltb 700 (length line) h, mark_is_known mark, not-due)
  breaks_tested bytes (malformed h turn other) =
      let unformed = false_unless (form_keeps P line) (λ f. other ((form_kept_when_reads P line bytes).0 f)) in
      line_answer_law P line ∙ rw (le-ltb 700 (length line) h, turn_is_known turn, turn_tested o turn, unformed)
  breaks_tested bytes (outside h turn formed other) =
      let (held, says, reads, counts) = formed in
      let unlimited = false_unless (values_keep P line) (λ v. other (held, says, reads, counts, (values_kept_when_within P line held says reads counts).0 v)) in
      line_answer_law P line ∙ rw (le-ltb 700 (length line) h, turn_is_known turn, turn_tested o turn, formed_tested formed, unlimited)

  pub good_tested : Good before line → line_answer P line ≡ replied (line_read P line)
  unfolding progress_after
  good_tested g =
      line_answer_law P line
      ∙ rw (le-ltb 700 (length line) g.short, turn_is_known g.mark_in_turn, turn_tested o g.mark_in_turn, formed_tested g.formed, limited_tested g.limited)
