-- The line is the grammar's: the mark's two bytes, fields and LF. Behind the mark the fields are the pieces between spaces.
use Prim.Native.Nat.{ℕ, suc, ◌+◌, ◌*◌, ◌<◌}
use mathlib.Core.Path.{◌≡◌, refl, ap, ◌∙◌}
use mathlib.Core.Bool.{Bool, true, not, ◌&&◌}
use mathlib.Core.List.{List, [], ◌∷◌, ◌++◌}
use mathlib.Core.Logic.{inl, inr}
use native.Mathlib.Numerals.{add-one}
use native.Mathlib.Omega.{arith}
use lib.Dec.{ltb, eqb}
use lib.ListN.{length, drop, length-append}
use lib.Seq.{drop-append-add}
use borrow.Author.Tests.{lt-ltb, ltb-true, eq-eqb, ne_eqb, eqb-true}
use Rattle.model.specs.Rules.{every}
use Rattle.model.proofs.Rules.{true_both, both_true}
use Rattle.model.proofs.Tests.{eqb_cases}
use Rattle.townfile.specs.Bytes.{line_feed, space, up_to}
use Rattle.townfile.specs.Numbers.{number_keeps}
use Rattle.townfile.specs.Lines.{first_two}
use Rattle.townfile.specs.Grammar.{Bytes, Fields}
use Rattle.townfile.proofs.FieldForm.{up_to_part, pieces_fields, fields_pieces, fields_lack}
use Rattle.fields.proofs.FieldsLeft.{no_bytes}
use Rattle.question_line.specs.Line.{first_line, behind_mark, fields_in, numbers_in, has_mark, of_form, rest_of, LineAndRest, Capital, OfFormWhenWritten}
use Rattle.question_line.proofs.Marked.{TwoBytes, two_bytes, line_of_two}

-- What stands before the first line feed, that, and what stands behind it.
up_to_split : (separator : ℕ) (bytes : List ℕ) → length (up_to separator bytes) < length bytes →
    bytes ≡ up_to separator bytes ++ (separator ∷ drop (suc (length (up_to separator bytes))) bytes)
unfolding up_to
up_to_split separator [] h = absurd (omega arith)
up_to_split separator (byte ∷ bytes) h = elim (eqb_cases byte separator) [
  | inl here ↦ rw here.0 (rw here.1)
  | inr other ↦
      let h' : suc (length (up_to separator bytes)) < suc (length bytes) = rw other.0 at h in
      rw other.0 (ap {B = List ℕ} (λ rest. byte ∷ rest) (up_to_split separator bytes (omega arith)))
]

-- ---- From the tests to the grammar

pub record Tested (mark : ℕ) (text : List ℕ) : Type 0 where
  pub ended : length (first_line text) < length text
  pub is_mark : first_two (first_line text) ≡ mark
  pub no_word : up_to space (behind_mark text) ≡ []
  pub all_numbers : every number_keeps (fields_in text) ≡ true

pub tested : (mark : ℕ) (text : List ℕ) → of_form mark text ≡ true → Tested mark text
unfolding of_form
tested mark text e =
    let ended : Bool = ltb (length (first_line text)) (length text) in
    let alone : Bool = eqb (length (up_to space (behind_mark text))) 0 in
    let all = true_both (ended && has_mark mark text) (alone && every number_keeps (fields_in text)) e in
    let begun = true_both ended (has_mark mark text) all.0 in
    let fields = true_both alone (every number_keeps (fields_in text)) all.1 in
    record {
      ended = ltb-true (length (first_line text)) (length text) begun.0;
      is_mark = eqb-true (first_two (first_line text)) mark (true_both (not (eqb mark 0)) (eqb (first_two (first_line text)) mark) begun.1).1;
      no_word = no_bytes (up_to space (behind_mark text)) fields.0;
      all_numbers = fields.1;
    }

module _ (first second : ℕ) (c : Capital first) (c' : Capital second) where
  abbrev mark : ℕ
  mark = first * 256 + second

  first_no_feed : first ≡ line_feed → ⊥
  first_no_feed e = omega arith

  second_no_feed : second ≡ line_feed → ⊥
  second_no_feed e = omega arith

  -- The two bytes of a text of bytes are its mark's.
  marked_rest : (text : List ℕ) → Bytes text → first_two (first_line text) ≡ mark → (rest : List ℕ) × (text ≡ first ∷ second ∷ rest)
  unfolding first_two
  marked_rest text bytes e = go (two_bytes text (λ z. omega arith))
    where
      go : TwoBytes text → (rest : List ℕ) × (text ≡ first ∷ second ∷ rest)
      go two =
          let line = line_of_two two.first two.second two.rest two.first_no_feed two.second_no_feed in
          let is : two.first * 256 + two.second ≡ mark = rw (two.in_all, line, first_two) at e in
          let below : two.second < 256 = rw two.in_all at bytes 1 (omega arith) in
          let same_first : two.first ≡ first = omega arith in
          let same_second : two.second ≡ second = omega arith in
          (two.rest, two.in_all ∙ rw (same_first, same_second))

  module _ (rest : List ℕ) where
    abbrev input : List ℕ
    input = first ∷ second ∷ rest

    line_is : first_line input ≡ first ∷ second ∷ up_to line_feed rest
    line_is = line_of_two first second rest first_no_feed second_no_feed

    rest_is : rest_of input ≡ drop (suc (length (up_to line_feed rest))) rest
    rest_is = let past : suc (suc (length (up_to line_feed rest))) + 1 ≡ suc (suc (suc (length (up_to line_feed rest)))) = omega arith in rw (line_is, past)

    form_written : Tested mark input → LineAndRest first second input (numbers_in input) (rest_of input)
    form_written t =
        let inside : length (up_to line_feed rest) < length rest = omega (arith, t.ended, ap length line_is) in
        record {
          bytes = up_to line_feed rest;
          fields = rw line_is (pieces_fields (up_to line_feed rest) (rw line_is at t.no_word) (rw line_is at t.all_numbers));
          in_all = rw rest_is (ap {B = List ℕ} (λ r. first ∷ second ∷ r) (up_to_split line_feed rest inside));
        }

  -- ---- From the grammar to the tests

  module _ (bytes numbers rest : List ℕ) (fields : Fields bytes numbers) where
    abbrev written : List ℕ
    written = first ∷ second ∷ (bytes ++ (line_feed ∷ rest))

    bytes_end : up_to line_feed (bytes ++ (line_feed ∷ rest)) ≡ bytes
    unfolding up_to
    bytes_end = up_to_part line_feed bytes (line_feed ∷ rest) (fields_lack fields) refl

    written_line : first_line written ≡ first ∷ second ∷ bytes
    written_line = line_is (bytes ++ (line_feed ∷ rest)) ∙ rw bytes_end

    numbers_are : numbers_in written ≡ numbers
    numbers_are = rw written_line (fields_pieces fields).their_values

    written_of_form : of_form mark written ≡ true
    unfolding of_form first_two
    written_of_form =
        let inside : length (first_line written) < length written = omega (arith, ap length written_line, length-append bytes (line_feed ∷ rest)) in
        let is : first_two (first_line written) ≡ mark = rw written_line in
        let some : not (eqb mark 0) ≡ true = rw (ne_eqb mark 0 (λ z. omega arith)) in
        let parted = fields_pieces fields in
        let none : eqb (length (up_to space (behind_mark written))) 0 ≡ true = rw (written_line, parted.none_before) in
        both_true
        (both_true (lt-ltb (length (first_line written)) (length written) inside) (both_true some (eq-eqb (first_two (first_line written)) mark is)))
        (both_true none (rw written_line parted.all_numbers))

    written_rest : rest_of written ≡ rest
    written_rest = rest_is (bytes ++ (line_feed ∷ rest)) ∙ rw (bytes_end, ← add-one (length bytes), drop-append-add)

pub of_form_when_written : OfFormWhenWritten
of_form_when_written first second c c' text bytes numbers rest = (
  (λ form. go (tested (first * 256 + second) text form.0) form.1 form.2),
  (λ line.
      let fields = line.fields in
      let form = written_of_form first second c c' line.bytes numbers rest fields in
      let same_numbers = numbers_are first second c c' line.bytes numbers rest fields in
      rw line.in_all (form, same_numbers, written_rest first second c c' line.bytes numbers rest fields)),
)
  where
    go : Tested (first * 256 + second) text → numbers_in text ≡ numbers → rest_of text ≡ rest → LineAndRest first second text numbers rest
    go t same_numbers same_rest =
        let found = marked_rest first second c c' text bytes t.is_mark in
        let line : LineAndRest first second text (numbers_in text) (rest_of text) = rw found.1 (form_written first second c c' found.0 (rw found.1 at t)) in
        rw (same_numbers, same_rest) at line
