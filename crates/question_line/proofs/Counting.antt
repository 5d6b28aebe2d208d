-- The numbers of a line counted one by one: a field read takes one from those that are left, and behind the last one stands LF.
use Prim.Native.Nat.{ℕ, zero, suc, ◌+◌, ◌≤◌, ◌<◌}
use mathlib.Core.Path.{◌≡◌, refl, sym, ◌∙◌}
use mathlib.Core.Bool.{Bool, true, false, ◌&&◌, and-false}
use mathlib.Core.List.{List, [], ◌∷◌, map}
use native.Mathlib.Omega.{arith}
use lib.Dec.{ltb, eqb}
use lib.ListN.{length, get_or}
use borrow.Author.Tests.{eq-eqb, ne_eqb, lt-ltb, le-ltb}
use Rattle.model.specs.Rules.{every}
use Rattle.townfile.specs.Bytes.{line_feed, up_to, pieces}
use Rattle.townfile.specs.Numbers.{decimal, number_keeps}
use Rattle.fields.specs.Fields.{line_from, word_from, field_at, fields_from, numbers_from, filled_by}
use Rattle.std.specs.Prelude.{Some, None}
use Rattle.fields.proofs.LineFrom.{line_ends, line_feed_ends, line_goes_on}
use Rattle.fields.proofs.FieldsLeft.{FieldRead, field_not_read, field_goes, number_goes, word_gone, word_behind, end_behind, unfilled_without_field, unfilled_before_end}
use Rattle.question_line.specs.Code.Counting.{only_numbers, counted_from}
use Rattle.question_line.specs.Line.{asked}

pub and-true : (a : Bool) → (a && true) ≡ a
and-true true = refl
and-true false = refl

-- Only numbers stand where they fill as many fields as there are.
filled_as_many : (text : List ℕ) (at : ℕ) → filled_by (length (fields_from text at)) text at ≡ only_numbers text at
unfolding only_numbers
filled_as_many text at =
    let fields = fields_from text at in
    rw (eq-eqb (length fields) (length fields) refl) (and-true (eqb (length (word_from text at)) 0 && every number_keeps fields))

-- ---- A field read

module _ (text : List ℕ) (at : ℕ) {value next : ℕ} (r : FieldRead text at value next) where
  pub field_behind : at < next
  field_behind = omega (arith, r.behind)

  pub only_goes_on : only_numbers text at ≡ only_numbers text next
  unfolding only_numbers
  only_goes_on = rw (word_gone text at value next r, field_goes text at value next r, r.form, word_behind text at value next r)

  pub count_goes_on : (count : ℕ) → counted_from (count + 1) text next ≡ counted_from count text at
  unfolding counted_from
  count_goes_on count =
      let one_more : count + 1 + length (numbers_from text next) ≡ count + suc (length (numbers_from text next)) = omega arith in
      rw (end_behind text at value next r, one_more, only_goes_on, number_goes text at value next r)

-- ---- No field, and the end

module _ (text : List ℕ) (at : ℕ) where
  pub only_none_left : only_numbers text at ≡ true → field_at text at ≡ None → numbers_from text at ≡ []
  only_none_left only e = go (fields_from text at) (filled_as_many text at ∙ only)
    where
      go : (fields : List (List ℕ)) → filled_by (length fields) text at ≡ true → map decimal fields ≡ []
      go [] f = refl
      go (word ∷ words) f = absurd (let z : ◌≡◌ {A = ℕ} 0 1 = cc (unfilled_without_field text at (length words) (field_not_read text at e)) in omega arith)

  malformed : only_numbers text at ≡ false → (count : ℕ) → None ≡ counted_from count text at
  unfolding counted_from
  malformed e count = rw (e, and-false (ltb (at + length (line_from text at)) (length text)))

  pub no_field : at < length text → (get_or text at 0 ≡ line_feed → ⊥) → field_at text at ≡ None → (count : ℕ) → None ≡ counted_from count text at
  no_field h other e = malformed (sym (filled_as_many text at) ∙ unfilled (length (fields_from text at)))
    where
      goes_on : eqb (length (line_from text at)) 0 ≡ false
      goes_on = rw (line_goes_on text at h other) (ne_eqb (length (get_or text at 0 ∷ line_from text (at + 1))) 0 (λ z. omega arith))

      unfilled : (count : ℕ) → filled_by count text at ≡ false
      unfilled zero = unfilled_before_end text at goes_on
      unfilled (suc count) = unfilled_without_field text at count (field_not_read text at e)

  pub line_feed_found : at < length text → get_or text at 0 ≡ line_feed → (count : ℕ) → Some (asked count (at + 1)) ≡ counted_from count text at
  unfolding counted_from only_numbers pieces up_to
  line_feed_found h e count =
      let here : at + 0 ≡ at = omega arith in
      let none : count + 0 ≡ count = omega arith in
      rw (line_feed_ends text at h e, here, none, lt-ltb at (length text) h)

  pub text_ended : length text ≤ at → (count : ℕ) → None ≡ counted_from count text at
  unfolding counted_from
  text_ended h count =
      let here : at + 0 ≡ at = omega arith in
      rw (line_ends text at h, here, le-ltb at (length text) h)
