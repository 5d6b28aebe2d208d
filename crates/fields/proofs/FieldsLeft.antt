-- The fields that fill the rest of a line, one after another: a field takes its number from the list, and behind the last one the
-- line ends.
use Prim.Native.Nat.{ℕ, suc, ◌+◌, ◌<◌}
use mathlib.Core.Path.{◌≡◌, refl, sym, ap, ◌∙◌}
use mathlib.Core.Bool.{Bool, true, false, cond, ◌&&◌, and-false}
use mathlib.Core.Logic.{◌⊎◌, inl, inr}
use mathlib.Core.List.{List, [], ◌∷◌}
use Rattle.std.specs.Prelude.{Some, None}
use native.Mathlib.Omega.{arith}
use lib.Dec.{eqb, eqb-zero-suc, eqb-suc-zero}
use lib.ListN.{length, get_or, drop, length-drop}
use borrow.Author.Tests.{eqb-true}
use Rattle.model.specs.Rules.{every}
use Rattle.model.proofs.Rules.{true_both}
use Rattle.model.proofs.Tests.{eqb_cases, ltb_cases}
use Rattle.townfile.specs.Bytes.{line_feed, space, up_to, pieces}
use Rattle.townfile.specs.Numbers.{decimal, number_keeps}
use Rattle.townfile.proofs.Pieces.{pieces_next, pieces_behind}
use Rattle.fields.specs.declared.field.Field.{Field}
use Rattle.fields.specs.Fields.{line_from, word_from, field_keeps, field, field_at, fields_from, numbers_from, filled_by}
use Rattle.fields.proofs.LineFrom.{line_ends, line_feed_ends, line_goes_on, line_later, up_to_length, up_to_behind}

-- ---- A field that is a number

pub record FieldRead (text : List ℕ) (at value next : ℕ) : Type 0 where
  pub gap : eqb (get_or (line_from text at) 0 0) space ≡ true
  pub form : number_keeps (word_from text (at + 1)) ≡ true
  pub number : decimal (word_from text (at + 1)) ≡ value
  pub behind : at + 1 + length (word_from text (at + 1)) ≡ next

pub kept_field : (text : List ℕ) (at : ℕ) → field_keeps text at ≡ true → FieldRead text at (decimal (word_from text (at + 1))) (at + 1 + length (word_from text (at + 1)))
kept_field text at e =
    let parts = true_both (eqb (get_or (line_from text at) 0 0) space) (number_keeps (word_from text (at + 1))) e in
    record { gap = parts.0; form = parts.1; number = refl; behind = refl }

pub field_read : (text : List ℕ) (at : ℕ) {number : Field} → field_at text at ≡ Some number → FieldRead text at number.value number.next
unfolding field_at
field_read text at {number} e = go (eqb (get_or (line_from text at) 0 0) space) (number_keeps (word_from text (at + 1))) refl refl e
  where
    value : ℕ
    value = decimal (word_from text (at + 1))

    next : ℕ
    next = at + 1 + length (word_from text (at + 1))

    go : (gap form : Bool) → eqb (get_or (line_from text at) 0 0) space ≡ gap → number_keeps (word_from text (at + 1)) ≡ form →
        cond (gap && form) (Some (field value next)) None ≡ Some number → FieldRead text at number.value number.next
    go true true g f e =
        let same : field value next ≡ number = cc in
        record { gap = g; form = f; number = ap (λ read. read.value) same; behind = ap (λ read. read.next) same }
    go true false g f e = absurd (let z : ◌≡◌ {A = ℕ} 0 1 = cc in omega arith)
    go false form g f e = absurd (let z : ◌≡◌ {A = ℕ} 0 1 = cc in omega arith)

pub field_not_read : (text : List ℕ) (at : ℕ) → field_at text at ≡ None → field_keeps text at ≡ false
unfolding field_at
field_not_read text at e = go (field_keeps text at) e
  where
    go : (kept : Bool) → cond kept (Some (field (decimal (word_from text (at + 1))) (at + 1 + length (word_from text (at + 1))))) None ≡ None → kept ≡ false
    go true e = absurd (let z : ◌≡◌ {A = ℕ} 0 1 = cc in omega arith)
    go false e = refl

-- ---- A line that goes on by a space

module _ (text : List ℕ) (at : ℕ) where
  -- Where the line begins with a space, that is the text's byte.
  pub gap_here : eqb (get_or (line_from text at) 0 0) space ≡ true → (at < length text) × (get_or text at 0 ≡ space)
  gap_here e = elim (ltb_cases at (length text)) [
    | inr past ↦ absurd (let z : ◌≡◌ {A = ℕ} 0 1 = cc (rw (line_ends text at past.1) at e) in omega arith)
    | inl inside ↦ elim (eqb_cases (get_or text at 0) line_feed) [
      | inl feed ↦ absurd (let z : ◌≡◌ {A = ℕ} 0 1 = cc (rw (line_feed_ends text at inside.1 feed.1) at e) in omega arith)
      | inr other ↦ (inside.1, eqb-true (get_or text at 0) space (rw (line_goes_on text at inside.1 other.1) at e))
    ]
  ]

  pub gap_line : eqb (get_or (line_from text at) 0 0) space ≡ true → line_from text at ≡ space ∷ line_from text (at + 1)
  gap_line e = let here = gap_here e in line_goes_on text at here.0 (λ f. omega (arith, here.1)) ∙ rw here.1

  -- No word stands here: the line ends, or goes on by a space.
  pub no_word : eqb (length (word_from text at)) 0 ≡ true → (line_from text at ≡ []) ⊎ (eqb (get_or (line_from text at) 0 0) space ≡ true)
  unfolding up_to
  no_word e = go (line_from text at) e
    where
      go : (line : List ℕ) → eqb (length (up_to space line)) 0 ≡ true → (line ≡ []) ⊎ (eqb (get_or line 0 0) space ≡ true)
      go [] e = inl refl
      go (byte ∷ line) e = elim (eqb_cases byte space) [
        | inl here ↦ inr here.0
        | inr other ↦ absurd (omega (arith, eqb-true (suc (length (up_to space line))) 0 (rw other.0 at e)))
      ]

-- ---- One field

module _ (text : List ℕ) (at : ℕ) (value next : ℕ) (r : FieldRead text at value next) where
  line_behind : line_from text next ≡ drop (length (word_from text (at + 1))) (line_from text (at + 1))
  line_behind = ap (line_from text) (sym r.behind) ∙ line_later text (at + 1) (length (word_from text (at + 1))) (up_to_length space (line_from text (at + 1)))

  pub field_goes : fields_from text at ≡ word_from text (at + 1) ∷ fields_from text next
  field_goes = rw (gap_line text at r.gap, pieces_behind space (line_from text (at + 1)), pieces_next space (line_from text (at + 1)), ← line_behind)

  pub number_goes : numbers_from text at ≡ value ∷ numbers_from text next
  number_goes = rw (field_goes, r.number)

  pub word_gone : word_from text at ≡ []
  unfolding up_to
  word_gone = rw (gap_line text at r.gap)

  pub word_behind : word_from text next ≡ []
  word_behind = rw line_behind (up_to_behind space (line_from text (at + 1)))

  pub end_behind : next + length (line_from text next) ≡ at + length (line_from text at)
  end_behind =
      let from = line_from text (at + 1) in
      let left = length-drop (length (word_from text (at + 1))) from in
      omega (arith, ap length line_behind, left, up_to_length space from, ap length (gap_line text at r.gap), r.behind)

-- ---- No field, and the end

pub no_bytes : (line : List ℕ) → eqb (length line) 0 ≡ true → line ≡ []
no_bytes [] e = refl
no_bytes (byte ∷ line) e = absurd (omega (arith, eqb-true (suc (length line)) 0 e))

-- Where no word stands and the line has not ended, a field begins.
module _ (text : List ℕ) (at : ℕ) (gap : eqb (get_or (line_from text at) 0 0) space ≡ true) where
  abbrev behind_field : List (List ℕ)
  behind_field = drop 1 (pieces space (drop (length (word_from text (at + 1))) (line_from text (at + 1))))

  gap_fields : fields_from text at ≡ word_from text (at + 1) ∷ behind_field
  gap_fields = rw (gap_line text at gap, pieces_behind space (line_from text (at + 1)), pieces_next space (line_from text (at + 1)))

  not_a_number : (count : ℕ) → number_keeps (word_from text (at + 1)) ≡ false → filled_by count text at ≡ false
  not_a_number count e = rw (gap_fields, e, and-false (eqb (length (word_from text at)) 0))

  one_too_many : filled_by 0 text at ≡ false
  one_too_many = rw (gap_fields, eqb-suc-zero (length behind_field)) (and-false (eqb (length (word_from text at)) 0 && every number_keeps (word_from text (at + 1) ∷ behind_field)))

module _ (text : List ℕ) (at : ℕ) where
  -- A count is not filled unless the line ends here or a space follows.
  unfilled : (count : ℕ) → (line_from text at ≡ [] → filled_by count text at ≡ false) →
      (eqb (get_or (line_from text at) 0 0) space ≡ true → filled_by count text at ≡ false) → filled_by count text at ≡ false
  unfilled count ended gap = go (eqb (length (word_from text at)) 0) refl
    where
      go : (none : Bool) → eqb (length (word_from text at)) 0 ≡ none → filled_by count text at ≡ false
      go true e = elim (no_word text at e) [ inl empty ↦ ended empty | inr space ↦ gap space ]
      go false e = rw e

  pub unfilled_without_field : (count : ℕ) → field_keeps text at ≡ false → filled_by (suc count) text at ≡ false
  unfolding pieces up_to
  unfilled_without_field count e = unfilled (suc count) (λ empty. rw (empty, eqb-zero-suc count)) (λ gap. not_a_number text at gap (suc count) (rw gap at e))

  pub unfilled_before_end : eqb (length (line_from text at)) 0 ≡ false → filled_by 0 text at ≡ false
  unfilled_before_end e = unfilled 0 (λ empty. absurd (let z : ◌≡◌ {A = ℕ} 0 1 = cc (rw empty at e) in omega arith)) (λ gap. one_too_many text at gap)
