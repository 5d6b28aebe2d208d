-- What stands behind a line's mark: the two bytes of a known mark are no spaces, so the fields of the line are those behind it.
use Prim.Native.Nat.{ℕ, suc, ◌+◌, ◌*◌, ◌≤◌, ◌<◌}
use mathlib.Core.Path.{◌≡◌, ap, ◌∙◌}
use mathlib.Core.Bool.{true, cond}
use mathlib.Core.Logic.{inl, inr}
use mathlib.Core.List.{List, ◌∷◌}
use native.Mathlib.Omega.{arith}
use lib.Dec.{eqb, eqb-suc-suc}
use lib.ListN.{length, get_or, drop}
use borrow.Author.Tests.{ne_eqb}
use Rattle.model.proofs.Tests.{eqb_cases, ltb_cases}
use Rattle.townfile.specs.Bytes.{line_feed, space, up_to, pieces}
use Rattle.townfile.specs.Lines.{mark_tn, mark_tw, first_two, mark_of, known, mark_alone, fields_of}
use Rattle.townfile.specs.LineFaults.{Known, town_mark, fences_mark, junction_mark, arc_mark, comment_mark}
use Rattle.townfile.proofs.Marks.{known_mark}
use Rattle.townfile.proofs.FieldForm.{pieces_later}
use Rattle.fields.specs.Fields.{line_from, word_from, fields_from}
use Rattle.fields.proofs.LineFrom.{line_ends, line_feed_ends, line_goes_on}

-- A known mark has two bytes, and neither is a space.
no_space_in : (a b : ℕ) → b < 256 → Known (a * 256 + b) → (a ≡ space → ⊥) × (b ≡ space → ⊥)
no_space_in a b h (town_mark e) = ((λ s. omega arith), (λ s. omega arith))
no_space_in a b h (fences_mark e) = ((λ s. omega arith), (λ s. omega arith))
no_space_in a b h (junction_mark e) = ((λ s. omega arith), (λ s. omega arith))
no_space_in a b h (arc_mark e) = ((λ s. omega arith), (λ s. omega arith))
no_space_in a b h (comment_mark e) = ((λ s. omega arith), (λ s. omega arith))

no_spaces : (a b : ℕ) → b < 256 → Known (cond (eqb (a * 256 + b) mark_tw) mark_tn (a * 256 + b)) → (a ≡ space → ⊥) × (b ≡ space → ⊥)
no_spaces a b h known = elim (eqb_cases (a * 256 + b) mark_tw) [
  | inl held ↦ ((λ s. omega (arith, held.1)), (λ s. omega (arith, held.1)))
  | inr other ↦ no_space_in a b h (rw other.0 at known)
]

not_nothing : Known 0 → ⊥
not_nothing (town_mark e) = omega arith
not_nothing (fences_mark e) = omega arith
not_nothing (junction_mark e) = omega arith
not_nothing (arc_mark e) = omega arith
not_nothing (comment_mark e) = omega arith

pub record BehindMark (text : List ℕ) (at : ℕ) : Type 0 where
  pub inside : at + 2 ≤ length text
  pub line_is : line_from text at ≡ get_or text at 0 ∷ get_or text (at + 1) 0 ∷ line_from text (at + 2)
  pub fields_are : fields_of (line_from text at) ≡ fields_from text (at + 2)
  pub alone_is : mark_alone (line_from text at) ≡ eqb (length (word_from text (at + 2))) 0

-- The word and the fields of a line whose first two bytes are no spaces.
pub past_two_word : (a b : ℕ) (line : List ℕ) → (a ≡ space → ⊥) → (b ≡ space → ⊥) → mark_alone (a ∷ b ∷ line) ≡ eqb (length (up_to space line)) 0
unfolding up_to
past_two_word a b line p q = rw (ne_eqb a space p, ne_eqb b space q) (eqb-suc-suc (suc (length (up_to space line))) 1 ∙ eqb-suc-suc (length (up_to space line)) 0)

pub past_two_fields : (a b : ℕ) (line : List ℕ) → (a ≡ space → ⊥) → (b ≡ space → ⊥) → fields_of (a ∷ b ∷ line) ≡ drop 1 (pieces space line)
past_two_fields a b line p q = pieces_later space a (b ∷ line) (ne_eqb a space p) ∙ pieces_later space b line (ne_eqb b space q)

module _ (text : List ℕ) (at : ℕ) (byte : get_or text (at + 1) 0 < 256) where
  two_bytes : at + 2 ≤ length text → line_from text at ≡ get_or text at 0 ∷ get_or text (at + 1) 0 ∷ line_from text (at + 2) → Known (mark_of (line_from text at)) → BehindMark text at
  unfolding mark_of first_two
  two_bytes h e is =
      let bytes = no_spaces (get_or text at 0) (get_or text (at + 1) 0) byte (rw e at is) in
      record {
        inside = h;
        line_is = e;
        fields_are = rw e (past_two_fields (get_or text at 0) (get_or text (at + 1) 0) (line_from text (at + 2)) bytes.0 bytes.1);
        alone_is = rw e (past_two_word (get_or text at 0) (get_or text (at + 1) 0) (line_from text (at + 2)) bytes.0 bytes.1);
      }

  pub behind_mark_law : known (mark_of (line_from text at)) ≡ true → BehindMark text at
  unfolding mark_of first_two
  behind_mark_law k = elim (ltb_cases at (length text)) [
    | inr past ↦ absurd (not_nothing (rw (line_ends text at past.1) at is))
    | inl inside ↦ elim (eqb_cases (get_or text at 0) line_feed) [
      | inl feed ↦ absurd (not_nothing (rw (line_feed_ends text at inside.1 feed.1) at is))
      | inr other ↦ elim (ltb_cases (at + 1) (length text)) [
        | inr past ↦ absurd (not_nothing (rw (line_goes_on text at inside.1 other.1, line_ends text (at + 1) past.1, mark_of, first_two) at is))
        | inl inside2 ↦ elim (eqb_cases (get_or text (at + 1) 0) line_feed) [
          | inl feed ↦ absurd (not_nothing (rw (line_goes_on text at inside.1 other.1, line_feed_ends text (at + 1) inside2.1 feed.1, mark_of, first_two) at is))
          | inr other2 ↦
              let third : at + 1 + 1 ≡ at + 2 = omega arith in
              let second = line_goes_on text (at + 1) inside2.1 other2.1 in
              two_bytes (omega (arith, inside2.1)) (line_goes_on text at inside.1 other.1 ∙ rw (second, third)) is
        ]
      ]
    ]
  ]
    where
      is : Known (mark_of (line_from text at))
      is = known_mark (mark_of (line_from text at)) k

  -- The same where the mark is given.
  pub behind_known : {mark : ℕ} → known mark ≡ true → mark_of (line_from text at) ≡ mark → BehindMark text at
  behind_known k e = behind_mark_law (ap known e ∙ k)
