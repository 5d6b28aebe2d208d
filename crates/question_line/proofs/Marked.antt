-- A line that begins with a mark has two bytes, so that what stands behind them is the text's line from the third byte on.
use Prim.Native.Nat.{ℕ, ◌+◌}
use mathlib.Core.Path.{◌≡◌, refl, sym, ◌∙◌}
use mathlib.Core.Bool.{Bool, true, false, cond, not, ◌&&◌, and-false}
use mathlib.Core.List.{List, [], ◌∷◌}
use mathlib.Core.Logic.{inl, inr}
use native.Mathlib.Omega.{arith}
use lib.Dec.{ltb, eqb}
use lib.ListN.{length, take}
use borrow.Author.Tests.{eq-eqb, ne_eqb}
use Rattle.model.specs.Rules.{written}
use Rattle.model.proofs.Tests.{eqb_cases}
use Rattle.townfile.specs.Bytes.{line_feed, up_to}
use Rattle.townfile.specs.Lines.{first_two}
use Rattle.fields.specs.Fields.{line_from, numbers_from}
use Rattle.question_line.specs.Line.{asked, first_line, behind_mark, has_mark, of_form, asked_by, numbers_after}
use Rattle.question_line.specs.Code.Counting.{only_numbers, counted_from}
use Rattle.question_line.specs.declared.line.Asked.{Asked}
use Rattle.std.specs.Prelude.{Some, None}
use Rattle.question_line.proofs.Counting.{and-true}

pub record TwoBytes (text : List ℕ) : Type 0 where
  pub first : ℕ
  pub second : ℕ
  pub rest : List ℕ
  pub first_no_feed : first ≡ line_feed → ⊥
  pub second_no_feed : second ≡ line_feed → ⊥
  pub in_all : text ≡ first ∷ second ∷ rest

pub two_bytes : (text : List ℕ) → (first_two (first_line text) ≡ 0 → ⊥) → TwoBytes text
unfolding first_two up_to
two_bytes [] some = absurd (some refl)
two_bytes (a ∷ []) some = elim (eqb_cases a line_feed) [
  | inl feed ↦ absurd (some (rw feed.0))
  | inr other ↦ absurd (some (rw other.0))
]
two_bytes (a ∷ b ∷ rest) some = elim (eqb_cases a line_feed) [
  | inl feed ↦ absurd (some (rw feed.0))
  | inr other ↦ elim (eqb_cases b line_feed) [
    | inl feed ↦ absurd (some (rw (other.0, feed.0)))
    | inr other' ↦ record { first = a; second = b; rest = rest; first_no_feed = other.1; second_no_feed = other'.1; in_all = refl }
  ]
]

pub line_of_two : (a b : ℕ) (rest : List ℕ) → (a ≡ line_feed → ⊥) → (b ≡ line_feed → ⊥) → first_line (a ∷ b ∷ rest) ≡ a ∷ b ∷ up_to line_feed rest
unfolding up_to
line_of_two a b rest p q = rw (ne_eqb a line_feed p, ne_eqb b line_feed q)

-- ---- What the code finds

module _ (text : List ℕ) (some : first_two (first_line text) ≡ 0 → ⊥) where
  pub behind_is : behind_mark text ≡ line_from text 2
  unfolding line_from
  behind_is = let two = two_bytes text some in rw (two.in_all, line_of_two two.first two.second two.rest two.first_no_feed two.second_no_feed)

  line_is_longer : length (first_line text) ≡ 2 + length (line_from text 2)
  unfolding line_from
  line_is_longer = let two = two_bytes text some in rw (two.in_all, line_of_two two.first two.second two.rest two.first_no_feed two.second_no_feed) (omega arith)

-- ---- Whether the line is of the form

module _ (mark : ℕ) (text : List ℕ) where
  not_marked : has_mark mark text ≡ false → of_form mark text ≡ false
  unfolding of_form
  not_marked e = rw (e, and-false (ltb (length (first_line text)) (length text)))

  pub no_mark_law : mark ≡ 0 → of_form mark text ≡ false
  no_mark_law e = not_marked (rw (eq-eqb mark 0 e))

  pub other_mark : (first_two (first_line text) ≡ mark → ⊥) → of_form mark text ≡ false
  other_mark e = not_marked (rw (ne_eqb (first_two (first_line text)) mark e) (and-false (not (eqb mark 0))))

  -- Another form is refused, and changes nothing.
  pub refused : of_form mark text ≡ false → (table : List ℕ) → (None ≡ asked_by mark text) × (table ≡ numbers_after mark text table)
  unfolding asked_by numbers_after
  refused e table = (rw e, rw e)

  module _ (is : first_two (first_line text) ≡ mark) (some : mark ≡ 0 → ⊥) where
    line_has : first_two (first_line text) ≡ 0 → ⊥
    line_has e = some (sym is ∙ e)

    form_is : of_form mark text ≡ (ltb (2 + length (line_from text 2)) (length text) && only_numbers text 2)
    unfolding of_form only_numbers
    form_is =
        let marked = eq-eqb (first_two (first_line text)) mark is in
        let ended = ltb (2 + length (line_from text 2)) (length text) in
        rw (ne_eqb mark 0 some, marked, behind_is text line_has, line_is_longer text line_has, and-true ended)

    pub answer_is : counted_from 0 text 2 ≡ asked_by mark text
    unfolding asked_by counted_from
    answer_is =
        let all : 0 + length (numbers_from text 2) ≡ length (numbers_from text 2) = omega arith in
        rw (form_is, all, behind_is text line_has, line_is_longer text line_has)

    -- What the count tells of the form.
    pub counted_only : {line : Asked} → counted_from 0 text 2 ≡ Some line → (of_form mark text ≡ true) × (only_numbers text 2 ≡ true)
    unfolding counted_from
    counted_only {line} e = go (ltb (2 + length (line_from text 2)) (length text)) (only_numbers text 2) form_is e
      where
        go : (ended only : Bool) → of_form mark text ≡ (ended && only) →
            cond (ended && only) (Some (asked (0 + length (numbers_from text 2)) (2 + length (line_from text 2) + 1))) None ≡ Some line →
            (of_form mark text ≡ true) × (only ≡ true)
        go true true form e = (form, refl)
        go true false form e = absurd (let z : ◌≡◌ {A = ℕ} 0 1 = cc in omega arith)
        go false only form e = absurd (let z : ◌≡◌ {A = ℕ} 0 1 = cc in omega arith)

    pub not_counted : counted_from 0 text 2 ≡ None → of_form mark text ≡ false
    unfolding counted_from
    not_counted e = go (ltb (2 + length (line_from text 2)) (length text) && only_numbers text 2) form_is e
      where
        go : (form : Bool) → of_form mark text ≡ form →
            cond form (Some (asked (0 + length (numbers_from text 2)) (2 + length (line_from text 2) + 1))) None ≡ None → of_form mark text ≡ false
        go true form e = absurd (let z : ◌≡◌ {A = ℕ} 0 1 = cc in omega arith)
        go false form e = form

    pub table_is : of_form mark text ≡ true → (table : List ℕ) → written (take (length table) (numbers_from text 2)) table ≡ numbers_after mark text table
    unfolding numbers_after
    table_is form table = rw (form, behind_is text line_has)
