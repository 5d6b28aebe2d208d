-- A whole line by its mark: what the line's rules say of it is what its kind comes to behind the mark.
use Prim.Native.Nat.{ℕ, ◌+◌, ◌≤◌}
use mathlib.Core.Path.{◌≡◌, refl, sym, ap, ◌∙◌}
use mathlib.Core.Bool.{Bool, true, false, cond, not, ◌&&◌}
use mathlib.Core.Logic.{inl, inr}
use mathlib.Core.List.{List, []}
use Rattle.std.specs.Prelude.{Option, Some, None, Ok, Err}
use native.Mathlib.Omega.{arith}
use lib.Dec.{leb, eqb}
use lib.ListN.{length, get_or, drop, drop_of_length-le}
use borrow.Author.Tests.{ne_eqb}
use Rattle.model.specs.Rules.{Outcome, refused, replied, first_broken, every, fences_keep_lem}
use Rattle.townfile.specs.Bytes.{space, printable, up_to}
use Rattle.townfile.specs.Numbers.{decimal, number_keeps}
use Rattle.townfile.specs.Lines.{mark_tn, mark_fn, mark_jn, mark_ar, mark_cm, mark_of, mark_alone, numbers_of, numbers_keep, number_field, name_field, name_keeps, begins_held, arc_fields}
use Rattle.townfile.specs.Lines.{form_keeps, values_keep, town_keeps_lem, junction_keeps_lem, arc_keeps_lem, after_town_lem, after_fences_lem, after_junction, after_arc_lem, line_read}
use Rattle.townfile.specs.declared.progress.Progress.{Progress}
use Rattle.fields.specs.Fields.{line_from, word_from, field, field_at, fields_from, numbers_from}
use Rattle.reading.specs.LineSteps.{step, step_of_line}
use Rattle.number_rows.specs.NumbersRead.{numbers_read}
use Rattle.reading.specs.Code.Kinds.{of_numbers_lem, in_turn_only, with_name, with_junction, of_comment, town_step, fences_step, junction_step, arc_step, comment_step}
use Rattle.fields.specs.Fields.{name_at}
use Rattle.fields.specs.declared.field.Field.{Field}
use Rattle.refusals.specs.declared.refusal.Refusal.TheVariants.{FieldForm, FieldValue}
use Rattle.reading.specs.declared.line.LineRead.{LineRead}
use Rattle.fields.proofs.BehindMark.{BehindMark}
use Rattle.fields.proofs.LineFrom.{line_later}
use Rattle.fields.proofs.FieldsLeft.{FieldRead, field_read, field_not_read, gap_line, no_word, word_gone, word_behind, end_behind}

-- The rules from 24 on, one after the other.
abbrev asked : Bool → Bool → Bool → LineRead → Outcome LineRead
asked turn form values reply = cond (not turn) (refused 24) (cond (not form) (refused 25) (cond (not values) (refused 26) (replied reply)))

numbers_asked : (turn a b c values : Bool) (p : Progress) (end : ℕ) →
    in_turn_only turn (of_numbers_lem (cond (a && b && c) (cond values (Ok end) (Err FieldValue)) (Err FieldForm)) p) ≡ asked turn (a && (b && c)) values (step p end)
numbers_asked false a b c values p end = refl
numbers_asked true false b c values p end = refl
numbers_asked true true false c values p end = refl
numbers_asked true true true false values p end = refl
numbers_asked true true true true false p end = refl
numbers_asked true true true true true p end = refl

comment_asked : (p : Progress) (alone all : Bool) (end : ℕ) →
    cond alone (of_comment p (cond all (Some end) None)) (refused 25) ≡ cond (not (alone && all)) (refused 25) (replied (step p end))
comment_asked p false all end = refl
comment_asked p true false end = refl
comment_asked p true true end = refl

name_asked : (p : Progress) (junction : ℕ) (kept : Bool) (end : ℕ) →
    with_name p junction (cond kept (Some end) None) ≡ asked true kept (junction_keeps_lem p junction) (step (after_junction p junction) end)
name_asked p junction false end = refl
name_asked p junction true end = go (junction_keeps_lem p junction)
  where
    reply : LineRead
    reply = step (after_junction p junction) end

    go : (keeps : Bool) → cond keeps (replied reply) (refused 26) ≡ cond (not keeps) (refused 26) (replied reply)
    go true = refl
    go false = refl

-- ---- A junction's line

module _ (p : Progress) (text : List ℕ) (at : ℕ) (behind : BehindMark text at) where
  abbrev whole : List ℕ
  whole = line_from text at

  -- Its form, its number, and what it adds.
  abbrev form : Bool
  form = mark_alone whole && (number_keeps (number_field whole) && name_keeps (name_field whole))

  abbrev number : ℕ
  number = decimal (number_field whole)

  abbrev added : LineRead
  added = step (after_junction p number) (at + length whole)

  -- The number's bytes stand behind the space.
  number_is : eqb (get_or (line_from text (at + 2)) 0 0) space ≡ true → number_field whole ≡ word_from text (at + 2 + 1)
  number_is gap = ap (λ bytes. up_to space (drop 3 bytes)) behind.line_is ∙ ap (λ bytes. up_to space (drop 1 bytes)) (gap_line text (at + 2) gap)

  module _ {junction next : ℕ} (r : FieldRead text (at + 2) junction next) where
    alone : mark_alone whole ≡ true
    alone = behind.alone_is ∙ rw (word_gone text (at + 2) junction next r)

    number_keeps_law : number_keeps (number_field whole) ≡ true
    number_keeps_law = ap number_keeps (number_is r.gap) ∙ r.form

    value_is : number ≡ junction
    value_is = ap decimal (number_is r.gap) ∙ r.number

    ends_at : next + length (line_from text next) ≡ at + length whole
    ends_at = end_behind text (at + 2) junction next r ∙ omega (arith, ap length behind.line_is)

    next_is : at + (length (number_field whole) + 4) ≡ next + 1
    next_is = omega (arith, ap length (number_is r.gap), r.behind)

    name_there : eqb (get_or (line_from text next) 0 0) space ≡ true → name_field whole ≡ line_from text (next + 1)
    name_there gap =
        let inside : length (number_field whole) + 4 ≤ length whole = omega (arith, ends_at, next_is, ap length (gap_line text next gap)) in
        sym (line_later text at (length (number_field whole) + 4) inside) ∙ ap (line_from text) next_is

    name_missing : line_from text next ≡ [] → name_field whole ≡ []
    name_missing e =
        let past : length whole ≤ length (number_field whole) + 4 = omega (arith, ends_at, next_is, ap length e) in
        drop_of_length-le whole past

    -- With that number, what a name and an end of the line come to.
    abbrev with_name_law : Bool → ℕ → Outcome LineRead
    with_name_law kept end = asked true kept (junction_keeps_lem p junction) (step (after_junction p junction) end)

    named : with_name p junction (name_at text next) ≡ with_name_law (name_keeps (name_field whole)) (at + length whole)
    unfolding name_keeps
    named = go (eqb (get_or (line_from text next) 0 0) space) refl
      where
        go : (gap : Bool) → eqb (get_or (line_from text next) 0 0) space ≡ gap → with_name p junction (name_at text next) ≡ with_name_law (name_keeps (name_field whole)) (at + length whole)
        go true gap =
            let name = line_from text (next + 1) in
            let end : next + 1 + length name ≡ at + length whole = omega (arith, ends_at, ap length (gap_line text next gap)) in
            rw (gap, name_there gap) (name_asked p junction (name_keeps name) (next + 1 + length name) ∙ ap (with_name_law (name_keeps name)) end)
        go false gap = elim (no_word text next (rw (word_behind text (at + 2) junction next r))) [
          | inl empty ↦ rw (gap, name_missing empty)
          | inr space ↦ absurd (let z : ◌≡◌ {A = ℕ} 0 1 = cc in omega arith)
        ]

    read_asked : with_junction p text (Some (field junction next)) ≡ asked true form (junction_keeps_lem p number) added
    read_asked = rw (alone, number_keeps_law, value_is) named

  -- No number behind a space: the line is not of the form.
  not_of_form : field_at text (at + 2) ≡ None → form ≡ false
  unfolding number_keeps up_to
  not_of_form e = go (mark_alone whole) refl
    where
      go : (alone : Bool) → mark_alone whole ≡ alone → (alone && (number_keeps (number_field whole) && name_keeps (name_field whole))) ≡ false
      go false a = refl
      go true a = elim (no_word text (at + 2) (sym behind.alone_is ∙ a)) [
        | inl empty ↦ rw (ap (drop 3) behind.line_is, empty)
        | inr gap ↦ rw (number_is gap, rw gap at (field_not_read text (at + 2) e))
      ]

  junction_asked : (turn : Bool) → in_turn_only turn (with_junction p text (field_at text (at + 2))) ≡ asked turn form (junction_keeps_lem p number) added
  junction_asked false = refl
  junction_asked true = go (field_at text (at + 2)) refl
    where
      go : (f : Option Field) → field_at text (at + 2) ≡ f → with_junction p text f ≡ asked true form (junction_keeps_lem p number) added
      go (Some number) e = read_asked (field_read text (at + 2) e)
      go None e = rw (not_of_form e)

-- ---- Any line

module _ (p : Progress) (text : List ℕ) (at : ℕ) where
  abbrev line : List ℕ
  line = line_from text at

  module _ (behind : BehindMark text at) where
    end_is : at + length line ≡ at + 2 + length (line_from text (at + 2))
    end_is = omega (arith, ap length behind.line_is)

    -- A line of numbers.
    numbers_line : (turn : Bool) (count : ℕ) (test : List ℕ → Bool) (next : List ℕ → Progress) →
        in_turn_only turn (of_numbers_lem (numbers_read test count text (at + 2)) (next (numbers_from text (at + 2)))) ≡
        asked turn (mark_alone line && numbers_keep count line) (test (numbers_of line)) (step (next (numbers_of line)) (at + length line))
    unfolding numbers_read
    numbers_line turn count test next =
        let ended = eqb (length (word_from text (at + 2))) 0 in
        let fields = fields_from text (at + 2) in
        let numbers = numbers_from text (at + 2) in
        let end = at + 2 + length (line_from text (at + 2)) in
        rw (behind.fields_are, behind.alone_is, end_is)
        (numbers_asked turn ended (every number_keeps fields) (eqb (length fields) count) (test numbers) (next numbers) end)

  pub town_line_is : (held : Bool) → BehindMark text at → mark_of line ≡ mark_tn → begins_held line ≡ held → town_step p held text (at + 2) ≡ step_of_line p text at
  unfolding town_step step_of_line first_broken form_keeps values_keep line_read
  town_line_is held behind mark begins = rw (mark, begins) (numbers_line behind (eqb p.turn 0) 2 town_keeps_lem (after_town_lem p held))

  pub fences_line_is : BehindMark text at → mark_of line ≡ mark_fn → fences_step p text (at + 2) ≡ step_of_line p text at
  unfolding fences_step step_of_line first_broken form_keeps values_keep line_read
  fences_line_is behind mark = rw mark (numbers_line behind (eqb p.turn 1) p.intervals fences_keep_lem (λ numbers. after_fences_lem p))

  pub arc_line_is : BehindMark text at → mark_of line ≡ mark_ar → arc_step p text (at + 2) ≡ step_of_line p text at
  unfolding arc_step step_of_line first_broken form_keeps values_keep line_read
  arc_line_is behind mark = rw mark (numbers_line behind (leb 2 p.turn) (arc_fields p) (arc_keeps_lem p) (λ numbers. after_arc_lem p))

  pub comment_line_is : BehindMark text at → mark_of line ≡ mark_cm → comment_step p text (at + 2) ≡ step_of_line p text at
  unfolding comment_step step_of_line first_broken form_keeps values_keep line_read
  comment_line_is behind mark =
      rw (mark, behind.alone_is, ap (drop 2) behind.line_is, end_is behind)
      (comment_asked p (eqb (length (word_from text (at + 2))) 0) (every printable (line_from text (at + 2))) (at + 2 + length (line_from text (at + 2))))

  pub junction_line_is : BehindMark text at → mark_of line ≡ mark_jn → junction_step p text (at + 2) ≡ step_of_line p text at
  unfolding junction_step step_of_line first_broken form_keeps values_keep line_read
  junction_line_is behind mark = rw mark (junction_asked p text at behind (eqb p.turn 2))

  pub no_line_is : (mark_of line ≡ mark_tn → ⊥) → (mark_of line ≡ mark_fn → ⊥) → (mark_of line ≡ mark_jn → ⊥) → (mark_of line ≡ mark_ar → ⊥) →
      (mark_of line ≡ mark_cm → ⊥) → refused 23 ≡ step_of_line p text at
  unfolding step_of_line first_broken
  no_line_is t f j a c =
      let mark = mark_of line in
      rw (ne_eqb mark mark_tn t, ne_eqb mark mark_fn f, ne_eqb mark mark_jn j, ne_eqb mark mark_ar a, ne_eqb mark mark_cm c)
