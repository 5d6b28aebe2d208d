-- What a line of each kind comes to, from what its parts come to. The first numbers of a town and of an arc are taken one by one, and
-- what is left comes to what all of them come to.
use Prim.Native.Nat.{ℕ, suc, ◌+◌, ◌-◌, ◌<◌}
use mathlib.Core.Path.{◌≡◌, refl, sym, ap, ◌∙◌}
use mathlib.Core.Bool.{Bool, true, false, cond, ◌&&◌}
use mathlib.Core.List.{List, [], ◌∷◌}
use Rattle.std.specs.Prelude.{Option, Some, None, Result, Ok, Err}
use native.Mathlib.Omega.{arith}
use lib.Dec.{leb, ltb, eqb}
use lib.ListN.{length, get_or, take, drop}
use borrow.Author.Tests.{eq-eqb, ne_eqb, ltb-true}
use Rattle.model.specs.Limits.{max_arcs}
use Rattle.model.specs.Rules.{refused, replied, every, length_keeps_lem, speed_keeps, hold_keeps}
use Rattle.model.proofs.Rules.{true_both}
use Rattle.townfile.specs.Bytes.{line_feed, space, up_to}
use Rattle.townfile.specs.Lines.{arc_fields, town_keeps_lem, junction_keeps_lem, ends_differ, arc_keeps_lem, after_town_lem, after_junction}
use Rattle.townfile.specs.declared.progress.Progress.{Progress}
use Rattle.fields.specs.Fields.{line_from, word_from, field, field_at, printable_rest, name_at, numbers_from, filled_by}
use Rattle.fields.specs.declared.field.Field.{Field}
use Rattle.fields.proofs.LineFrom.{space_ends, word_goes_on}
use Rattle.fields.proofs.FieldsLeft.{field_read, number_goes}
use Rattle.number_rows.specs.NumbersRead.{numbers_read, row_keeps}
use Rattle.refusals.specs.declared.refusal.Refusal.{Refusal}
use Rattle.refusals.specs.declared.refusal.Refusal.TheVariants.{FieldForm, FieldValue}
use Rattle.number_rows.proofs.NumbersLeft.{numbers_same, kept_outside, refused_outside}
use Rattle.number_rows.proofs.NumberLoops.{Left, all_left, left_malformed, left_taken, left_decides}
use Rattle.reading.specs.LineSteps.{step}
use Rattle.reading.specs.Code.Kinds.{of_numbers_lem, in_turn_only, town_step, arc_fits_lem, with_name, with_junction, junction_step, of_comment, comment_step}

-- ---- A line of numbers

-- In its turn it comes to what its numbers come to.
pub numbers_in_turn : (turn : Bool) (next : Progress) {numbers all : Result ℕ Refusal} → turn ≡ true → numbers ≡ all →
    of_numbers_lem numbers next ≡ in_turn_only turn (of_numbers_lem all next)
numbers_in_turn turn next t e = rw t (ap (λ n. of_numbers_lem n next) e)

-- ---- The town

module _ (p : Progress) (held : Bool) (text : List ℕ) (at : ℕ) (turn : p.turn ≡ 0) where
  town_in_turn : {numbers : Result ℕ Refusal} → numbers ≡ numbers_read town_keeps_lem 2 text at →
      of_numbers_lem numbers (after_town_lem p held (numbers_from text at)) ≡ town_step p held text at
  unfolding town_step
  town_in_turn e = numbers_in_turn (eqb p.turn 0) (after_town_lem p held (numbers_from text at)) (eq-eqb p.turn 0 turn) e

  none_taken : Left town_keeps_lem text at 2 true town_keeps_lem 0 at
  none_taken = all_left town_keeps_lem text at 2

  pub town_no_first : field_at text at ≡ None → refused 25 ≡ town_step p held text at
  town_no_first e = town_in_turn (left_malformed none_taken (omega arith) e)

  module _ {junctions second : ℕ} (first : field_at text at ≡ Some (field junctions second)) where
    first_taken : Left town_keeps_lem text at 2 true (λ numbers. town_keeps_lem (junctions ∷ numbers)) 1 second
    first_taken = left_taken none_taken (omega arith) first

    pub town_no_second : field_at text second ≡ None → refused 25 ≡ town_step p held text at
    town_no_second e = town_in_turn (left_malformed first_taken (omega arith) e)

    module _ {intervals end : ℕ} (then : field_at text second ≡ Some (field intervals end)) where
      numbers_are : numbers_from text at ≡ junctions ∷ intervals ∷ numbers_from text end
      numbers_are = rw (number_goes text at junctions second (field_read text at first), number_goes text second intervals end (field_read text second then))

      pub town_numbers : {numbers : Result ℕ Refusal} {keeps : Bool} → keeps ≡ town_keeps_lem (junctions ∷ intervals ∷ []) → numbers ≡ numbers_read (λ all. keeps) 0 text end →
          of_numbers_lem numbers (after_town_lem p held (junctions ∷ intervals ∷ [])) ≡ town_step p held text at
      town_numbers {numbers} k n =
          let all = left_decides (left_taken first_taken (omega arith) then) (omega arith) k in
          ap (λ read. of_numbers_lem numbers (after_town_lem p held read)) (sym numbers_are) ∙ town_in_turn (n ∙ all)

-- ---- The numbers of an arc

-- What an arc asks beside its row, and the row.
fits_and_row : (ends metres speeds hold arcs : Bool) → ((ends && metres && arcs) && (speeds && hold)) ≡ (ends && metres && speeds && hold && arcs)
fits_and_row false metres speeds hold arcs = refl
fits_and_row true false speeds hold arcs = refl
fits_and_row true true false hold true = refl
fits_and_row true true false hold false = refl
fits_and_row true true true true true = refl
fits_and_row true true true true false = refl
fits_and_row true true true false true = refl
fits_and_row true true true false false = refl

module _ (p : Progress) (text : List ℕ) (at : ℕ) where
  abbrev asked : Result ℕ Refusal
  asked = numbers_read (arc_keeps_lem p) (arc_fields p) text at

  -- What is left behind the first numbers.
  abbrev ArcLeft : (List ℕ → List ℕ) → ℕ → ℕ → Type 0
  ArcLeft behind k i = Left (arc_keeps_lem p) text at (arc_fields p) true (λ numbers. arc_keeps_lem p (behind numbers)) k i

  nothing_taken : ArcLeft (λ numbers. numbers) 0 at
  nothing_taken = all_left (arc_keeps_lem p) text at (arc_fields p)

  pub arc_no_tail : field_at text at ≡ None → Err FieldForm ≡ asked
  arc_no_tail e = left_malformed nothing_taken (omega arith) e

  module _ {tail second : ℕ} (first : field_at text at ≡ Some (field tail second)) where
    tail_taken : ArcLeft (λ numbers. tail ∷ numbers) 1 second
    tail_taken = left_taken nothing_taken (omega arith) first

    pub arc_no_head : field_at text second ≡ None → Err FieldForm ≡ asked
    arc_no_head e = left_malformed tail_taken (omega arith) e

    module _ {head third : ℕ} (then : field_at text second ≡ Some (field head third)) where
      head_taken : ArcLeft (λ numbers. tail ∷ head ∷ numbers) 2 third
      head_taken = left_taken tail_taken (omega arith) then

      pub arc_no_metres : field_at text third ≡ None → Err FieldForm ≡ asked
      arc_no_metres e = left_malformed head_taken (omega arith) e

      module _ {metres fourth : ℕ} (last : field_at text third ≡ Some (field metres fourth)) where
        metres_taken : ArcLeft (λ numbers. tail ∷ head ∷ metres ∷ numbers) 3 fourth
        metres_taken = left_taken head_taken (omega arith) last

        abbrev left : ℕ
        left = p.intervals + cond p.held 1 0

        -- The row is read with a flag for what stands before it.
        arc_numbers : {fits : Bool} → fits ≡ arc_fits_lem p tail head metres → numbers_read (λ numbers. fits && row_keeps p.intervals numbers) left text fourth ≡ asked
        arc_numbers f =
            let rest = numbers_from text fourth in
            let beside = arc_fits_lem p tail head metres in
            let keeps : List ℕ → Bool = λ numbers. arc_keeps_lem p (tail ∷ head ∷ metres ∷ numbers) in
            let count : arc_fields p - 3 ≡ left = omega arith in
            let same : (beside && row_keeps p.intervals rest) ≡ keeps rest =
            fits_and_row (ends_differ p.junctions tail head) (length_keeps_lem metres) (every speed_keeps (take p.intervals rest))
            (hold_keeps (get_or rest p.intervals 0)) (ltb p.arcs max_arcs) in
            rw f
            (numbers_same (λ numbers. beside && row_keeps p.intervals numbers) keeps left text fourth same
            ∙ ap (λ some. numbers_read keeps some text fourth) (sym count)
            ∙ metres_taken.same)

        pub arc_fitted : true ≡ arc_fits_lem p tail head metres → {row : Result ℕ Refusal} → row ≡ numbers_read (row_keeps p.intervals) left text fourth → row ≡ asked
        arc_fitted f r = r ∙ arc_numbers f

        module _ (unfit : false ≡ arc_fits_lem p tail head metres) where
          pub arc_outside : {end : ℕ} → Ok end ≡ numbers_read (row_keeps p.intervals) left text fourth → Err FieldValue ≡ asked
          arc_outside r = kept_outside (row_keeps p.intervals) left text fourth r ∙ arc_numbers unfit

          pub arc_refused : {refusal : Refusal} → Err refusal ≡ numbers_read (row_keeps p.intervals) left text fourth → Err refusal ≡ asked
          arc_refused r = refused_outside (row_keeps p.intervals) left text fourth r ∙ arc_numbers unfit

  -- An arc within the limits is not the 641st.
  pub arc_counted : {end : ℕ} → Ok end ≡ asked → p.arcs < max_arcs
  unfolding numbers_read
  arc_counted {end} e =
      let numbers = numbers_from text at in
      let ends = ends_differ p.junctions (get_or numbers 0 0) (get_or numbers 1 0) && length_keeps_lem (get_or numbers 2 0) in
      let others = ends && every speed_keeps (take p.intervals (drop 3 numbers)) && hold_keeps (get_or (drop 3 numbers) p.intervals 0) in
      ltb-true p.arcs max_arcs (true_both others (ltb p.arcs max_arcs) (go (filled_by (arc_fields p) text at) (arc_keeps_lem p numbers) e)).1
    where
      go : (filled fits : Bool) → Ok end ≡ cond filled (cond fits (Ok (at + length (line_from text at))) (Err FieldValue)) (Err FieldForm) → fits ≡ true
      go true true e = refl
      go true false e = absurd (let z : ◌≡◌ {A = ℕ} 0 1 = cc in omega arith)
      go false fits e = absurd (let z : ◌≡◌ {A = ℕ} 0 1 = cc in omega arith)

-- ---- A junction

-- One that is kept is below the count.
pub junction_below : (p : Progress) (junction : ℕ) → junction_keeps_lem p junction ≡ true → junction < p.junctions
junction_below p junction k = ltb-true junction p.junctions (true_both (ltb junction p.junctions) (leb p.unnamed junction) k).0

module _ (p : Progress) (text : List ℕ) (at : ℕ) where
  module _ (turn : p.turn ≡ 2) where
    pub junction_in_turn : {number : Option Field} → number ≡ field_at text at → with_junction p text number ≡ junction_step p text at
    unfolding junction_step
    junction_in_turn e = rw (eq-eqb p.turn 2 turn) (ap (with_junction p text) e)

    module _ {junction next : ℕ} (number : Some (field junction next) ≡ field_at text at) where
      pub junction_with_name : {name : Option ℕ} → name ≡ name_at text next → with_name p junction name ≡ junction_step p text at
      junction_with_name n = ap (with_name p junction) n ∙ junction_in_turn number

      module _ {end : ℕ} (name : Some end ≡ name_at text next) where
        pub junction_outside : junction_keeps_lem p junction ≡ false → refused 26 ≡ junction_step p text at
        junction_outside k = (let outside : refused 26 ≡ with_name p junction (Some end) = rw k in outside ∙ junction_with_name name)

        pub junction_named : junction_keeps_lem p junction ≡ true → replied (step (after_junction p junction) end) ≡ junction_step p text at
        junction_named k =
            let inside : replied (step (after_junction p junction) end) ≡ with_name p junction (Some end) = rw k in
            inside ∙ junction_with_name name

  -- ---- A comment

  pub comment_ends : line_from text at ≡ [] → replied (step p at) ≡ comment_step p text at
  unfolding comment_step up_to
  comment_ends e = rw e (ap (λ end. replied (step p end)) (omega arith))

  pub comment_attached : at < length text → (get_or text at 0 ≡ line_feed → ⊥) → (get_or text at 0 ≡ space → ⊥) → refused 25 ≡ comment_step p text at
  unfolding comment_step
  comment_attached h f s = rw (word_goes_on text at h f s, ne_eqb (suc (length (word_from text (at + 1)))) 0 (λ e. omega arith))

  pub comment_behind_gap : at < length text → get_or text at 0 ≡ space → {bytes : Option ℕ} → bytes ≡ printable_rest text at → of_comment p bytes ≡ comment_step p text at
  unfolding comment_step
  comment_behind_gap h s e = rw (space_ends text at h s) (ap (of_comment p) e)
