-- The place of a name: line by line, the place that the lines from here on give is the whole text's. A line of the right form has its
-- number behind the mark's space and its name behind the number's, and every line of a text without fault has that form.
use Prim.Native.Nat.{ℕ, suc, ◌+◌, ◌-◌, ◌≤◌, ◌<◌}
use mathlib.Core.Path.{◌≡◌, refl, sym, ap, ◌∙◌}
use mathlib.Core.Bool.{Bool, true, false, cond, ◌&&◌}
use mathlib.Core.Logic.{inl, inr}
use mathlib.Core.List.{List, [], ◌∷◌}
use native.Mathlib.Omega.{arith}
use lib.Dec.{ltb, eqb}
use lib.ListN.{length, get_or, drop, drop_of_length-le, length-drop}
use borrow.Author.Tests.{not-false, eqb-true, eq-eqb, ne_eqb}
use Rattle.model.specs.Rules.{Outcome, refused, replied}
use Rattle.model.proofs.Rules.{true_both, replies_kept}
use Rattle.model.proofs.Tests.{ltb_cases}
use Rattle.townfile.specs.Bytes.{line_feed, space, up_to, pieces}
use Rattle.townfile.specs.Numbers.{decimal, number_keeps}
use Rattle.townfile.specs.Lines.{mark_jn, first_two, mark_of, mark_alone, number_field, name_field, name_keeps, form_keeps, line_rules, line_read, line_answer}
use Rattle.townfile.specs.Grammar.{Each}
use Rattle.townfile.specs.FirstFault.{refused_at, accepted, start, onward, lines_from, first_fault}
use Rattle.townfile.specs.Name.{part, names_it, place_among, name_place_lem}
use Rattle.townfile.specs.declared.progress.Progress.{Progress}
use Rattle.townfile.proofs.NameForm.{keeps_name}
use Rattle.fields.specs.Fields.{line_from, word_from, field, field_at}
use Rattle.naming.specs.Code.Naming.{LineNames, name_start_lem}
use Rattle.std.specs.Prelude.{Some, None}
use Rattle.fields.proofs.LineFrom.{line_later, up_to_behind}
use Rattle.fields.proofs.FieldsLeft.{no_word}
use Rattle.scanning.proofs.RestLines.{lines_behind, next_lines, last_line}

-- ---- A text without fault

empty_names : LineNames []
unfolding mark_of first_two
empty_names = record { alone = λ e. absurd (omega arith); number = λ e. absurd (omega arith); name = λ e. absurd (omega arith) }

form_names : (p : Progress) (line : List ℕ) → form_keeps p line ≡ true → LineNames line
unfolding form_keeps
form_names p line e = record { alone = λ is. (parts is).0; number = λ is. (parts is).1.0; name = λ is. (parts is).1.1 }
  where
    parts : mark_of line ≡ mark_jn → (mark_alone line ≡ true) × ((number_keeps (number_field line) ≡ true) × (name_keeps (name_field line) ≡ true))
    parts is =
        let both = true_both (mark_alone line) (number_keeps (number_field line) && name_keeps (name_field line)) (rw is at e) in
        (both.0, true_both (number_keeps (number_field line)) (name_keeps (name_field line)) both.1)

lines_name : (p q : Progress) (number : ℕ) (lines : List (List ℕ)) → lines_from p number lines ≡ accepted q → Each LineNames lines
unfolding lines_from Each line_answer
lines_name p q number [] e = tt
lines_name p q number ([] ∷ []) e = (empty_names, tt)
lines_name p q number ((byte ∷ behind) ∷ []) e =
    let more : eqb (length (byte ∷ behind)) 0 ≡ false = ne_eqb (length (byte ∷ behind)) 0 (λ z. omega arith) in
    let refusal : refused_at 21 number ≡ accepted q = rw more at e in
    absurd (let z : ◌≡◌ {A = ℕ} 0 1 = cc in omega arith)
lines_name p q number (line ∷ next ∷ lines) e = go (line_answer p line) refl (λ q'. lines_name q' q (suc number) (next ∷ lines)) e
  where
    go : (answer : Outcome Progress) → line_answer p line ≡ answer → ((q' : Progress) → lines_from q' (suc number) (next ∷ lines) ≡ accepted q → Each LineNames (next ∷ lines)) →
        onward answer number (λ q'. lines_from q' (suc number) (next ∷ lines)) ≡ accepted q → LineNames line × Each LineNames (next ∷ lines)
    go (refused fault) a later e = absurd (let z : ◌≡◌ {A = ℕ} 0 1 = cc in omega arith)
    go (replied q') a later e =
        let (_, (_, (_, (form, _)))) = replies_kept (line_rules p line) (line_read p line) q' a in
        (form_names p line (not-false (form_keeps p line) form), later q' e)

pub accepted_names : (text : List ℕ) (p : Progress) → first_fault text ≡ accepted p → Each LineNames (pieces line_feed text)
unfolding first_fault
accepted_names text p e = go (ltb 65536 (length text)) e
  where
    go : (long : Bool) → cond long (refused_at 20 0) (lines_from start 1 (pieces line_feed text)) ≡ accepted p → Each LineNames (pieces line_feed text)
    go true e = absurd (let z : ◌≡◌ {A = ℕ} 0 1 = cc in omega arith)
    go false e = lines_name start p 1 (pieces line_feed text) e

-- ---- A line that names a junction

module _ (text : List ℕ) (at : ℕ) (named : LineNames (line_from text at)) (is : mark_of (line_from text at) ≡ mark_jn) where
  -- The name begins inside the line.
  pub name_begins : length (number_field (line_from text at)) + 4 < length (line_from text at)
  name_begins = omega (arith, (keeps_name (name_field (line_from text at)) (named.name is)).some_byte, length-drop (length (number_field (line_from text at)) + 4) (line_from text at))

  gap_behind : eqb (get_or (line_from text (at + 2)) 0 0) space ≡ true
  gap_behind =
      let line : List ℕ = line_from text at in
      let two : length (up_to space line) ≡ 2 = eqb-true (length (up_to space line)) 2 (named.alone is) in
      let behind : line_from text (at + 2) ≡ drop 2 line = line_later text at 2 (omega (arith, name_begins)) in
      let none : word_from text (at + 2) ≡ [] = ap (up_to space) behind ∙ ap (λ k. up_to space (drop k line)) (sym two) ∙ up_to_behind space line in
      elim (no_word text (at + 2) (rw none)) [
        | inl ended ↦ absurd (omega (arith, name_begins, length-drop 2 line, ap length behind, ap length ended))
        | inr gap ↦ gap
      ]

  -- Its number is the field behind the mark.
  number_field_law : field_at text (at + 2) ≡ Some (field (decimal (number_field (line_from text at))) (at + 2 + 1 + length (number_field (line_from text at))))
  unfolding field_at
  number_field_law =
      let behind : line_from text (at + 2 + 1) ≡ drop 3 (line_from text at) = ap (line_from text) (omega arith) ∙ line_later text at 3 (omega (arith, name_begins)) in
      rw (gap_behind, behind, named.number is)

  pub field_not_malformed : field_at text (at + 2) ≡ None → ⊥
  field_not_malformed e = let z : ◌≡◌ {A = ℕ} 0 1 = cc number_field_law in omega arith

  module _ {value next : ℕ} (e : field_at text (at + 2) ≡ Some (field value next)) where
    field_is : field (decimal (number_field (line_from text at))) (at + 2 + 1 + length (number_field (line_from text at))) ≡ field value next
    field_is = cc number_field_law

    value_is : decimal (number_field (line_from text at)) ≡ value
    value_is = ap (λ read. read.value) field_is

    pub next_is : at + 2 + 1 + length (number_field (line_from text at)) ≡ next
    next_is = ap (λ read. read.next) field_is

    pub other_junction : (junction : ℕ) → (value ≡ junction → ⊥) → None ≡ name_start_lem text at junction
    unfolding name_start_lem
    other_junction junction other = rw (eq-eqb (mark_of (line_from text at)) mark_jn is, value_is, ne_eqb value junction other)

    pub this_junction : (junction : ℕ) → value ≡ junction → Some (next + 1) ≡ name_start_lem text at junction
    unfolding name_start_lem
    this_junction junction same = rw (eq-eqb (mark_of (line_from text at)) mark_jn is, value_is, eq-eqb value junction same) (ap Some (omega (arith, next_is)))

pub other_mark : (text : List ℕ) (at junction : ℕ) → (mark_of (line_from text at) ≡ mark_jn → ⊥) → None ≡ name_start_lem text at junction
unfolding name_start_lem
other_mark text at junction other = rw (ne_eqb (mark_of (line_from text at)) mark_jn other)

-- ---- What an answer tells

module _ (text : List ℕ) (at junction : ℕ) where
  start_other : name_start_lem text at junction ≡ None → names_it junction (line_from text at) ≡ false
  unfolding name_start_lem
  start_other e = go (names_it junction (line_from text at)) e
    where
      go : (named : Bool) → cond named (Some (at + (length (number_field (line_from text at)) + 4))) None ≡ None → named ≡ false
      go true e = absurd (let z : ◌≡◌ {A = ℕ} 0 1 = cc in omega arith)
      go false e = refl

  start_at : {from : ℕ} → name_start_lem text at junction ≡ Some from → (names_it junction (line_from text at) ≡ true) × (at + (length (number_field (line_from text at)) + 4) ≡ from)
  unfolding name_start_lem
  start_at {from} e = go (names_it junction (line_from text at)) e
    where
      go : (named : Bool) → cond named (Some (at + (length (number_field (line_from text at)) + 4))) None ≡ Some from →
          (named ≡ true) × (at + (length (number_field (line_from text at)) + 4) ≡ from)
      go true e = (refl, cc)
      go false e = absurd (let z : ◌≡◌ {A = ℕ} 0 1 = cc in omega arith)

-- ---- The lines from a place on

-- The place that the lines from here on give is the one that the text gives.
pub record NamesLeft (text : List ℕ) (junction at : ℕ) : Type 0 where
  pub lines_named : Each LineNames (pieces line_feed (drop at text))
  pub same_place : place_among junction at (pieces line_feed (drop at text)) ≡ place_among junction 0 (pieces line_feed text)

same_part : {a b m n : ℕ} → a ≡ b → m ≡ n → part a m ≡ part b n
same_part e f = cc

module _ {text : List ℕ} {junction at : ℕ} (left : NamesLeft text junction at) where
  pub line_named : LineNames (line_from text at)
  unfolding Each
  line_named = (rw (lines_behind text at) at left.lines_named).0

  pub none_left : length text ≤ at → part 0 0 ≡ place_among junction 0 (pieces line_feed text)
  unfolding pieces place_among mark_of first_two
  none_left h = rw (drop_of_length-le text h) at left.same_place

  module _ {end : ℕ} (ends : end ≡ at + length (line_from text at)) where
    pub line_passed : name_start_lem text at junction ≡ None → NamesLeft text junction (end + 1)
    unfolding Each pieces place_among mark_of first_two
    line_passed e =
        let other : names_it junction (line_from text at) ≡ false = start_other text at junction e in
        elim (ltb_cases end (length text)) [
          | inl inside ↦
              (let next : pieces line_feed (drop at text) ≡ line_from text at ∷ pieces line_feed (drop (end + 1) text) = rw ends (next_lines text at (rw ends at inside.1)) in
              record { lines_named = (rw next at left.lines_named).1; same_place = rw (next, other, ← ends) at left.same_place })
          | inr past ↦
              (let none : drop (end + 1) text ≡ [] = drop_of_length-le text {i = end + 1} (omega (arith, past.1)) in
              record { lines_named = rw none (empty_names, tt); same_place = rw none (rw (last_line text at (rw ends at past.1), other) at left.same_place) })
        ]

    module _ {from : ℕ} (e : name_start_lem text at junction ≡ Some from) where
      begins : length (number_field (line_from text at)) + 4 < length (line_from text at)
      begins =
          let line : List ℕ = line_from text at in
          let has-mark = (true_both (eqb (mark_of line) mark_jn) (eqb (decimal (number_field line)) junction) (start_at text at junction e).0).0 in
          name_begins text at line_named (eqb-true (mark_of line) mark_jn has-mark)

      pub starts_inside : from ≤ end
      starts_inside = omega (arith, (start_at text at junction e).1, begins)

      pub name_found : part from (end - from) ≡ place_among junction 0 (pieces line_feed text)
      unfolding place_among
      name_found =
          let line : List ℕ = line_from text at in
          let found = start_at text at junction e in
          let long = length-drop (length (number_field line) + 4) line in
          let starts : from ≡ at + (length line - length (name_field line)) = omega (arith, found.1, begins, long) in
          let size : end - from ≡ length (name_field line) = omega (arith, found.1, begins, long) in
          same_part starts size ∙ rw (lines_behind text at, found.0) at left.same_place

-- ---- What the scan decides

module _ (text : List ℕ) (junction : ℕ) where
  pub refused_nowhere : {number line : ℕ} → refused_at number line ≡ first_fault text → part 0 0 ≡ name_place_lem text junction
  unfolding name_place_lem
  refused_nowhere e = rw (sym e)

  pub accepted_somewhere : {p : Progress} → accepted p ≡ first_fault text → place_among junction 0 (pieces line_feed text) ≡ name_place_lem text junction
  unfolding name_place_lem
  accepted_somewhere e = rw (sym e)
