-- The numbers that fill the rest of a line, one field after another: a number is taken from the list, and behind the last one the
-- line ends.
use Prim.Native.Nat.{ℕ, suc, ◌+◌}
use mathlib.Core.Path.{◌≡◌, refl, ap}
use mathlib.Core.Bool.{Bool, true, false, cond}
use mathlib.Core.List.{List, ◌∷◌}
use Rattle.std.specs.Prelude.{None, Result, Ok, Err}
use native.Mathlib.Omega.{arith}
use lib.Dec.{eqb, eqb-suc-suc}
use lib.ListN.{length}
use Rattle.townfile.specs.Bytes.{up_to, pieces}
use Rattle.fields.specs.Fields.{line_from, field_at, fields_from, numbers_from, filled_by}
use Rattle.fields.proofs.FieldsLeft.{FieldRead, field_not_read, field_goes, word_gone, word_behind, end_behind, no_bytes, unfilled_without_field, unfilled_before_end}
use Rattle.number_rows.specs.NumbersRead.{numbers_read}
use Rattle.refusals.specs.declared.refusal.Refusal.{Refusal}
use Rattle.refusals.specs.declared.refusal.Refusal.TheVariants.{FieldForm, FieldValue}

pub numbers_go_on : (text : List ℕ) (at value next : ℕ) → FieldRead text at value next → (test : List ℕ → Bool) (count : ℕ) →
    numbers_read test (suc count) text at ≡ numbers_read (λ numbers. test (value ∷ numbers)) count text next
unfolding numbers_read
numbers_go_on text at value next r test count =
    let gone = word_gone text at value next r in
    let fields = field_goes text at value next r in
    let behind = word_behind text at value next r in
    rw (gone, fields, r.form, r.number, behind, ← end_behind text at value next r, eqb-suc-suc (length (fields_from text next)) count)

module _ (text : List ℕ) (at : ℕ) where
  unfilled_malformed : (test : List ℕ → Bool) (count : ℕ) → filled_by count text at ≡ false → Err FieldForm ≡ numbers_read test count text at
  unfolding numbers_read
  unfilled_malformed test count e = rw e

  pub numbers_malformed : (test : List ℕ → Bool) (count : ℕ) → field_at text at ≡ None → Err FieldForm ≡ numbers_read test (suc count) text at
  numbers_malformed test count e = unfilled_malformed test (suc count) (unfilled_without_field text at count (field_not_read text at e))

  pub numbers_not_ended : (test : List ℕ → Bool) → eqb (length (line_from text at)) 0 ≡ false → Err FieldForm ≡ numbers_read test 0 text at
  numbers_not_ended test e = unfilled_malformed test 0 (unfilled_before_end text at e)

  pub numbers_ended : (within : Bool) → eqb (length (line_from text at)) 0 ≡ true → cond within (Ok at) (Err FieldValue) ≡ numbers_read (λ numbers. within) 0 text at
  unfolding numbers_read pieces up_to
  numbers_ended within e = rw (no_bytes (line_from text at) e) (ap (λ end. cond within (Ok end) (Err FieldValue)) (omega arith))

  pub numbers_within : {within : Bool} → within ≡ true → eqb (length (line_from text at)) 0 ≡ true → Ok at ≡ numbers_read (λ numbers. within) 0 text at
  numbers_within {within} w e = rw w (numbers_ended true e)

  pub numbers_outside : {within : Bool} → within ≡ false → eqb (length (line_from text at)) 0 ≡ true → Err FieldValue ≡ numbers_read (λ numbers. within) 0 text at
  numbers_outside {within} w e = rw w (numbers_ended false e)

-- Tests that agree on the numbers.
pub numbers_same : (test test' : List ℕ → Bool) (count : ℕ) (text : List ℕ) (at : ℕ) → test (numbers_from text at) ≡ test' (numbers_from text at) →
    numbers_read test count text at ≡ numbers_read test' count text at
unfolding numbers_read
numbers_same test test' count text at e = rw e

-- A test that fails: numbers that keep another one are outside their limits, and what is refused by another one is refused alike.
module _ (test : List ℕ → Bool) (count : ℕ) (text : List ℕ) (at : ℕ) where
  abbrev end : ℕ
  end = at + length (line_from text at)

  pub kept_outside : {last : ℕ} → Ok last ≡ numbers_read test count text at → Err FieldValue ≡ numbers_read (λ numbers. false) count text at
  unfolding numbers_read
  kept_outside {last} e = go (filled_by count text at) (test (numbers_from text at)) e
    where
      go : (filled kept : Bool) → ◌≡◌ {A = Result ℕ Refusal} (Ok last) (cond filled (cond kept (Ok end) (Err FieldValue)) (Err FieldForm)) →
          ◌≡◌ {A = Result ℕ Refusal} (Err FieldValue) (cond filled (Err FieldValue) (Err FieldForm))
      go true kept e = refl
      go false kept e = absurd (let z : ◌≡◌ {A = ℕ} 0 1 = cc in omega arith)

  pub refused_outside : {refusal : Refusal} → Err refusal ≡ numbers_read test count text at → Err refusal ≡ numbers_read (λ numbers. false) count text at
  unfolding numbers_read
  refused_outside {refusal} e = go (filled_by count text at) (test (numbers_from text at)) e
    where
      go : (filled kept : Bool) → ◌≡◌ {A = Result ℕ Refusal} (Err refusal) (cond filled (cond kept (Ok end) (Err FieldValue)) (Err FieldForm)) →
          ◌≡◌ {A = Result ℕ Refusal} (Err refusal) (cond filled (Err FieldValue) (Err FieldForm))
      go true true e = absurd (let z : ◌≡◌ {A = ℕ} 0 1 = cc in omega arith)
      go true false e = e
      go false kept e = e
