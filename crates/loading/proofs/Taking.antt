-- Taking the numbers that fill the rest of a line: each field gives the first of those that are left, and a table stores them one
-- behind the other, so that storing those left comes to storing all.
use Prim.Native.Nat.{ℕ, suc, ◌+◌, ◌-◌, ◌*◌, ◌≤◌, ◌<◌}
use mathlib.Core.Path.{◌≡◌, refl, sym, ap, ◌∙◌}
use mathlib.Core.Bool.{Bool, true, false, cond, ◌&&◌}
use mathlib.Core.List.{List, [], ◌∷◌, append_assoc}
use native.Mathlib.Omega.{arith}
use lib.Dec.{eqb, eqb-suc-suc}
use lib.ListN.{length, get_or, set, take, drop, length-map, length-take}
use borrow.Rule.Slice.PartMut.{put_mid, Post-is, mid_len}
use lib.Seq.{sets, sets-eq, drop-drop, take-suc, take-suc-set, get_or-drop, get_or-take}
use native.Mathlib.Numerals.{add-one}
use borrow.Author.Tests.{leb-true, eqb-true}
use Rattle.model.specs.Rules.{every, speed_keeps}
use Rattle.model.proofs.Rules.{true_both, every_at}
use Rattle.townfile.specs.Bytes.{pieces}
use Rattle.townfile.specs.Numbers.{decimal, number_keeps}
use Rattle.fields.specs.Fields.{line_from, word_from, field_keeps, fields_from, numbers_from, filled_by}
use Rattle.loading.specs.Code.Filling.{EndsInside, taken_at, NumbersFill, Behind, ArcFills, with_arc}
use Rattle.townfile.specs.Load.{Tables, tables}
use Rattle.fields.specs.declared.field.Field.{Field}
use Rattle.fields.proofs.FieldsLeft.{FieldRead, kept_field, field_goes, number_goes, word_gone, word_behind, end_behind, no_bytes, unfilled_without_field, unfilled_before_end}

-- ---- One field

pub record Taking (text : List ℕ) (at count : ℕ) (taken : Field) : Type 0 where
  pub number : numbers_from text at ≡ taken.value ∷ numbers_from text taken.next
  pub still_fill : NumbersFill count text taken.next
  pub same_end : taken.next + length (line_from text taken.next) ≡ at + length (line_from text at)

module _ (text : List ℕ) (at : ℕ) where
  field_filled : (count value next : ℕ) → FieldRead text at value next → filled_by (suc count) text at ≡ true → filled_by count text next ≡ true
  field_filled count value next r filled =
      rw (word_behind text at value next r)
      (rw (word_gone text at value next r, field_goes text at value next r, r.form, eqb-suc-suc (length (fields_from text next)) count) at filled)

  -- A number is left, so a field stands here.
  field_kept : (count : ℕ) → NumbersFill (suc count) text at → field_keeps text at ≡ true
  field_kept count fill = go (field_keeps text at) refl
    where
      go : (kept : Bool) → field_keeps text at ≡ kept → kept ≡ true
      go true e = refl
      go false e = absurd (let z : ◌≡◌ {A = ℕ} 0 1 = cc (sym (unfilled_without_field text at count e) ∙ fill.filled) in omega arith)

  pub number_asked : (count : ℕ) → NumbersFill (suc count) text at → (field_keeps text at ≡ true) × EndsInside text at
  number_asked count fill = (field_kept count fill, fill.ends)

  pub taking : (count : ℕ) (taken : Field) → taken ≡ taken_at text at → NumbersFill (suc count) text at → Taking text at count taken
  taking count taken e fill =
      let read : FieldRead text at taken.value taken.next = rw e (kept_field text at (field_kept count fill)) in
      let same = end_behind text at taken.value taken.next read in
      record {
        number = number_goes text at taken.value taken.next read;
        still_fill = record { filled = field_filled count taken.value taken.next read fill.filled; ends = omega (arith, same, fill.ends) };
        same_end = same;
      }

  -- No number is left.
  filled_ends : filled_by 0 text at ≡ true → line_from text at ≡ []
  filled_ends filled = go (eqb (length (line_from text at)) 0) refl
    where
      go : (none : Bool) → eqb (length (line_from text at)) 0 ≡ none → line_from text at ≡ []
      go true e = no_bytes (line_from text at) e
      go false e = absurd (let z : ◌≡◌ {A = ℕ} 0 1 = cc (sym (unfilled_before_end text at e) ∙ filled) in omega arith)

  no_numbers : line_from text at ≡ [] → numbers_from text at ≡ []
  unfolding pieces
  no_numbers e = rw e

  pub none_filled : NumbersFill 0 text at → numbers_from text at ≡ []
  none_filled fill = no_numbers (filled_ends fill.filled)

-- ---- The numbers of a line, one behind the other

pub none_taken : (text : List ℕ) (at : ℕ) → Behind 0 text at at
none_taken text at = record { numbers_left = refl; others_fill = λ others fill. let same : 0 + others ≡ others = omega arith in rw same at fill; same_end = refl }

-- As many of them as fill a line are there.
pub numbers_there : {count : ℕ} {text : List ℕ} {at : ℕ} → NumbersFill count text at → length (numbers_from text at) ≡ count
numbers_there {count} {text} {at} fill =
    length-map (fields_from text at) decimal
    ∙ eqb-true (length (fields_from text at)) count
    (true_both (eqb (length (word_from text at)) 0 && every number_keeps (fields_from text at)) (eqb (length (fields_from text at)) count) fill.filled).1

-- k of them are taken, and so many others than those of a row follow.
module _ {text : List ℕ} {at count k i : ℕ} (others : ℕ) (fill : NumbersFill (count + others) text at) (behind : Behind k text at i) (more : k < count) where
  left : ℕ
  left = count - (k + 1) + others

  next_fill : NumbersFill (suc left) text i
  unfolding left
  next_fill = let same : count + others ≡ k + suc (count - (k + 1) + others) = omega arith in behind.others_fill (suc (count - (k + 1) + others)) (rw same at fill)

  pub next_asked : (field_keeps text i ≡ true) × EndsInside text i
  next_asked = number_asked text i left next_fill

  module _ {taken : Field} (e : taken ≡ taken_at text i) where
    next_taking : Taking text i left taken
    next_taking = taking text i left taken e next_fill

    pub next_is : taken.value ≡ get_or (numbers_from text at) k 0
    next_is =
        let here : k + 0 ≡ k = omega arith in
        sym (ap (λ numbers. get_or numbers 0 0) next_taking.number)
        ∙ ap (λ numbers. get_or numbers 0 0) behind.numbers_left
        ∙ get_or-drop k (numbers_from text at) 0 0
        ∙ ap (λ j. get_or (numbers_from text at) j 0) here

    pub one_taken : Behind (k + 1) text at taken.next
    one_taken = record {
      numbers_left = ap (drop 1) (sym next_taking.number ∙ behind.numbers_left) ∙ drop-drop 1 k (numbers_from text at);
      others_fill = λ more fill-more.
          let same : k + 1 + more ≡ k + suc more = omega arith in
          (taking text i more taken e (behind.others_fill (suc more) (rw same at fill-more))).still_fill;
      same_end = next_taking.same_end ∙ behind.same_end;
    }

    -- The first entries of a table are the numbers taken.
    pub one_stored : (table : List ℕ) → length table ≡ count → take k table ≡ take k (numbers_from text at) →
        take (k + 1) (set table k taken.value) ≡ take (k + 1) (numbers_from text at)
    one_stored table long same =
        let numbers = numbers_from text at in
        let some : k < length numbers = omega (arith, numbers_there fill) in
        let stored = take-suc-set table k taken.value (omega arith) in
        let one-more = take-suc numbers k 0 some in
        rw (add-one k, stored, one-more, same, next_is) refl

    pub speed_fits : every speed_keeps (take count (numbers_from text at)) ≡ true → taken.value ≤ 200
    speed_fits within =
        let numbers = numbers_from text at in
        let long : k < length (take count numbers) = omega (arith, length-take count numbers, numbers_there fill) in
        let keeps = leb-true (get_or (take count numbers) k 0) 200 (every_at speed_keeps 0 (take count numbers) within k long) in
        omega (arith, keeps, next_is, get_or-take count numbers k 0 more)

-- Numbers that no others follow.
pub alone : {count : ℕ} {text : List ℕ} {at : ℕ} → NumbersFill count text at → NumbersFill (count + 0) text at
alone {count} fill = let same : count + 0 ≡ count = omega arith in rw same fill

-- Where nothing follows, the place behind is the line's end.
pub behind_ends : {text : List ℕ} (at : ℕ) {next : ℕ} → NumbersFill 0 text next → next + length (line_from text next) ≡ at + length (line_from text at) →
    next ≡ at + length (line_from text at)
behind_ends {text} at {next} fill same = omega (arith, ap length (filled_ends text next fill.filled), same)

-- Where a row's numbers fill the line, the place behind them is its end.
pub all_taken : {count k : ℕ} {text : List ℕ} {at i : ℕ} → NumbersFill count text at → Behind k text at i → k ≡ count → i ≡ at + length (line_from text at)
all_taken {count} {k} {text} {at} {i} fill behind same = behind_ends at (behind.others_fill 0 (rw same (alone fill))) behind.same_end

-- ---- A row of a table

module _ (start count : ℕ) (table : List ℕ) (room : start + count ≤ length table) where
  pub row_long : length (take (start + count - start) (drop start table)) ≡ count
  row_long = mid_len start (start + count) table room ∙ omega arith

  -- A row put back with other entries.
  pub row_stored : (row : List ℕ) → length row ≡ count → put_mid start (start + count - start) table row ≡ sets table start row
  row_stored row long =
      let same : start + count ≡ start + length row = omega (arith, long) in
      let behind = Post-is start (start + count) table (omega arith) in
      rw (behind, same) (sym (append_assoc (take start table) row (drop (start + length row) table)) ∙ sym (sets-eq row table start (omega (arith, long))))

-- ---- The numbers of an arc

pub record ArcTaken (rest : ℕ) (text : List ℕ) (at : ℕ) (tail head metres : Field) : Type 0 where
  pub tail_is : tail.value ≡ get_or (numbers_from text at) 0 0
  pub head_is : head.value ≡ get_or (numbers_from text at) 1 0
  pub metres_is : metres.value ≡ get_or (numbers_from text at) 2 0
  pub speeds_are : numbers_from text metres.next ≡ drop 3 (numbers_from text at)
  pub still_fill : NumbersFill rest text metres.next
  pub same_end : metres.next + length (line_from text metres.next) ≡ at + length (line_from text at)

pub arc_starts : {intervals : ℕ} {held : Bool} {text : List ℕ} {at : ℕ} → ArcFills intervals held text at → NumbersFill (suc (suc (suc (intervals + cond held 1 0)))) text at
arc_starts {intervals} {held} fills =
    let three : 3 + intervals + cond held 1 0 ≡ suc (suc (suc (intervals + cond held 1 0))) = omega arith in rw three at fills.numbers_fill

pub arc_taken : (rest : ℕ) (text : List ℕ) (at : ℕ) (tail head metres : Field) →
    Taking text at (suc (suc rest)) tail → Taking text tail.next (suc rest) head → Taking text head.next rest metres →
    ArcTaken rest text at tail head metres
arc_taken rest text at tail head metres first second third =
    let numbers : numbers_from text at ≡ tail.value ∷ head.value ∷ metres.value ∷ numbers_from text metres.next = rw (first.number, second.number, third.number) in
    record {
      tail_is = rw numbers;
      head_is = rw numbers;
      metres_is = rw numbers;
      speeds_are = rw numbers;
      still_fill = third.still_fill;
      same_end = third.same_end ∙ second.same_end ∙ first.same_end;
    }

-- An arc's numbers, each stored in its table.
pub arc_written : (intervals arc : ℕ) (numbers : List ℕ) (lent : Tables) {tail head metres hold : ℕ} {speeds : List ℕ} →
    tail ≡ get_or numbers 0 0 → head ≡ get_or numbers 1 0 → metres ≡ get_or numbers 2 0 → hold ≡ get_or (drop 3 numbers) intervals 0 →
    speeds ≡ sets lent.speeds (arc * intervals) (take intervals (drop 3 numbers)) →
    tables lent.fences (set lent.tails arc tail) (set lent.heads arc head) (set lent.lengths arc metres) (set lent.holds arc hold) speeds ≡ with_arc intervals arc numbers lent
arc_written intervals arc numbers lent t h m d s = rw (t, h, m, d, s)
