-- What becomes of one line: as the grammar reads it, its conversion is the line that the plain words ask for, and it says the same in the wanted form.
use Prim.Native.Nat.{ℕ, zero, suc, ◌+◌, ◌-◌, ◌*◌, ◌≤◌, ◌<◌}
use mathlib.Core.Path.{◌≡◌, refl, ap, ◌∙◌}
use mathlib.Core.Bool.{Bool, true, false, not, cond}
use mathlib.Core.List.{List, [], ◌∷◌, ◌++◌, append-nil, append_assoc}
use native.Mathlib.Omega.{arith}
use lib.Dec.{eqb}
use lib.ListN.{length, get_or, length-append}
use lib.Seq.{take_at}
use borrow.Author.Tests.{eqb-false, ne_eqb}
use Rattle.townfile.specs.Bytes.{space}
use Rattle.townfile.specs.Numbers.{decimal_from}
use Rattle.townfile.specs.Grammar.{Number, Fields, no_fields, field, Arc, Line, TN, FN, JN, AR, CM}
use Rattle.townfile.specs.Grammar.{Reads, town_line, held_town_line, fences_line, junction_line, arc_line, held_arc_line, bare_comment, comment_line}
use Rattle.townfile.specs.Lines.{mark_tn, mark_tw, mark_ar, first_two}
use Rattle.conversion.specs.Conversion.{no_hold, converted_line, LineChanges, town_letters, arc_hold, unchanged}
use Rattle.conversion.proofs.Digits.{with_zeros, few_digits}

-- ---- A field at the end

fields_append : {bytes more numbers others : List ℕ} → Fields bytes numbers → Fields more others → Fields (bytes ++ more) (numbers ++ others)
fields_append no_fields others = others
fields_append {more = more} (field {bytes} {rest} number fields) others = rw (append_assoc bytes rest more) (field number (fields_append fields others))

no_hold_field : Fields no_hold (0 ∷ [])
unfolding decimal_from
no_hold_field = field {bytes = 48 ∷ []} (record { some_digit = omega arith; few_digits = omega arith; digits = digit; no_leading_zero = λ e. refl; value = refl }) no_fields
  where
    digit : (i : ℕ) → i < 1 → (48 ≤ get_or (48 ∷ []) i 0) × (get_or (48 ∷ []) i 0 ≤ 57)
    digit zero h = (omega arith, omega arith)
    digit (suc i) h = absurd (omega arith)

-- The last field, and those before it.
pub record LastField (bytes numbers : List ℕ) (last : ℕ) : Type 0 where
  pub front : List ℕ
  pub digits : List ℕ
  pub whole : bytes ≡ front ++ (space ∷ digits)
  pub fields : Fields front numbers
  pub number : Number digits last

pub last_field : {bytes : List ℕ} (numbers : List ℕ) {last : ℕ} → Fields bytes (numbers ++ (last ∷ [])) → LastField bytes numbers last
last_field [] (field {bytes} number no_fields) = record { front = []; digits = bytes; whole = rw append-nil; fields = no_fields; number = number }
last_field (n ∷ numbers) (field {bytes} {rest} number fields) =
    let later = last_field numbers fields in
    record {
      front = space ∷ (bytes ++ later.front);
      digits = later.digits;
      whole = ap (λ (more : List ℕ). space ∷ (bytes ++ more)) later.whole ∙ rw (append_assoc bytes later.front (space ∷ later.digits));
      fields = field number later.fields;
      number = later.number;
    }

pub zero_digit : (bytes : List ℕ) {n : ℕ} → Number bytes n → n ≡ 0 → bytes ≡ 48 ∷ []
unfolding decimal_from with_zeros
zero_digit [] number none = absurd (omega (arith, number.some_digit))
zero_digit (byte ∷ []) number none = let is : byte ≡ 48 = omega (arith, number.value, (number.digits 0 (omega arith)).0) in rw is
zero_digit (byte ∷ next ∷ bytes) number none = absurd (omega (arith, few_digits 1 (byte ∷ next ∷ bytes) number (omega arith) (omega arith)))

without_hold : {bytes : List ℕ} (numbers : List ℕ) {hold : ℕ} → Fields bytes (numbers ++ (hold ∷ [])) → hold ≡ 0 →
    (front : List ℕ) × (bytes ≡ front ++ no_hold) × Fields front numbers
without_hold numbers fields none =
    let last = last_field numbers fields in
    (last.front, last.whole ∙ ap (λ (digits : List ℕ). last.front ++ (space ∷ digits)) (zero_digit last.digits last.number none), last.fields)

-- ---- A line

-- What a line says of an arc, where it says one.
abbrev pub OfArc : (Arc → Type 0) → Line → Type 0
OfArc P (TN junctions intervals) = Unit {0}
OfArc P (FN fences) = Unit {0}
OfArc P (JN named) = Unit {0}
OfArc P (AR arc) = P arc
OfArc P CM = Unit {0}

pub record Step (wanted : Bool) (line : List ℕ) (says : Line) : Type 0 where
  pub changes : cond wanted (LineChanges line (converted_line wanted line)) (LineChanges (converted_line wanted line) line)
  pub reads : Reads wanted (converted_line wanted line) says

other_line : (a b : ℕ) (bytes : List ℕ) → eqb (a * 256 + b) mark_tn ≡ false → eqb (a * 256 + b) mark_tw ≡ false → eqb (a * 256 + b) mark_ar ≡ false →
    LineChanges (a ∷ b ∷ bytes) (a ∷ b ∷ bytes)
unfolding first_two
other_line a b bytes town held arc = unchanged (eqb-false (a * 256 + b) mark_tn town) (eqb-false (a * 256 + b) mark_tw held) (eqb-false (a * 256 + b) mark_ar arc)

to_new : {line : List ℕ} {says : Line} → Reads false line says → Step true line says
unfolding converted_line first_two
to_new (town_line {bytes} fields) = record { changes = town_letters bytes; reads = held_town_line fields }
to_new (fences_line {bytes = bytes} fields) = record { changes = other_line 70 78 bytes refl refl refl; reads = fences_line fields }
to_new (junction_line number kept) = record { changes = other_line 74 78 _ refl refl refl; reads = junction_line number kept }
to_new (arc_line {bytes} fields) = record { changes = arc_hold bytes; reads = held_arc_line (fields_append fields no_hold_field) }
to_new bare_comment = record { changes = other_line 67 77 [] refl refl refl; reads = bare_comment }
to_new (comment_line all) = record { changes = other_line 67 77 _ refl refl refl; reads = comment_line all }

hold_dropped : (bytes : List ℕ) → converted_line false (65 ∷ 82 ∷ (bytes ++ no_hold)) ≡ 65 ∷ 82 ∷ bytes
unfolding converted_line first_two
hold_dropped bytes = take_at (65 ∷ 82 ∷ bytes) no_hold (length (65 ∷ 82 ∷ (bytes ++ no_hold)) - 2) (omega (arith, length-append bytes no_hold))

to_old : {line : List ℕ} {says : Line} → Reads true line says → OfArc (λ a. a.hold ≡ 0) says → Step false line says
unfolding converted_line first_two
to_old (held_town_line {bytes} fields) none = record { changes = town_letters bytes; reads = town_line fields }
to_old (fences_line {bytes = bytes} fields) none = record { changes = other_line 70 78 bytes refl refl refl; reads = fences_line fields }
to_old (junction_line number kept) none = record { changes = other_line 74 78 _ refl refl refl; reads = junction_line number kept }
to_old (held_arc_line {bytes} {speeds} {tail} {head} {metres} {hold} fields) none =
    let (front, whole, kept) = without_hold (tail ∷ head ∷ metres ∷ speeds) fields none in
    rw (none, whole) (record { changes = rw (hold_dropped front) (arc_hold front); reads = rw (hold_dropped front) (arc_line kept) })
to_old bare_comment none = record { changes = other_line 67 77 [] refl refl refl; reads = bare_comment }
to_old (comment_line all) none = record { changes = other_line 67 77 _ refl refl refl; reads = comment_line all }

pub line_step : (wanted : Bool) {line : List ℕ} {says : Line} → Reads (not wanted) line says → OfArc (λ a. wanted ≡ false → a.hold ≡ 0) says → Step wanted line says
line_step true reads none = to_new reads
line_step false {says = TN junctions intervals} reads none = to_old reads tt
line_step false {says = FN fences} reads none = to_old reads tt
line_step false {says = JN named} reads none = to_old reads tt
line_step false {says = AR arc} reads none = to_old reads (none refl)
line_step false {says = CM} reads none = to_old reads tt

-- ---- There and back

-- Two such lines are each other's conversion.
pub new_of_old : {old new : List ℕ} → LineChanges old new → converted_line true old ≡ new
unfolding converted_line first_two
new_of_old (town_letters bytes) = refl
new_of_old (arc_hold bytes) = refl
new_of_old (unchanged {line} no-town no-held has_no_arc) = rw (ne_eqb (first_two line) mark_tn no-town, ne_eqb (first_two line) mark_ar has_no_arc)

pub old_of_new : {old new : List ℕ} → LineChanges old new → converted_line false new ≡ old
unfolding converted_line first_two
old_of_new (town_letters bytes) = refl
old_of_new (arc_hold bytes) = hold_dropped bytes
old_of_new (unchanged {line} no-town no-held has_no_arc) = rw (ne_eqb (first_two line) mark_tw no-held, ne_eqb (first_two line) mark_ar has_no_arc)
