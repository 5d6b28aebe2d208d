-- A line of a known mark keeps the form exactly where the grammar reads it, and then it says what its bytes give: mark by mark,
-- on what stands behind the mark's two bytes.
use Prim.Native.Nat.{ℕ, zero, suc, ◌+◌, ◌≤◌, ◌<◌}
use mathlib.Core.Path.{◌≡◌, refl, sym, ap, ◌∙◌}
use mathlib.Core.Bool.{Bool, true, false, cond, ◌&&◌}
use mathlib.Core.List.{List, [], ◌∷◌, ◌++◌}
use native.Mathlib.Numerals.{add-one}
use native.Mathlib.Omega.{arith}
use lib.Dec.{eqb}
use lib.ListN.{length, get_or, take, drop, length-map, length-append, length-drop}
use lib.Seq.{length-take-le, take_all, take-suc, take_at, get_or_at, drop-append-add}
use borrow.Author.Tests.{eqb-true, eq-eqb}
use Rattle.model.specs.Rules.{every}
use Rattle.model.proofs.Rules.{true_both, both_true}
use Rattle.townfile.specs.Bytes.{line_feed, space, printable, up_to, pieces}
use Rattle.townfile.specs.Numbers.{decimal, number_keeps}
use Rattle.townfile.specs.Grammar.{Bytes, Fields, Number, Name, Printable, Line, TN, JN, AR, CM}
use Rattle.townfile.specs.Grammar.{Reads, town_line, held_town_line, fences_line, junction_line, arc_line, held_arc_line, bare_comment, comment_line}
use Rattle.townfile.specs.Lines.{mark_tn, mark_ar, first_two, begins_held, mark_of, known, arc_fields, mark_alone}
use Rattle.townfile.specs.Lines.{fields_of, numbers_of, numbers_keep, number_field, name_field, name_keeps, form_keeps}
use Rattle.townfile.specs.LineFaults.{CountsMatch}
use Rattle.townfile.specs.Tables.{named_of}
use Rattle.townfile.specs.LineFaults.{town_mark, fences_mark, junction_mark, arc_mark, comment_mark}
use Rattle.townfile.specs.declared.progress.Progress.{Progress}
use Rattle.townfile.proofs.FieldForm.{up_to_part, up_to_behind, up_to_none, pieces_later, pieces_fields, fields_pieces, fields_lack}
use Rattle.townfile.proofs.Lacks.{Lacks, cons_lacks, append_lacks}
use Rattle.townfile.proofs.Marks.{known_mark, MarkedLine, town_bytes, held_town_bytes, fences_bytes, junction_bytes, arc_bytes, comment_bytes, marked_line}
use Rattle.townfile.proofs.NameForm.{keeps_printable, printable_keeps, keeps_name, name_keeps_law}
use Rattle.townfile.proofs.NumberForm.{keeps_number, number_keeps_law, number_lacks}
use Rattle.townfile.proofs.Says.{says_of, mark_of_says}

-- ---- The numbers behind a mark

module _ (a b : ℕ) (bytes : List ℕ) (a-other : eqb a space ≡ false) (b-other : eqb b space ≡ false) where
  fields_behind : fields_of (a ∷ b ∷ bytes) ≡ drop 1 (pieces space bytes)
  fields_behind = pieces_later space a (b ∷ bytes) a-other ∙ pieces_later space b bytes b-other

  none_alone : up_to space bytes ≡ [] → mark_alone (a ∷ b ∷ bytes) ≡ true
  unfolding up_to
  none_alone none = rw (a-other, b-other, none)

  alone_none : mark_alone (a ∷ b ∷ bytes) ≡ true → up_to space bytes ≡ []
  unfolding up_to
  alone_none e = empty (up_to space bytes) (eqb-true (suc (suc (length (up_to space bytes)))) 2 (rw (a-other, b-other) at e))
    where
      empty : (bytes : List ℕ) → suc (suc (length bytes)) ≡ 2 → bytes ≡ []
      empty [] e = refl
      empty (byte ∷ bytes) e = absurd (omega arith)

  keep_fields : (count : ℕ) → (mark_alone (a ∷ b ∷ bytes) && numbers_keep count (a ∷ b ∷ bytes)) ≡ true → Fields bytes (numbers_of (a ∷ b ∷ bytes))
  keep_fields count e =
      let parts = true_both (mark_alone (a ∷ b ∷ bytes)) (numbers_keep count (a ∷ b ∷ bytes)) e in
      let numbers = true_both (every number_keeps (fields_of (a ∷ b ∷ bytes))) (eqb (length (fields_of (a ∷ b ∷ bytes))) count) parts.1 in
      rw fields_behind (pieces_fields bytes (alone_none parts.0) (rw fields_behind at numbers.0))

  fields_numbers : {numbers : List ℕ} → Fields bytes numbers → numbers_of (a ∷ b ∷ bytes) ≡ numbers
  fields_numbers fields = rw fields_behind (fields_pieces fields).their_values

  fields_keep : {numbers : List ℕ} → Fields bytes numbers → (count : ℕ) → length numbers ≡ count → (mark_alone (a ∷ b ∷ bytes) && numbers_keep count (a ∷ b ∷ bytes)) ≡ true
  fields_keep fields count counted =
      let as-pieces = fields_pieces fields in
      let number-bytes : List (List ℕ) = drop 1 (pieces space bytes) in
      let as_many : length number-bytes ≡ count = sym (length-map number-bytes decimal) ∙ ap length as-pieces.their_values ∙ counted in
      both_true (none_alone as-pieces.none_before) (rw fields_behind (both_true as-pieces.all_numbers (eq-eqb (length number-bytes) count as_many)))

keep_count : (alone : Bool) (count : ℕ) (line : List ℕ) → (alone && numbers_keep count line) ≡ true → length (numbers_of line) ≡ count
keep_count alone count line e =
    let numbers = true_both (every number_keeps (fields_of line)) (eqb (length (fields_of line)) count) (true_both alone (numbers_keep count line) e).1 in
    length-map (fields_of line) decimal ∙ eqb-true (length (fields_of line)) count numbers.1

-- ---- The number and the name of a junction

name_behind : (a b c : ℕ) (bytes : List ℕ) → name_field (a ∷ b ∷ c ∷ bytes) ≡ drop (suc (length (up_to space bytes))) bytes
name_behind a b c bytes = let past : length (up_to space bytes) + 4 ≡ suc (suc (suc (suc (length (up_to space bytes))))) = omega arith in rw past

module _ (a b : ℕ) {bytes : List ℕ} (name : List ℕ) {n : ℕ} (number : Number bytes n) where
  number_alone : number_field (a ∷ b ∷ space ∷ (bytes ++ (space ∷ name))) ≡ bytes
  unfolding up_to
  number_alone = up_to_part space bytes (space ∷ name) (number_lacks number space (omega arith)) refl

  name_rest : name_field (a ∷ b ∷ space ∷ (bytes ++ (space ∷ name))) ≡ name
  name_rest = name_behind a b space (bytes ++ (space ∷ name)) ∙ rw (number_alone, ← add-one (length bytes), drop-append-add)

-- ---- From the tests to the grammar

pub past_end : (xs : List ℕ) (n : ℕ) → length xs ≤ n → get_or xs n 0 ≡ 0
past_end [] n h = refl
past_end (x ∷ xs) zero h = absurd (omega arith)
past_end (x ∷ xs) (suc n) h = past_end xs n (omega arith)

town_reads : (bytes numbers : List ℕ) → Fields bytes numbers → length numbers ≡ 2 → Reads false (84 ∷ 78 ∷ bytes) (TN (get_or numbers 0 0) (get_or numbers 1 0))
town_reads bytes [] fields two = absurd (omega arith)
town_reads bytes (j ∷ []) fields two = absurd (omega arith)
town_reads bytes (j ∷ i ∷ []) fields two = town_line fields
town_reads bytes (j ∷ i ∷ n ∷ numbers) fields two = absurd (omega arith)

held_town_reads : (bytes numbers : List ℕ) → Fields bytes numbers → length numbers ≡ 2 → Reads true (84 ∷ 87 ∷ bytes) (TN (get_or numbers 0 0) (get_or numbers 1 0))
held_town_reads bytes [] fields two = absurd (omega arith)
held_town_reads bytes (j ∷ []) fields two = absurd (omega arith)
held_town_reads bytes (j ∷ i ∷ []) fields two = held_town_line fields
held_town_reads bytes (j ∷ i ∷ n ∷ numbers) fields two = absurd (omega arith)

-- The numbers of an arc: behind its length the speeds, and in the new form the hold.
arc_reads : (held : Bool) (intervals : ℕ) (bytes numbers : List ℕ) → Fields bytes numbers → length numbers ≡ 3 + intervals + cond held 1 0 →
    Reads held (65 ∷ 82 ∷ bytes) (AR (record {
      tail = get_or numbers 0 0;
      head = get_or numbers 1 0;
      metres = get_or numbers 2 0;
      speeds = take intervals (drop 3 numbers);
      hold = get_or (drop 3 numbers) intervals 0;
    }))
arc_reads held intervals bytes [] fields count = absurd (omega arith)
arc_reads held intervals bytes (t ∷ []) fields count = absurd (omega arith)
arc_reads held intervals bytes (t ∷ h ∷ []) fields count = absurd (omega arith)
arc_reads false intervals bytes (t ∷ h ∷ m ∷ speeds) fields count =
    rw (take_all intervals speeds (omega arith), past_end speeds intervals (omega arith)) (arc_line fields)
arc_reads true intervals bytes (t ∷ h ∷ m ∷ rest) fields count =
    let ending : rest ≡ take intervals rest ++ (get_or rest intervals 0 ∷ []) = sym (take_all (suc intervals) rest (omega arith)) ∙ take-suc rest intervals 0 (omega arith) in
    held_arc_line (rw ending at fields)

junction_reads : {held : Bool} (bytes : List ℕ) → up_to space bytes ≡ [] → Number (number_field (74 ∷ 78 ∷ bytes)) (decimal (number_field (74 ∷ 78 ∷ bytes))) →
    Name (name_field (74 ∷ 78 ∷ bytes)) → Reads held (74 ∷ 78 ∷ bytes) (JN (named_of (74 ∷ 78 ∷ bytes)))
unfolding up_to
junction_reads {held} [] none number name = absurd (omega (arith, number.some_digit))
junction_reads {held} (byte ∷ bytes) none number name =
    let behind = name_behind 74 78 byte bytes in
    let kept : Name (drop (suc (length (up_to space bytes))) bytes) = rw behind at name in
    rw (behind, up_to_none space byte bytes none) (rw (up_to_behind space bytes kept.some_byte) at (junction_line {held = held} number kept))

comment_reads : {held : Bool} (bytes : List ℕ) → up_to space bytes ≡ [] → Printable bytes → Reads held (67 ∷ 77 ∷ bytes) CM
comment_reads [] none all = bare_comment
comment_reads (byte ∷ bytes) none all = rw (up_to_none space byte bytes none) (comment_line {bytes = bytes} (λ i h. all (suc i) (omega arith)))

-- The form that a line is of: the beginning's own, an arc's that of the lines before, and any other line's either.
abbrev pub OfForm : Progress → Bool → List ℕ → Type 0
OfForm p held line = (mark_of line ≡ mark_tn → held ≡ begins_held line) × (mark_of line ≡ mark_ar → held ≡ p.held)

marked_reads : (p : Progress) (held : Bool) {line : List ℕ} → OfForm p held line → MarkedLine line → form_keeps p line ≡ true → Reads held line (says_of p.intervals line)
unfolding form_keeps says_of mark_of first_two
marked_reads p held of-form (town_bytes bytes) e =
    let line : List ℕ = 84 ∷ 78 ∷ bytes in
    rw (of-form.0 refl) (town_reads bytes (numbers_of line) (keep_fields 84 78 bytes refl refl 2 e) (keep_count (mark_alone line) 2 line e))
marked_reads p held of-form (held_town_bytes bytes) e =
    let line : List ℕ = 84 ∷ 87 ∷ bytes in
    rw (of-form.0 refl) (held_town_reads bytes (numbers_of line) (keep_fields 84 87 bytes refl refl 2 e) (keep_count (mark_alone line) 2 line e))
marked_reads p held of-form (fences_bytes bytes) e = fences_line (keep_fields 70 78 bytes refl refl p.intervals e)
marked_reads p held of-form (junction_bytes bytes) e =
    let line : List ℕ = 74 ∷ 78 ∷ bytes in
    let parts = true_both (mark_alone line) (number_keeps (number_field line) && name_keeps (name_field line)) e in
    let fields = true_both (number_keeps (number_field line)) (name_keeps (name_field line)) parts.1 in
    junction_reads bytes (alone_none 74 78 bytes refl refl parts.0) (keeps_number (number_field line) fields.0) (keeps_name (name_field line) fields.1)
marked_reads p held of-form (arc_bytes bytes) e =
    let line : List ℕ = 65 ∷ 82 ∷ bytes in
    rw (of-form.1 refl)
    (arc_reads p.held p.intervals bytes (numbers_of line) (keep_fields 65 82 bytes refl refl (arc_fields p) e) (keep_count (mark_alone line) (arc_fields p) line e))
marked_reads p held of-form (comment_bytes bytes) e =
    let parts = true_both (mark_alone (67 ∷ 77 ∷ bytes)) (every printable bytes) e in
    comment_reads bytes (alone_none 67 77 bytes refl refl parts.0) (keeps_printable bytes parts.1)

pub form_reads : (p : Progress) (held : Bool) (line : List ℕ) → OfForm p held line → Bytes line → known (mark_of line) ≡ true → form_keeps p line ≡ true →
    Reads held line (says_of p.intervals line)
form_reads p held line of-form below mark e = marked_reads p held of-form (marked_line line below mark) e

pub form_counts : (p : Progress) (held : Bool) (line : List ℕ) → OfForm p held line → known (mark_of line) ≡ true → form_keeps p line ≡ true →
    CountsMatch p held (says_of p.intervals line)
unfolding form_keeps says_of
form_counts p held line of-form mark e = elim (known_mark (mark_of line) mark) [
  | town_mark is ↦ rw is tt
  | fences_mark is ↦ rw is (keep_count (mark_alone line) p.intervals line (rw is at e))
  | junction_mark is ↦ rw is tt
  | arc_mark is ↦
      (let counted = keep_count (mark_alone line) (arc_fields p) line (rw is at e) in
      rw is (of-form.1 is, length-take-le p.intervals (drop 3 (numbers_of line)) (simp length-drop (omega arith))))
  | comment_mark is ↦ rw is tt
]

pub says_mark : (intervals : ℕ) (line : List ℕ) → known (mark_of line) ≡ true → mark_of line ≡ mark_of_says (says_of intervals line)
unfolding says_of
says_mark intervals line mark = elim (known_mark (mark_of line) mark) [
  | town_mark is ↦ rw is
  | fences_mark is ↦ rw is
  | junction_mark is ↦ rw is
  | arc_mark is ↦ rw is
  | comment_mark is ↦ rw is
]

-- ---- From the grammar to the tests

pub reads_says : (p : Progress) {held : Bool} {line : List ℕ} {says : Line} → Reads held line says → CountsMatch p held says → says_of p.intervals line ≡ says
unfolding says_of mark_of first_two
reads_says p (town_line {bytes} fields) counts = rw (fields_numbers 84 78 bytes refl refl fields)
reads_says p (held_town_line {bytes} fields) counts = rw (fields_numbers 84 87 bytes refl refl fields)
reads_says p (fences_line {bytes = bytes} fields) counts = rw (fields_numbers 70 78 bytes refl refl fields)
reads_says p (junction_line {name = name} number kept) counts = rw (name_rest 74 78 name number, number_alone 74 78 name number, number.value)
reads_says p (arc_line {bytes} {speeds} fields) counts =
    rw (fields_numbers 65 82 bytes refl refl fields, take_all p.intervals speeds (omega (arith, counts.1)), past_end speeds p.intervals (omega (arith, counts.1)))
reads_says p (held_arc_line {bytes} {speeds} {hold = hold} fields) counts =
    rw (fields_numbers 65 82 bytes refl refl fields, take_at speeds (hold ∷ []) p.intervals counts.1, get_or_at speeds hold [] 0 p.intervals counts.1)
reads_says p bare_comment counts = refl
reads_says p (comment_line printable) counts = refl

pub reads_town : {held : Bool} {line : List ℕ} {junctions intervals : ℕ} → Reads held line (TN junctions intervals) → numbers_of line ≡ junctions ∷ intervals ∷ []
reads_town (town_line {bytes} fields) = fields_numbers 84 78 bytes refl refl fields
reads_town (held_town_line {bytes} fields) = fields_numbers 84 87 bytes refl refl fields

-- A comment reads alike in both forms, and any line that is one reads so.
pub comment_alike : {held held' : Bool} {line : List ℕ} → Reads held line CM → Reads held' line CM
comment_alike bare_comment = bare_comment
comment_alike (comment_line all) = comment_line all

pub reads_mark : {held : Bool} {line : List ℕ} {says : Line} → Reads held line says → mark_of line ≡ mark_of_says says
unfolding mark_of first_two
reads_mark (town_line fields) = refl
reads_mark (held_town_line fields) = refl
reads_mark (fences_line fields) = refl
reads_mark (junction_line number name) = refl
reads_mark (arc_line fields) = refl
reads_mark (held_arc_line fields) = refl
reads_mark bare_comment = refl
reads_mark (comment_line printable) = refl

pub reads_begins : {held : Bool} {line : List ℕ} {junctions intervals : ℕ} → Reads held line (TN junctions intervals) → begins_held line ≡ held
unfolding first_two
reads_begins (town_line fields) = refl
reads_begins (held_town_line fields) = refl

pub reads_form : (p : Progress) {held : Bool} {line : List ℕ} {says : Line} → Reads held line says → CountsMatch p held says → form_keeps p line ≡ true
unfolding form_keeps mark_of first_two up_to
reads_form p (town_line {bytes} fields) counts = fields_keep 84 78 bytes refl refl fields 2 refl
reads_form p (held_town_line {bytes} fields) counts = fields_keep 84 87 bytes refl refl fields 2 refl
reads_form p (fences_line {bytes = bytes} fields) counts = fields_keep 70 78 bytes refl refl fields p.intervals counts
reads_form p (junction_line {name = name} number kept) counts = rw (name_rest 74 78 name number, number_alone 74 78 name number) (both_true (number_keeps_law number) (name_keeps_law kept))
reads_form p (arc_line {bytes} fields) counts =
    let old : ◌≡◌ {A = ℕ} (cond p.held 1 0) 0 = rw (← counts.0) in
    fields_keep 65 82 bytes refl refl fields (arc_fields p) (omega (arith, old, counts.1))
reads_form p (held_arc_line {bytes} {speeds} {hold = hold} fields) counts =
    let new : ◌≡◌ {A = ℕ} (cond p.held 1 0) 1 = rw (← counts.0) in
    fields_keep 65 82 bytes refl refl fields (arc_fields p) (omega (arith, new, counts.1, length-append speeds (hold ∷ [])))
reads_form p bare_comment counts = refl
reads_form p (comment_line {bytes = bytes} all) counts = printable_keeps bytes all

mark_lacks : (a b : ℕ) (bytes : List ℕ) → line_feed < a → line_feed < b → Lacks line_feed bytes → Lacks line_feed (a ∷ b ∷ bytes)
mark_lacks a b bytes a-above b-above lacks = cons_lacks a (b ∷ bytes) (λ e. omega arith) (cons_lacks b bytes (λ e. omega arith) lacks)

printable_lacks : (bytes : List ℕ) → Printable bytes → Lacks line_feed bytes
printable_lacks bytes all i h e = omega (arith, (all i h).0)

pub reads_unbroken : {held : Bool} {line : List ℕ} {says : Line} → Reads held line says → Lacks line_feed line
reads_unbroken (town_line {bytes} fields) = mark_lacks 84 78 bytes (omega arith) (omega arith) (fields_lack fields)
reads_unbroken (held_town_line {bytes} fields) = mark_lacks 84 87 bytes (omega arith) (omega arith) (fields_lack fields)
reads_unbroken (fences_line {bytes = bytes} fields) = mark_lacks 70 78 bytes (omega arith) (omega arith) (fields_lack fields)
reads_unbroken (junction_line {bytes = bytes} {name = name} number kept) =
    mark_lacks 74 78 (space ∷ (bytes ++ (space ∷ name))) (omega arith) (omega arith)
    (cons_lacks space (bytes ++ (space ∷ name)) (λ e. omega arith)
    (append_lacks bytes (space ∷ name) (number_lacks number line_feed (omega arith))
    (cons_lacks space name (λ e. omega arith) (printable_lacks name kept.all_printable))))
reads_unbroken (arc_line {bytes} fields) = mark_lacks 65 82 bytes (omega arith) (omega arith) (fields_lack fields)
reads_unbroken (held_arc_line {bytes} fields) = mark_lacks 65 82 bytes (omega arith) (omega arith) (fields_lack fields)
reads_unbroken bare_comment = mark_lacks 67 77 [] (omega arith) (omega arith) (λ i h e. omega arith)
reads_unbroken (comment_line {bytes = bytes} all) =
    mark_lacks 67 77 (space ∷ bytes) (omega arith) (omega arith) (cons_lacks space bytes (λ e. omega arith) (printable_lacks bytes all))
