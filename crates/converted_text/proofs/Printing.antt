-- What the programs print, from what the converters answer: the room is that of the longest file.
use Prim.Native.Nat.{ℕ}
use mathlib.Core.Path.{◌≡◌, refl, ap}
use mathlib.Core.Bool.{Bool, not}
use mathlib.Core.List.{List, ◌∷◌, ◌++◌}
use native.Mathlib.Omega.{arith}
use lib.ListN.{length, get_or, length-replicate}
use Rattle.townfile.specs.Grammar.{Line, Reads, town_line, held_town_line, fences_line, junction_line, arc_line, held_arc_line, bare_comment, comment_line}
use Rattle.townfile.specs.Bytes.{line_feed}
use Rattle.townfile.specs.Grammar.{ReadsAll, no_lines, reads_line, joined}
use Rattle.townfile.specs.FirstFault.{Reading, refused_at, accepted}
use Rattle.townfile.proofs.Described.{one_town}
use Rattle.conversion.specs.Conversion.{converted, HasRoom, convert_answer}
use Rattle.conversion.proofs.Conversion.{converts_when_described}
use Rattle.conversion.proofs.Texts.{result_describes}
use Rattle.converted_text.specs.Printing.{room, result_if, conversion_for, PrintsResult, PrintedDescribesSame, ResultIsNoRefusal}

-- A result is the converted file.
result_is : (wanted : Bool) (input result : List ℕ) → conversion_for wanted input ≡ accepted result →
    ((reply : ℕ) × (convert_answer wanted input room ≡ accepted reply)) × (result ≡ converted wanted input)
unfolding conversion_for
result_is wanted input result e = go (convert_answer wanted input room) refl e
  where
    go : (answer : Reading ℕ) → convert_answer wanted input room ≡ answer → result_if answer (converted wanted input) ≡ accepted result →
        ((reply : ℕ) × (convert_answer wanted input room ≡ accepted reply)) × (result ≡ converted wanted input)
    go (refused_at number line) a e = absurd (let z : ◌≡◌ {A = ℕ} 0 1 = cc in omega arith)
    go (accepted reply) a e = ((reply, a), cc)

pub prints_result : PrintsResult
unfolding conversion_for
prints_result wanted input bytes result = (
  (λ e.
      let ((reply, replies), is) = result_is wanted input result e in
      let (town, counted, fits) = (converts_when_described wanted input room bytes reply).0 replies in
      (town, is, omega (arith, fits.0, counted, ap length is))),
  (λ given.
      let (town, is, short) = given in
      let fits : HasRoom (length (converted wanted input)) (length room) =
      (omega (arith, short, ap length is), omega (arith, short, ap length is, length-replicate {A = ℕ} 65536 0)) in
      rw ((converts_when_described wanted input room bytes (length (converted wanted input))).1 (town, refl, fits), is)),
)

pub printed_describes_same : PrintedDescribesSame
printed_describes_same wanted input bytes T described result e =
    let ((T', described', unheld), is, short) = (prints_result wanted input bytes result).0 e in
    let same : T' ≡ T = (one_town input (not wanted) (not wanted) T' T described' described).1 in
    rw (is, ← same) (result_describes wanted described' unheld (rw is at short))

-- ---- No result is a refusal

first_of_line : {held : Bool} {line : List ℕ} {says : Line} → Reads held line says → (rest : List ℕ) → get_or (line ++ rest) 0 0 ≡ 114 → ⊥
first_of_line (town_line fields) rest e = omega arith
first_of_line (held_town_line fields) rest e = omega arith
first_of_line (fences_line fields) rest e = omega arith
first_of_line (junction_line number name) rest e = omega arith
first_of_line (arc_line fields) rest e = omega arith
first_of_line (held_arc_line fields) rest e = omega arith
first_of_line bare_comment rest e = omega arith
first_of_line (comment_line all) rest e = omega arith

-- A text that describes a town has a line.
first_of_lines : {held : Bool} {lines : List (List ℕ)} {say : List Line} → ReadsAll held lines say → get_or (joined lines) 0 0 ≡ 114 → ⊥
unfolding joined
first_of_lines no_lines e = omega arith
first_of_lines (reads_line {lines = lines} short reads all) e = first_of_line reads (line_feed ∷ joined lines) e

pub result_is_no_refusal : ResultIsNoRefusal
result_is_no_refusal wanted input bytes result e begins =
    let ((T, described, kept), is, short) = (prints_result wanted input bytes result).0 e in
    let same = printed_describes_same wanted input bytes T described result e in
    first_of_lines same.each_reads (rw same.in_lines at begins)
