-- A printed table says what it was printed of: equal lines have equal numbers.
use Prim.Native.Nat.{ℕ, suc}
use mathlib.Core.Path.{◌≡◌, refl, sym, ap}
use mathlib.Core.List.{List, [], ◌∷◌, ◌++◌, append_assoc}
use native.Mathlib.Omega.{arith}
use lib.ListN.{length, get_or, drop, length-append}
use Rattle.model.specs.Ticks.{never}
use Rattle.model.specs.Labels.{no_arc}
use Rattle.townfile.specs.Bytes.{line_feed, space}
use Rattle.formatting.specs.Texts.{refusal_text}
use Rattle.formatting.proofs.Texts.{numbers_first, entries_first}
use Rattle.arrivals_text.specs.Answer.{junction_line_lem, junction_lines, table_text}
use Rattle.arrivals_text.proofs.Lines.{length_line}

-- ---- Tables

same_line : (junction label predecessor label' predecessor' : ℕ) (rest rest' : List ℕ) →
    junction_line_lem junction label predecessor ++ rest ≡ junction_line_lem junction label' predecessor' ++ rest' →
    (label ≡ label') × (predecessor ≡ predecessor') × (rest ≡ rest')
unfolding junction_line_lem
same_line junction label predecessor label' predecessor' rest rest' e =
    let numbered = numbers_first space junction junction (omega arith) (simp append_assoc at e) in
    let labelled = entries_first space never label label' (omega arith) numbered.1 in
    let ended = entries_first line_feed no_arc predecessor predecessor' (omega arith) labelled.1 in
    (labelled.0, ended.0, ended.1)

some_line : (junction label predecessor : ℕ) (rest : List ℕ) → [] ≡ junction_line_lem junction label predecessor ++ rest → ⊥
some_line junction label predecessor rest e = omega (arith, ap length e, length-append (junction_line_lem junction label predecessor) rest, length_line junction label predecessor)

same_lines : (junction : ℕ) (labels predecessors labels' predecessors' : List ℕ) → length predecessors ≡ length labels → length predecessors' ≡ length labels' →
    junction_lines junction labels predecessors ≡ junction_lines junction labels' predecessors' → (labels ≡ labels') × (predecessors ≡ predecessors')
unfolding junction_lines
same_lines junction [] [] [] [] long long' e = (refl, refl)
same_lines junction [] [] [] (p' ∷ ps') long long' e = absurd (omega arith)
same_lines junction [] [] (l' ∷ ls') [] long long' e = absurd (omega arith)
same_lines junction [] [] (l' ∷ ls') (p' ∷ ps') long long' e = absurd (some_line junction l' p' _ e)
same_lines junction [] (p ∷ ps) labels' predecessors' long long' e = absurd (omega arith)
same_lines junction (l ∷ ls) [] labels' predecessors' long long' e = absurd (omega arith)
same_lines junction (l ∷ ls) (p ∷ ps) [] [] long long' e = absurd (some_line junction l p _ (sym e))
same_lines junction (l ∷ ls) (p ∷ ps) [] (p' ∷ ps') long long' e = absurd (omega arith)
same_lines junction (l ∷ ls) (p ∷ ps) (l' ∷ ls') [] long long' e = absurd (omega arith)
same_lines junction (l ∷ ls) (p ∷ ps) (l' ∷ ls') (p' ∷ ps') long long' e =
    let first = same_line junction l p l' p' _ _ e in
    let later = same_lines (suc junction) ls ps ls' ps' (omega arith) (omega arith) first.2 in
    (rw (first.0, later.0), rw (first.1, later.1))

pub same_arrivals : (labels predecessors labels' predecessors' : List ℕ) → length predecessors ≡ length labels → length predecessors' ≡ length labels' →
    table_text labels predecessors ≡ table_text labels' predecessors' → (labels ≡ labels') × (predecessors ≡ predecessors')
unfolding table_text
same_arrivals labels predecessors labels' predecessors' long long' e = same_lines 0 labels predecessors labels' predecessors' long long' (ap (drop 21) e)

-- ---- Tables and refusals

-- The first byte of a table is another than a refusal's.
pub table_no_refusal : (labels predecessors : List ℕ) (number line : ℕ) → table_text labels predecessors ≡ refusal_text number line → ⊥
unfolding table_text refusal_text
table_no_refusal labels predecessors number line e = let first : ◌≡◌ {A = ℕ} 106 114 = ap (λ text. get_or text 0 0) e in omega arith
