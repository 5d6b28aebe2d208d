-- A line for each junction: the lines of the first junctions, with the next one's behind them. And the room that lines need.
use Prim.Native.Nat.{ℕ, zero, suc, ◌+◌, ◌*◌, ◌≤◌, ◌<◌}
use mathlib.Core.Path.{◌≡◌, refl, ◌∙◌}
use mathlib.Core.List.{List, [], ◌∷◌, ◌++◌, append_assoc, append-nil}
use native.Mathlib.Numerals.{add-one}
use native.Mathlib.Omega.{arith}
use lib.ListN.{length, get_or, take, length-append}
use lib.Seq.{take_all}
use Rattle.model.specs.Ticks.{never}
use Rattle.model.specs.Labels.{no_arc}
use Rattle.formatting.specs.Digits.{digits_of}
use Rattle.formatting.specs.Output.{Puts}
use Rattle.formatting.specs.declared.output.Output.{Output}
use Rattle.formatting.specs.Texts.{number_unless}
use Rattle.formatting.proofs.Digits.{tens, digits_short}
use Rattle.formatting.proofs.Putting.{nothing_put, puts_then}
use Rattle.formatting.proofs.Texts.{number_short}
use Rattle.arrivals_text.specs.Answer.{junction_line_lem, junction_lines, header, table_text}
use Rattle.arrivals_text.specs.Code.Tables.{TableFits}

-- ---- A line more

pub line_more : (k j : ℕ) (labels predecessors : List ℕ) → length predecessors ≡ length labels → j < length labels →
    junction_lines k (take (suc j) labels) (take (suc j) predecessors)
    ≡ junction_lines k (take j labels) (take j predecessors) ++ junction_line_lem (k + j) (get_or labels j 0) (get_or predecessors j 0)
unfolding junction_lines
line_more k j [] predecessors same h = absurd (omega arith)
line_more k j (label ∷ labels) [] same h = absurd (omega arith)
line_more k zero (label ∷ labels) (predecessor ∷ predecessors) same h =
    let here : k + 0 ≡ k = omega arith in
    append-nil (junction_line_lem k label predecessor) ∙ rw here
line_more k (suc j) (label ∷ labels) (predecessor ∷ predecessors) same h =
    let later : suc k + j ≡ k + suc j = omega arith in
    rw (line_more (suc k) j labels predecessors (omega arith) (omega arith), later, append_assoc)

-- The lines of the junctions before the j-th are put.
abbrev pub LinesPut : List ℕ → List ℕ → ℕ → Output → Output → Type 0
LinesPut labels predecessors j before after = Puts (junction_lines 0 (take j labels) (take j predecessors)) before after

pub none_put : (labels predecessors : List ℕ) (before : Output) → LinesPut labels predecessors 0 before before
unfolding junction_lines
none_put labels predecessors before = record { lent = refl; puts = nothing_put before.buffer.now before.length }

module _ (labels predecessors : List ℕ) {before after : Output} {j : ℕ} where
  pub line_put : {between : Output} → length predecessors ≡ length labels → j < length labels → LinesPut labels predecessors j before between →
      Puts (junction_line_lem j (get_or labels j 0) (get_or predecessors j 0)) between after → LinesPut labels predecessors (j + 1) before after
  line_put same h puts puts-line = let here : 0 + j ≡ j = omega arith in rw (add-one j, line_more 0 j labels predecessors same h, here) (puts_then puts puts-line)

  pub lines_put : length predecessors ≡ length labels → length labels ≤ j → LinesPut labels predecessors j before after →
      Puts (junction_lines 0 labels predecessors) before after
  lines_put same h puts = let h' : length predecessors ≤ j = omega arith in rw (take_all j labels h, take_all j predecessors h') at puts

-- ---- How long a line is

pub length_line : (junction label predecessor : ℕ) →
    length (junction_line_lem junction label predecessor) ≡ length (digits_of junction) + length (number_unless never label) + length (number_unless no_arc predecessor) + 3
unfolding junction_line_lem
length_line junction label predecessor = simp length-append (omega arith)

-- A table fits the buffer: of each line the junction has at most three digits, the label ten and the predecessor three.
lines_short : (junction : ℕ) (labels predecessors : List ℕ) → junction + length labels ≤ 200 → ((j : ℕ) → j < length labels → get_or labels j 0 < tens 10) →
    length predecessors ≡ length labels → ((j : ℕ) → j < length labels → length (number_unless no_arc (get_or predecessors j 0)) ≤ 3) →
    length (junction_lines junction labels predecessors) ≤ 19 * length labels
unfolding junction_lines
lines_short junction [] predecessors few below same short = omega arith
lines_short junction (label ∷ labels) [] few below same short = omega arith
lines_short junction (label ∷ labels) (predecessor ∷ predecessors) few below same short =
    let later = lines_short (suc junction) labels predecessors (omega arith) (λ j h. below (suc j) (omega arith)) (omega arith) (λ j h. short (suc j) (omega arith)) in
    rw (length-append (junction_line_lem junction label predecessor) (junction_lines (suc junction) labels predecessors))
    (omega (arith, length_line junction label predecessor, digits_short junction 2 (omega arith), number_short never label (below 0 (omega arith)), short 0 (omega arith)))

pub table_fits : {labels predecessors : List ℕ} → TableFits labels predecessors → ((j : ℕ) → j < length labels → get_or labels j 0 < tens 10) →
    length (table_text labels predecessors) ≤ 4096
unfolding table_text
table_fits {labels} {predecessors} table below =
    let lines = lines_short 0 labels predecessors (omega (arith, table.few)) below table.same_length table.short in
    omega (arith, length-append header (junction_lines 0 labels predecessors), table.few)
