-- A line for each junction: the lines of the first junctions, with the next one's behind them; and the room that lines need.
use Prim.Native.Nat.{ℕ, zero, suc, ◌+◌, ◌*◌, ◌≤◌, ◌<◌}
use mathlib.Core.Path.{◌≡◌, refl, sym, ap, ◌∙◌}
use mathlib.Core.List.{List, [], ◌++◌, append_assoc, append-nil}
use native.Mathlib.Numerals.{add-one}
use native.Mathlib.Omega.{arith}
use lib.ListN.{length, get_or, take, length-append}
use lib.Seq.{get_or-take}
use Rattle.sheeting.specs.Figures.{figure_in}
use Rattle.formatting.specs.Digits.{digits_of}
use Rattle.formatting.specs.Output.{Puts}
use Rattle.formatting.specs.declared.output.Output.{Output}
use Rattle.formatting.proofs.Digits.{tens, digits_short}
use Rattle.formatting.proofs.Putting.{nothing_put, puts_then}
use Rattle.sheet_text.specs.Answer.{sheet_line, line_of, sheet_lines}
use Rattle.sheet_text.specs.Code.Parts.{LinesFit}

-- ---- A line more

module _ (figures : List ℕ) where
  lines_more : (j k : ℕ) → sheet_lines figures j (suc k) ≡ sheet_lines figures j k ++ line_of figures (j + k)
  unfolding sheet_lines
  lines_more j zero = let here : j + 0 ≡ j = omega arith in append-nil (line_of figures j) ∙ rw here
  lines_more j (suc k) =
      let later : suc j + k ≡ j + suc k = omega arith in
      ap (λ behind. line_of figures j ++ behind) (lines_more (suc j) k ∙ rw later)
      ∙ sym (append_assoc (line_of figures j) (sheet_lines figures (suc j) k) (line_of figures (j + suc k)))

  -- the line as the code reads its figures
  pub line_put : (j : ℕ) {before between after : Output} → Puts (sheet_lines figures 0 j) before between →
      Puts (sheet_line j (get_or figures (4 * j) 0) (get_or figures (4 * j + 1) 0) (get_or figures (4 * j + 2) 0) (get_or figures (4 * j + 3) 0)) between after →
      Puts (sheet_lines figures 0 (j + 1)) before after
  line_put j puts puts-line =
      let here : 0 + j ≡ j = omega arith in
      let first : 4 * j + 0 ≡ 4 * j = omega arith in
      rw (add-one j, lines_more 0 j, here, first) (puts_then puts puts-line)

  pub none_put : (before : Output) → Puts (sheet_lines figures 0 0) before before
  unfolding sheet_lines
  none_put before = record { lent = refl; puts = nothing_put before.buffer.now before.length }

  -- ---- A table's lines are those of its start

  pub lines_of_part : (n j k : ℕ) → 4 * (j + k) ≤ n → sheet_lines figures j k ≡ sheet_lines (take n figures) j k
  unfolding sheet_lines
  lines_of_part n j zero h = refl
  lines_of_part n j (suc k) h =
      let entry : (f : ℕ) → f < 4 → figure_in (take n figures) j f ≡ figure_in figures j f = λ f small. get_or-take n figures (4 * j + f) 0 (omega arith) in
      rw (entry 0 (omega arith), entry 1 (omega arith), entry 2 (omega arith), entry 3 (omega arith))
      (ap (λ behind. line_of figures j ++ behind) (lines_of_part n (suc j) k (omega arith)))

-- ---- How long they are

length_line : (junction count least greatest sum : ℕ) → length (sheet_line junction count least greatest sum) ≡
    length (digits_of junction) + length (digits_of count) + length (digits_of least) + length (digits_of greatest) + length (digits_of sum) + 5
unfolding sheet_line
length_line junction count least greatest sum = simp length-append (omega arith)

pub some_line : (figures : List ℕ) (j : ℕ) (rest : List ℕ) → [] ≡ line_of figures j ++ rest → ⊥
some_line figures j rest e =
    let long = length_line j (figure_in figures j 0) (figure_in figures j 1) (figure_in figures j 2) (figure_in figures j 3) in
    omega (arith, ap length e, length-append (line_of figures j) rest, long)

-- Of each line the junction has at most three digits, the count two, and the others ten each.
module _ (figures : List ℕ) (below : (i : ℕ) → i < length figures → get_or figures i 0 < tens 10) where
  lines_short : (j k : ℕ) → j + k ≤ 200 → 4 * (j + k) ≤ length figures → ((i : ℕ) → i < j + k → figure_in figures i 0 < 100) →
      length (sheet_lines figures j k) ≤ 40 * k
  unfolding sheet_lines
  lines_short j zero few long counts = omega arith
  lines_short j (suc k) few long counts =
      let later = lines_short (suc j) k (omega arith) (omega arith) (λ i h. counts i (omega arith)) in
      let line = length_line j (figure_in figures j 0) (figure_in figures j 1) (figure_in figures j 2) (figure_in figures j 3) in
      let number = digits_short j 2 (omega arith) in
      let count = digits_short (figure_in figures j 0) 1 (counts j (omega arith)) in
      let figure : (f : ℕ) → f < 4 → length (digits_of (figure_in figures j f)) ≤ 10 = λ f small. digits_short (figure_in figures j f) 9 (below (4 * j + f) (omega arith)) in
      rw (length-append (line_of figures j) (sheet_lines figures (suc j) k))
      (omega (arith, later, line, number, count, figure 1 (omega arith), figure 2 (omega arith), figure 3 (omega arith)))

  pub lines_fit : {junctions : ℕ} → LinesFit junctions figures → length (sheet_lines figures 0 junctions) ≤ 8192
  lines_fit {junctions} fit =
      let short = lines_short 0 junctions (omega (arith, fit.few)) (omega (arith, fit.long)) (λ i h. fit.counts_short i (omega arith)) in
      omega (arith, short, fit.few)
