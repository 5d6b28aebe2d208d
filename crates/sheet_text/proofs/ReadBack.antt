-- Printed lines say what they were printed of: equal lines have equal numbers, and no line begins as a refusal does.
use Prim.Native.Nat.{ℕ, zero, suc, ◌+◌, ◌*◌, ◌<◌, ◌/◌, ◌%◌}
use mathlib.Core.Path.{◌≡◌, refl, sym, ap, ◌∙◌, subst}
use mathlib.Core.List.{List, ◌++◌, append_assoc}
use native.Mathlib.Nat.{mod-lt, div-add-mod'}
use native.Mathlib.Omega.{arith}
use lib.ListN.{length, get_or}
use lib.Seq.{ext_get_or}
use Rattle.townfile.specs.Bytes.{line_feed, space}
use Rattle.sheeting.specs.Figures.{figure_in}
use Rattle.formatting.specs.Texts.{refusal_text}
use Rattle.formatting.proofs.Digits.{digits_one}
use Rattle.formatting.proofs.Texts.{numbers_first}
use Rattle.sheet_text.specs.Answer.{sheet_line, line_of, sheet_lines}
use Rattle.sheet_text.proofs.LineByLine.{some_line}

-- ---- The lines

module _ (figures figures' : List ℕ) where
  abbrev Same : ℕ → ℕ → Type 0
  Same j f = figure_in figures j f ≡ figure_in figures' j f

  abbrev SameFour : ℕ → Type 0
  SameFour j = Same j 0 × Same j 1 × Same j 2 × Same j 3

  same_line : (j : ℕ) (rest rest' : List ℕ) → line_of figures j ++ rest ≡ line_of figures' j ++ rest' → SameFour j × (rest ≡ rest')
  unfolding sheet_line
  same_line j rest rest' e =
      let small : space < 48 = omega arith in
      let numbered = numbers_first space j j small (simp append_assoc at e) in
      let first = numbers_first space (figure_in figures j 0) (figure_in figures' j 0) small numbered.1 in
      let second = numbers_first space (figure_in figures j 1) (figure_in figures' j 1) small first.1 in
      let third = numbers_first space (figure_in figures j 2) (figure_in figures' j 2) small second.1 in
      let fourth = numbers_first line_feed (figure_in figures j 3) (figure_in figures' j 3) (omega arith) third.1 in
      ((first.0, second.0, third.0, fourth.0), fourth.1)

  same_lines : (j k k' : ℕ) → sheet_lines figures j k ≡ sheet_lines figures' j k' → (k ≡ k') × ((i : ℕ) → i < k → SameFour (j + i))
  unfolding sheet_lines
  same_lines j zero zero e = (refl, λ i h. absurd (omega arith))
  same_lines j zero (suc k') e = absurd (some_line figures' j _ e)
  same_lines j (suc k) zero e = absurd (some_line figures j _ (sym e))
  same_lines j (suc k) (suc k') e =
      let first = same_line j _ _ e in
      let later = same_lines (suc j) k k' first.1 in
      (ap suc later.0, go first.0 later.1)
    where
      go : SameFour j → ((i : ℕ) → i < k → SameFour (suc j + i)) → (i : ℕ) → i < suc k → SameFour (j + i)
      go first later zero h = let here : j ≡ j + 0 = omega arith in subst SameFour here first
      go first later (suc i) h = let there : suc j + i ≡ j + suc i = omega arith in subst SameFour there (later i (omega arith))

  -- The entries are those of the junctions, four for each.
  four_cases : (j f : ℕ) → f < 4 → SameFour j → Same j f
  four_cases j zero h same = same.0
  four_cases j (suc zero) h same = same.1
  four_cases j (suc (suc zero)) h same = same.2
  four_cases j (suc (suc (suc zero))) h same = same.3
  four_cases j (suc (suc (suc (suc f)))) h same = absurd (omega arith)

  same_entries : (k : ℕ) → length figures ≡ 4 * k → length figures' ≡ 4 * k → ((i : ℕ) → i < k → SameFour i) → figures ≡ figures'
  same_entries k long long' same = ext_get_or 0 figures figures' (long ∙ sym long') entry
    where
      entry : (n : ℕ) → n < length figures → get_or figures n 0 ≡ get_or figures' n 0
      entry n h =
          let split : 4 * (n / 4) + n % 4 ≡ n = omega (arith, div-add-mod' n 4) in
          let below = mod-lt n {m = 4} (omega arith) in
          let inside : n / 4 < k = omega arith in
          subst (λ m. get_or figures m 0 ≡ get_or figures' m 0) split (four_cases (n / 4) (n % 4) below (same (n / 4) inside))

  pub same_sheet : (k k' : ℕ) → length figures ≡ 4 * k → length figures' ≡ 4 * k' →
      sheet_lines figures 0 k ≡ sheet_lines figures' 0 k' → (k ≡ k') × (figures ≡ figures')
  same_sheet k k' long long' e =
      let same = same_lines 0 k k' e in
      let four : (i : ℕ) → i < k → SameFour i = λ i h. (let here : 0 + i ≡ i = omega arith in subst SameFour here (same.1 i h)) in
      (same.0, same_entries k long (long' ∙ ap (λ k. 4 * k) (sym same.0)) four)

-- ---- Sheets and refusals

-- A sheet is empty or begins with a digit.
first_byte : (figures : List ℕ) (k : ℕ) → get_or (sheet_lines figures 0 k) 0 0 ≡ 114 → ⊥
unfolding sheet_lines sheet_line
first_byte figures zero e = omega arith
first_byte figures (suc k) e = let first : ◌≡◌ {A = ℕ} 48 114 = rw (digits_one 0 (omega arith)) at e in omega arith

pub sheet_no_refusal : (figures : List ℕ) (k number line : ℕ) → sheet_lines figures 0 k ≡ refusal_text number line → ⊥
unfolding refusal_text
sheet_no_refusal figures k number line e = first_byte figures k (ap (λ text. get_or text 0 0) e)
