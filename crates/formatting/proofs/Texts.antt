-- A printed number ends where a smaller byte than a digit stands, so that equal texts have equal numbers; and the room that they need.
use Prim.Native.Nat.{ℕ, ◌+◌, ◌≤◌, ◌<◌}
use mathlib.Core.Path.{◌≡◌, refl, sym, ap, ◌∙◌}
use mathlib.Core.Bool.{Bool, true, false, cond}
use mathlib.Core.List.{List, [], ◌∷◌, ◌++◌}
use mathlib.Core.Logic.{inl, inr}
use native.Mathlib.Omega.{arith}
use lib.Dec.{eqb}
use lib.ListN.{length, drop, length-append}
use lib.Seq.{drop-append_seam}
use borrow.Author.Tests.{eq-eqb, ne_eqb}
use Rattle.model.proofs.Tests.{eqb_cases}
use Rattle.townfile.specs.Bytes.{line_feed, space, up_to}
use Rattle.townfile.proofs.FieldForm.{up_to_part}
use Rattle.townfile.proofs.Lacks.{Lacks, cons_lacks}
use Rattle.refusals.specs.Refusals.{number_of}
use Rattle.refusals.specs.declared.refusal.Refusal.{Refusal}
use Rattle.refusals.proofs.Refusals.{number_fits}
use Rattle.formatting.specs.Digits.{digits_of}
use Rattle.formatting.specs.Texts.{number_unless, refusal_room, refusal_text}
use Rattle.formatting.proofs.Digits.{tens, digits_short, digits_lack, same_digits}

-- ---- A number or a dash

module _ (none n : ℕ) where
  pub dash : n ≡ none → number_unless none n ≡ 45 ∷ []
  unfolding number_unless
  dash e = rw (eq-eqb n none e)

  pub no_dash : (n ≡ none → ⊥) → number_unless none n ≡ digits_of n
  unfolding number_unless
  no_dash e = rw (ne_eqb n none e)

-- ---- How long they are

pub number_short : (none n : ℕ) → n < tens 10 → length (number_unless none n) ≤ 10
unfolding number_unless
number_short none n h = go (eqb n none)
  where
    go : (is : Bool) → length (cond is (45 ∷ []) (digits_of n)) ≤ 10
    go true = omega arith
    go false = digits_short n 9 h

length_refusal : (number line : ℕ) → length (refusal_text number line) ≡ length (digits_of number) + length (digits_of line) + 15
unfolding refusal_text
length_refusal number line = simp length-append (omega arith)

refusal_short : (number line : ℕ) → number < tens 10 → line < tens 10 → length (refusal_text number line) ≤ 35
refusal_short number line h h' = omega (arith, length_refusal number line, digits_short number 9 h, digits_short line 9 h')

-- So every program's output has room for one.
pub refusal_fits : (refusal : Refusal) (line : ℕ) → line < tens 10 → length (refusal_text (number_of refusal) line) ≤ refusal_room
refusal_fits refusal line h = refusal_short (number_of refusal) line (omega (arith, number_fits refusal)) h

-- ---- Two texts up to a separator

part_ends : (separator : ℕ) (part rest : List ℕ) → Lacks separator part → up_to separator (part ++ (separator ∷ rest)) ≡ part
unfolding up_to
part_ends separator part rest lacks = up_to_part separator part (separator ∷ rest) lacks (rw (eq-eqb separator separator refl))

module _ (separator : ℕ) {part part' rest rest' : List ℕ} (lacks : Lacks separator part) (lacks' : Lacks separator part') where
  pub same_parts : part ++ (separator ∷ rest) ≡ part' ++ (separator ∷ rest') → (part ≡ part') × (rest ≡ rest')
  same_parts e =
      let same : part ≡ part' = sym (part_ends separator part rest lacks) ∙ ap (up_to separator) e ∙ part_ends separator part' rest' lacks' in
      (same, cc (drop-append_seam part (separator ∷ rest), drop-append_seam part' (separator ∷ rest')))

-- ---- A number, and a number or a dash

pub numbers_first : (separator n m : ℕ) {rest rest' : List ℕ} → separator < 48 →
    digits_of n ++ (separator ∷ rest) ≡ digits_of m ++ (separator ∷ rest') → (n ≡ m) × (rest ≡ rest')
numbers_first separator n m small e =
    let parts = same_parts separator (digits_lack separator n small) (digits_lack separator m small) e in
    (same_digits n m parts.0, parts.1)

dash_no_digits : (n : ℕ) → 45 ∷ [] ≡ digits_of n → ⊥
dash_no_digits n e = let lacks : Lacks 45 (45 ∷ []) = rw (← e) at (digits_lack 45 n (omega arith)) in lacks 0 (omega arith) refl

same_entry : (none n m : ℕ) → number_unless none n ≡ number_unless none m → n ≡ m
same_entry none n m e = elim (eqb_cases n none) [
  | inl is ↦ elim (eqb_cases m none) [
    | inl is' ↦ is.1 ∙ sym is'.1
    | inr other' ↦ absurd (dash_no_digits m (sym (dash none n is.1) ∙ e ∙ no_dash none m other'.1))
  ]
  | inr other ↦ elim (eqb_cases m none) [
    | inl is' ↦ absurd (dash_no_digits n (sym (dash none m is'.1) ∙ sym e ∙ no_dash none n other.1))
    | inr other' ↦ same_digits n m (sym (no_dash none n other.1) ∙ e ∙ no_dash none m other'.1)
  ]
]

entry_lacks : (byte none n : ℕ) → byte < 45 → Lacks byte (number_unless none n)
unfolding number_unless
entry_lacks byte none n small = go (eqb n none)
  where
    go : (is : Bool) → Lacks byte (cond is (45 ∷ []) (digits_of n))
    go true = cons_lacks 45 [] (λ e. omega arith) (λ i h e. omega arith)
    go false = digits_lack byte n (omega arith)

pub entries_first : (separator none n m : ℕ) {rest rest' : List ℕ} → separator < 45 →
    number_unless none n ++ (separator ∷ rest) ≡ number_unless none m ++ (separator ∷ rest') → (n ≡ m) × (rest ≡ rest')
entries_first separator none n m small e =
    let parts = same_parts separator (entry_lacks separator none n small) (entry_lacks separator none m small) e in
    (same_entry none n m parts.0, parts.1)

-- ---- Refusals

pub same_refusal : (number line number' line' : ℕ) → refusal_text number line ≡ refusal_text number' line' → (number ≡ number') × (line ≡ line')
unfolding refusal_text
same_refusal number line number' line' e =
    let numbered = numbers_first space number number' (omega arith) (ap (drop 8) e) in
    let ended = numbers_first line_feed line line' (omega arith) (ap (drop 5) numbered.1) in
    (numbered.0, ended.0)
