-- The five marks: a known mark is one of them, and where bytes are below 256 it tells the line's first two.
use Prim.Native.Nat.{ℕ, ◌+◌, ◌*◌, ◌<◌}
use mathlib.Core.Path.{◌≡◌, sym, ◌∙◌}
use mathlib.Core.Bool.{true, false}
use mathlib.Core.List.{List, [], ◌∷◌}
use mathlib.Core.Logic.{inl, inr}
use native.Mathlib.Omega.{arith}
use borrow.Author.Tests.{eq-eqb, ne_eqb}
use Rattle.model.proofs.Tests.{eqb_cases}
use Rattle.townfile.specs.Grammar.{Bytes}
use Rattle.townfile.specs.Lines.{mark_tn, mark_tw, mark_fn, mark_jn, mark_ar, mark_cm, first_two, mark_of, known}
use Rattle.townfile.specs.LineFaults.{Known, town_mark, fences_mark, junction_mark, arc_mark, comment_mark}

pub known_mark : (mark : ℕ) → known mark ≡ true → Known mark
known_mark mark e = elim (eqb_cases mark mark_tn) [
  | inl here ↦ town_mark here.1
  | inr no-town ↦ elim (eqb_cases mark mark_fn) [
    | inl here ↦ fences_mark here.1
    | inr no-fences ↦ elim (eqb_cases mark mark_jn) [
      | inl here ↦ junction_mark here.1
      | inr no_junction ↦ elim (eqb_cases mark mark_ar) [
        | inl here ↦ arc_mark here.1
        | inr has_no_arc ↦ elim (eqb_cases mark mark_cm) [
          | inl here ↦ comment_mark here.1
          | inr no-comment ↦
              let unknown : false ≡ true = rw (no-town.0, no-fences.0, no_junction.0, has_no_arc.0, no-comment.0) at e in
              absurd (let z : ◌≡◌ {A = ℕ} 0 1 = cc in omega arith)
        ]
      ]
    ]
  ]
]

-- Two bytes are those of a mark that is the same number.
same_bytes : (a b c d : ℕ) (bytes : List ℕ) → b < 256 → d < 256 → a * 256 + b ≡ c * 256 + d → a ∷ b ∷ bytes ≡ c ∷ d ∷ bytes
same_bytes a b c d bytes below small e = let first : a ≡ c = omega arith in let second : b ≡ d = omega arith in cc

pub data MarkedLine : List ℕ → Type 0 where
  town_bytes : (bytes : List ℕ) → MarkedLine (84 ∷ 78 ∷ bytes)
  held_town_bytes : (bytes : List ℕ) → MarkedLine (84 ∷ 87 ∷ bytes)
  fences_bytes : (bytes : List ℕ) → MarkedLine (70 ∷ 78 ∷ bytes)
  junction_bytes : (bytes : List ℕ) → MarkedLine (74 ∷ 78 ∷ bytes)
  arc_bytes : (bytes : List ℕ) → MarkedLine (65 ∷ 82 ∷ bytes)
  comment_bytes : (bytes : List ℕ) → MarkedLine (67 ∷ 77 ∷ bytes)

mark_bytes : (a b : ℕ) (bytes : List ℕ) → b < 256 → Known (a * 256 + b) → MarkedLine (a ∷ b ∷ bytes)
mark_bytes a b bytes below mark = go mark
  where
    go : Known (a * 256 + b) → MarkedLine (a ∷ b ∷ bytes)
    go (town_mark e) = rw (same_bytes a b 84 78 bytes below (omega arith) e) (town_bytes bytes)
    go (fences_mark e) = rw (same_bytes a b 70 78 bytes below (omega arith) e) (fences_bytes bytes)
    go (junction_mark e) = rw (same_bytes a b 74 78 bytes below (omega arith) e) (junction_bytes bytes)
    go (arc_mark e) = rw (same_bytes a b 65 82 bytes below (omega arith) e) (arc_bytes bytes)
    go (comment_mark e) = rw (same_bytes a b 67 77 bytes below (omega arith) e) (comment_bytes bytes)

pub marked_line : (line : List ℕ) → Bytes line → known (mark_of line) ≡ true → MarkedLine line
unfolding mark_of first_two
marked_line [] below e = absurd (let unknown : false ≡ true = e in let z : ◌≡◌ {A = ℕ} 0 1 = cc in omega arith)
marked_line (a ∷ []) below e = absurd (let unknown : false ≡ true = e in let z : ◌≡◌ {A = ℕ} 0 1 = cc in omega arith)
marked_line (a ∷ b ∷ bytes) below e = elim (eqb_cases (a * 256 + b) mark_tw) [
  | inl held ↦ rw (same_bytes a b 84 87 bytes (below 1 (omega arith)) (omega arith) held.1) (held_town_bytes bytes)
  | inr other ↦ mark_bytes a b bytes (below 1 (omega arith)) (known_mark (a * 256 + b) (rw other.0 at e))
]

-- ---- The first two bytes and the mark: only `TW` is not its own mark

pub two_mark : (line : List ℕ) {mark : ℕ} → first_two line ≡ mark → (mark ≡ mark_tw → ⊥) → mark_of line ≡ mark
unfolding mark_of
two_mark line is other = rw (ne_eqb (first_two line) mark_tw (λ e. other (sym is ∙ e)), is)

pub mark_two : (line : List ℕ) {mark : ℕ} → mark_of line ≡ mark → (mark ≡ mark_tn → ⊥) → first_two line ≡ mark
unfolding mark_of
mark_two line is other = elim (eqb_cases (first_two line) mark_tw) [
  | inl held ↦ absurd (other (sym is ∙ rw held.0))
  | inr two ↦ rw two.0 at is
]

pub held_mark : (line : List ℕ) → first_two line ≡ mark_tw → mark_of line ≡ mark_tn
unfolding mark_of
held_mark line is = rw (eq-eqb (first_two line) mark_tw is)

pub town_two : (line : List ℕ) → mark_of line ≡ mark_tn → (first_two line ≡ mark_tn → ⊥) → (first_two line ≡ mark_tw → ⊥) → ⊥
unfolding mark_of
town_two line is no-town no-held = no-town (rw (ne_eqb (first_two line) mark_tw no-held) at is)
