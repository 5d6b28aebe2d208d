-- A text's lines: lines without a line feed inside are the pieces of the text that they make, with an empty piece behind the last;
-- and a text whose last piece is empty is made of the pieces before it.
use Prim.Native.Nat.{ℕ, suc, ◌+◌}
use mathlib.Core.Path.{◌≡◌, refl, sym, ap, ◌∙◌}
use mathlib.Core.Bool.{cond}
use mathlib.Core.List.{List, [], ◌∷◌, ◌++◌, append-nil, append_assoc}
use mathlib.Core.Logic.{inl, inr}
use native.Mathlib.Omega.{arith}
use lib.Dec.{eqb}
use lib.ListN.{length, length-append, get_or-append}
use lib.Seq.{get_or-append-add}
use borrow.Author.Tests.{ne_eqb}
use Rattle.model.proofs.Tests.{eqb_cases}
use Rattle.townfile.specs.Bytes.{line_feed, up_to, on_first, pieces}
use Rattle.townfile.specs.Grammar.{Bytes, Each, Unbroken, joined}
use Rattle.townfile.proofs.Lacks.{cons_lacks}
use Rattle.townfile.proofs.Pieces.{pieces_next, pieces_behind}

-- ---- From lines to pieces

pub pieces_of_line : (line rest : List ℕ) → Unbroken line → pieces line_feed (line ++ (line_feed ∷ rest)) ≡ line ∷ pieces line_feed rest
unfolding pieces on_first
pieces_of_line [] rest unbroken = pieces_behind line_feed rest
pieces_of_line (byte ∷ line) rest unbroken =
    rw (ne_eqb byte line_feed (unbroken 0 (omega arith)), pieces_of_line line rest (λ i h. unbroken (suc i) (omega arith)))

-- Bytes behind the last line feed are one piece.
pub pieces_of_rest : (bytes : List ℕ) → Unbroken bytes → pieces line_feed bytes ≡ bytes ∷ []
unfolding pieces on_first
pieces_of_rest [] unbroken = refl
pieces_of_rest (byte ∷ bytes) unbroken = rw (ne_eqb byte line_feed (unbroken 0 (omega arith)), pieces_of_rest bytes (λ i h. unbroken (suc i) (omega arith)))

pub pieces_behind_lines : (lines : List (List ℕ)) (rest : List ℕ) → Each Unbroken lines → pieces line_feed (joined lines ++ rest) ≡ lines ++ pieces line_feed rest
unfolding joined Each
pieces_behind_lines [] rest unbroken = refl
pieces_behind_lines (line ∷ lines) rest unbroken =
    rw (append_assoc line (line_feed ∷ joined lines) rest, pieces_of_line line (joined lines ++ rest) unbroken.0, pieces_behind_lines lines rest unbroken.1)

pub joined_pieces : (lines : List (List ℕ)) → Each Unbroken lines → pieces line_feed (joined lines) ≡ lines ++ ([] ∷ [])
unfolding pieces
joined_pieces lines unbroken = ap (pieces line_feed) (sym (append-nil (joined lines))) ∙ pieces_behind_lines lines [] unbroken

-- ---- From pieces to lines

pub pieces_unbroken : (text : List ℕ) → Each Unbroken (pieces line_feed text)
unfolding pieces on_first Each
pieces_unbroken [] = ((λ i h e. omega arith), tt)
pieces_unbroken (byte ∷ bytes) = elim (eqb_cases byte line_feed) [
  | inl here ↦ rw here.0 ((λ i h e. omega arith), pieces_unbroken bytes)
  | inr other ↦ rw (other.0, pieces_next line_feed bytes)
      (let rest = rw (pieces_next line_feed bytes) at (pieces_unbroken bytes) in (cons_lacks byte (up_to line_feed bytes) other.1 rest.0, rest.1))
]

-- The text of some pieces.
unfoldable pub glued : List (List ℕ) → List ℕ
glued [] = []
glued (piece ∷ []) = piece
glued (piece ∷ next ∷ pieces) = piece ++ (line_feed ∷ glued (next ∷ pieces))

glued_on_first : (byte : ℕ) (piece : List ℕ) (more : List (List ℕ)) → glued ((byte ∷ piece) ∷ more) ≡ byte ∷ glued (piece ∷ more)
unfolding glued
glued_on_first byte piece [] = refl
glued_on_first byte piece (next ∷ more) = refl

glued_next : (byte : ℕ) (bytes first : List ℕ) (more : List (List ℕ)) → glued (first ∷ more) ≡ bytes →
    glued (cond (eqb byte line_feed) ([] ∷ first ∷ more) ((byte ∷ first) ∷ more)) ≡ byte ∷ bytes
unfolding glued
glued_next byte bytes first more e = elim (eqb_cases byte line_feed) [
  | inl here ↦ rw (here.0, here.1, e)
  | inr other ↦ rw (other.0, glued_on_first byte first more, e)
]

pub glued_pieces : (text : List ℕ) → glued (pieces line_feed text) ≡ text
unfolding pieces on_first glued
glued_pieces [] = refl
glued_pieces (byte ∷ bytes) = rw (pieces_next line_feed bytes) (glued_next byte bytes _ _ (rw (pieces_next line_feed bytes) at (glued_pieces bytes)))

glued_lines : (lines : List (List ℕ)) → glued (lines ++ ([] ∷ [])) ≡ joined lines
unfolding joined glued
glued_lines [] = refl
glued_lines (line ∷ []) = refl
glued_lines (line ∷ next ∷ lines) = rw (glued_lines (next ∷ lines))

pub pieces_joined : (text : List ℕ) (lines : List (List ℕ)) → pieces line_feed text ≡ lines ++ ([] ∷ []) → text ≡ joined lines
pieces_joined text lines e = sym (glued_pieces text) ∙ ap glued e ∙ glued_lines lines

-- ---- The bytes of lines

pub bytes_parts : (first rest : List ℕ) → Bytes (first ++ rest) → Bytes first × Bytes rest
bytes_parts first rest bytes = (
  (λ i h. rw (get_or-append first rest 0 i h) at (bytes i (rw length-append (omega arith)))),
  (λ i h. rw (get_or-append-add first rest i 0) at (bytes (length first + i) (rw length-append (omega arith)))),
)

pub joined_bytes : (lines : List (List ℕ)) → Bytes (joined lines) → Each Bytes lines
unfolding joined Each
joined_bytes [] bytes = tt
joined_bytes (line ∷ lines) bytes =
    let parts = bytes_parts line (line_feed ∷ joined lines) bytes in
    (parts.0, joined_bytes lines (λ i h. parts.1 (suc i) (omega arith)))
