-- The lines of a mark from a place of the text on: where the line at that place bears the mark it is the first of them, and the others
-- stand behind its line feed.
use Prim.Native.Nat.{ℕ, ◌+◌, ◌≤◌}
use mathlib.Core.Path.{◌≡◌, sym, ap, ◌∙◌}
use mathlib.Core.Logic.{inl, inr}
use mathlib.Core.List.{List, [], ◌∷◌}
use native.Mathlib.Omega.{arith}
use lib.ListN.{length, drop, drop_of_length-le}
use borrow.Author.Tests.{eq-eqb, ne_eqb}
use Rattle.model.proofs.Tests.{ltb_cases}
use Rattle.townfile.specs.Bytes.{line_feed, pieces}
use Rattle.townfile.specs.Lines.{first_two, mark_of}
use Rattle.townfile.specs.Tables.{marked}
use Rattle.fields.specs.Fields.{line_from}
use Rattle.scanning.proofs.RestLines.{next_lines, last_line}

abbrev pub marked_from : ℕ → List ℕ → ℕ → List (List ℕ)
marked_from mark text at = marked mark (pieces line_feed (drop at text))

module _ (mark : ℕ) (some : mark ≡ 0 → ⊥) (text : List ℕ) where
  pub none_left : (at : ℕ) → length text ≤ at → marked_from mark text at ≡ []
  unfolding marked mark_of first_two pieces
  none_left at h = rw (drop_of_length-le text h, ne_eqb 0 mark (λ e. some (sym e)))

  module _ (at : ℕ) where
    -- The lines of the mark among those behind a line.
    behind_line : (first : List (List ℕ) → List (List ℕ)) → ((lines : List (List ℕ)) → marked mark (line_from text at ∷ lines) ≡ first (marked mark lines)) →
        marked_from mark text at ≡ first (marked_from mark text (at + length (line_from text at) + 1))
    unfolding marked
    behind_line first this = elim (ltb_cases (at + length (line_from text at)) (length text)) [
      | inl inside ↦ ap (marked mark) (next_lines text at inside.1) ∙ this (pieces line_feed (drop (at + length (line_from text at) + 1) text))
      | inr past ↦ ap (marked mark) (last_line text at past.1) ∙ this [] ∙ ap first (sym (none_left (at + length (line_from text at) + 1) (omega (arith, past.1))))
    ]

    pub this_marked : (next : ℕ) → next ≡ at + length (line_from text at) + 1 → mark_of (line_from text at) ≡ mark →
        marked_from mark text at ≡ line_from text at ∷ marked_from mark text next
    unfolding marked
    this_marked next e is = behind_line (λ lines. line_from text at ∷ lines) (λ lines. rw (eq-eqb (mark_of (line_from text at)) mark is)) ∙ rw e

    pub this_unmarked : (next : ℕ) → next ≡ at + length (line_from text at) + 1 → (mark_of (line_from text at) ≡ mark → ⊥) → marked_from mark text at ≡ marked_from mark text next
    unfolding marked
    this_unmarked next e other = behind_line (λ lines. lines) (λ lines. rw (ne_eqb (mark_of (line_from text at)) mark other)) ∙ rw e
