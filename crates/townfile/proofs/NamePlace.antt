-- Where a name stands: line by line, what the lines name stands at the place that they give. The lines together are the rest of the
-- text, and a name is the end of its line.
use Prim.Native.Nat.{ℕ, ◌+◌, ◌-◌, ◌≤◌}
use mathlib.Core.Path.{◌≡◌, refl, sym, ap, ◌∙◌}
use mathlib.Core.Bool.{Bool, true, false, cond}
use mathlib.Core.Logic.{inl, inr}
use mathlib.Core.List.{List, [], ◌∷◌, ◌++◌, append-nil}
use native.Mathlib.Omega.{arith}
use lib.ListN.{length, take, drop, drop_of_length-le, length-drop, length-append}
use lib.Seq.{drop-drop, drop-append-le, drop-append-add, take-append_seam}
use Rattle.model.proofs.Tests.{eqb_cases, leb_cases}
use Rattle.townfile.specs.Bytes.{line_feed, pieces}
use Rattle.townfile.specs.Lines.{mark_jn, mark_of, number_field, name_field}
use Rattle.townfile.specs.FirstFault.{Reading, refused_at, accepted, first_fault}
use Rattle.townfile.specs.Tables.{marked, names_in, town_of}
use Rattle.townfile.specs.Name.{if_read, name_among, name_of, part, names_it, place_in, place_among, name_place_lem, StandsAt, NameStandsAtPlace}
use Rattle.townfile.specs.declared.part.Part.{Part}
use Rattle.townfile.specs.declared.progress.Progress.{Progress}
use Rattle.townfile.proofs.Joined.{glued, glued_pieces}

-- ---- A line

among_lines : (junction : ℕ) (line : List ℕ) (lines : List (List ℕ)) →
    name_among junction (names_in (line ∷ lines)) ≡ cond (names_it junction line) (name_field line) (name_among junction (names_in lines))
unfolding marked name_among
among_lines junction line lines = elim (eqb_cases (mark_of line) mark_jn) [
  | inl here ↦ rw here.0
  | inr other ↦ rw other.0
]

-- The end of a list, counted from behind.
end_of : (k : ℕ) (line : List ℕ) → drop (length line - length (drop k line)) line ≡ drop k line
end_of k line = elim (leb_cases k (length line)) [
  | inl inside ↦ (let same : length line - length (drop k line) ≡ k = omega (arith, inside.1, length-drop k line) in rw same)
  | inr past ↦
      (let none : drop k line ≡ [] = drop_of_length-le line {i = k} (omega (arith, past.1)) in
      rw none (drop_of_length-le line {i = length line - 0} (omega arith)))
]

module _ (text : List ℕ) (at : ℕ) (inside : at ≤ length text) where
  line_stands : (line rest : List ℕ) → drop at text ≡ line ++ rest → StandsAt text (place_in at line) (name_field line)
  line_stands line rest e = record {
    inside = omega (arith, inside, length-drop (length (number_field line) + 4) line, length-drop at text, ap length e, length-append line rest);
    bytes = ap (take (length (name_field line))) behind ∙ take-append_seam (name_field line) rest;
  }
    where
      behind : drop (at + (length line - length (name_field line))) text ≡ name_field line ++ rest
      behind =
          let j : ℕ = length line - length (name_field line) in
          sym (drop-drop j at text) ∙ ap (drop j) e ∙ drop-append-le j line rest (omega arith) ∙ ap (λ name. name ++ rest) (end_of (length (number_field line) + 4) line)

  -- The next line starts behind the line feed.
  behind_feed : (line rest : List ℕ) → drop at text ≡ line ++ (line_feed ∷ rest) → (at + length line + 1 ≤ length text) × (drop (at + length line + 1) text ≡ rest)
  behind_feed line rest e =
      let further : at + length line + 1 ≡ at + (length line + 1) = omega arith in (
        omega (arith, inside, length-drop at text, ap length e, length-append line (line_feed ∷ rest)),
        rw further (sym (drop-drop (length line + 1) at text) ∙ ap (drop (length line + 1)) e ∙ drop-append-add line (line_feed ∷ rest) 1),
      )

nothing_stands : (text : List ℕ) → StandsAt text (part 0 0) []
nothing_stands text = record { inside = omega arith; bytes = refl }

-- ---- The lines

if_named : {text : List ℕ} {here later : Part} {name rest : List ℕ} (named : Bool) → StandsAt text here name → StandsAt text later rest →
    StandsAt text (cond named here later) (cond named name rest)
if_named true here later = here
if_named false here later = later

place_among_law : (junction : ℕ) (text : List ℕ) (at : ℕ) → at ≤ length text → (lines : List (List ℕ)) → drop at text ≡ glued lines →
    StandsAt text (place_among junction at lines) (name_among junction (names_in lines))
unfolding glued place_among marked name_among
place_among_law junction text at inside [] e = nothing_stands text
place_among_law junction text at inside (line ∷ []) e =
    rw (among_lines junction line [])
    (if_named (names_it junction line) (line_stands text at inside line [] (e ∙ sym (append-nil line))) (nothing_stands text))
place_among_law junction text at inside (line ∷ next ∷ lines) e =
    let behind = behind_feed text at inside line (glued (next ∷ lines)) e in
    rw (among_lines junction line (next ∷ lines))
    (if_named (names_it junction line)
    (line_stands text at inside line (line_feed ∷ glued (next ∷ lines)) e)
    (place_among_law junction text (at + length line + 1) behind.0 (next ∷ lines) behind.1))

pub name_stands_at_place : NameStandsAtPlace
unfolding name_place_lem name_of town_of
name_stands_at_place text junction = go (first_fault text)
  where
    go : (reading : Reading Progress) →
        StandsAt text (if_read reading (place_among junction 0 (pieces line_feed text)) (part 0 0)) (if_read reading (name_among junction (town_of text).names) [])
    go (refused_at number line) = nothing_stands text
    go (accepted p) = place_among_law junction text 0 (omega arith) (pieces line_feed text) (sym (glued_pieces text))
