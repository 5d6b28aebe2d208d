-- The fields behind a mark are the pieces between spaces. Byte by byte: behind the first space the pieces are what the fields are.
use Prim.Native.Nat.{ℕ, suc, ◌<◌}
use mathlib.Core.Path.{◌≡◌, refl, ap, ◌∙◌}
use mathlib.Core.Bool.{true, false}
use mathlib.Core.List.{List, [], ◌∷◌, ◌++◌, map}
use mathlib.Core.Logic.{inl, inr}
use native.Mathlib.Omega.{arith}
use lib.Dec.{eqb}
use lib.ListN.{length, drop}
use lib.Seq.{drop-append_seam}
use borrow.Author.Tests.{ne_eqb}
use Rattle.model.specs.Rules.{every}
use Rattle.model.proofs.Rules.{true_both, both_true}
use Rattle.model.proofs.Tests.{eqb_cases}
use Rattle.townfile.specs.Bytes.{line_feed, space, up_to, on_first, pieces}
use Rattle.townfile.specs.Numbers.{decimal, number_keeps}
use Rattle.townfile.specs.Lines.{fields_of, numbers_of}
use Rattle.townfile.specs.Grammar.{Fields, no_fields, field}
use Rattle.townfile.proofs.Lacks.{Lacks, cons_lacks, append_lacks}
use Rattle.townfile.proofs.NumberForm.{keeps_number, number_keeps_law, number_lacks}
use Rattle.townfile.proofs.Pieces.{pieces_next}

-- ---- The first piece and the others

module _ (separator : ℕ) where
  up_to_whole : (bytes : List ℕ) → up_to separator bytes ++ drop (length (up_to separator bytes)) bytes ≡ bytes
  unfolding up_to
  up_to_whole [] = refl
  up_to_whole (byte ∷ bytes) = elim (eqb_cases byte separator) [
    | inl here ↦ rw here.0
    | inr other ↦ rw other.0 (ap {B = List ℕ} (λ rest. byte ∷ rest) (up_to_whole bytes))
  ]

  pub up_to_part : (bytes rest : List ℕ) → Lacks separator bytes → up_to separator rest ≡ [] → up_to separator (bytes ++ rest) ≡ bytes
  unfolding up_to
  up_to_part [] rest lacks ends = ends
  up_to_part (byte ∷ bytes) rest lacks ends = rw (ne_eqb byte separator (lacks 0 (omega arith)), up_to_part bytes rest (λ i h e. lacks (suc i) (omega arith) e) ends)

  -- What stands before the first separator and behind it, where something does.
  pub up_to_behind : (bytes : List ℕ) → 0 < length (drop (suc (length (up_to separator bytes))) bytes) →
      up_to separator bytes ++ (separator ∷ drop (suc (length (up_to separator bytes))) bytes) ≡ bytes
  unfolding up_to
  up_to_behind [] some = absurd (omega arith)
  up_to_behind (byte ∷ bytes) some = elim (eqb_cases byte separator) [
    | inl here ↦ rw here.0 (rw here.1)
    | inr other ↦ rw other.0 (ap {B = List ℕ} (λ rest. byte ∷ rest) (up_to_behind bytes (rw other.0 at some)))
  ]

  pub up_to_none : (byte : ℕ) (bytes : List ℕ) → up_to separator (byte ∷ bytes) ≡ [] → byte ≡ separator
  unfolding up_to
  up_to_none byte bytes none = elim (eqb_cases byte separator) [
    | inl here ↦ here.1
    | inr other ↦ (let e : byte ∷ up_to separator bytes ≡ [] = rw other.0 at none in absurd (let z : ◌≡◌ {A = ℕ} 0 1 = cc in omega arith))
  ]

  pieces_part : (bytes rest : List ℕ) → Lacks separator bytes → up_to separator rest ≡ [] → pieces separator (bytes ++ rest) ≡ bytes ∷ drop 1 (pieces separator rest)
  pieces_part bytes rest lacks ends = pieces_next separator (bytes ++ rest) ∙ rw (up_to_part bytes rest lacks ends, drop-append_seam)

  pieces_first : (bytes : List ℕ) → pieces separator bytes ≡ up_to separator bytes ∷ drop 1 (pieces separator bytes)
  pieces_first bytes = rw (pieces_next separator bytes)

  -- A byte that is no separator changes the first piece only.
  pub pieces_later : (byte : ℕ) (bytes : List ℕ) → eqb byte separator ≡ false → drop 1 (pieces separator (byte ∷ bytes)) ≡ drop 1 (pieces separator bytes)
  unfolding pieces on_first
  pieces_later byte bytes other = rw (other, pieces_next separator bytes)

-- ---- Fields as pieces

fields_at_space : (bytes : List ℕ) → (every number_keeps (fields_of bytes) ≡ true → Fields (drop (length (up_to space bytes)) bytes) (numbers_of bytes)) →
    every number_keeps (pieces space bytes) ≡ true → Fields (space ∷ bytes) (map decimal (pieces space bytes))
fields_at_space bytes later e =
    let parts = true_both (number_keeps (up_to space bytes)) (every number_keeps (fields_of bytes)) (rw (pieces_first space bytes) at e) in
    rw (pieces_first space bytes) (rw (up_to_whole space bytes) at (field (keeps_number (up_to space bytes) parts.0) (later parts.1)))

fields_from_law : (bytes : List ℕ) → every number_keeps (fields_of bytes) ≡ true → Fields (drop (length (up_to space bytes)) bytes) (numbers_of bytes)
unfolding up_to pieces
fields_from_law [] e = no_fields
fields_from_law (byte ∷ bytes) e = elim (eqb_cases byte space) [
  | inl here ↦ rw here.1 (fields_at_space bytes (fields_from_law bytes) (rw here.1 at e))
  | inr other ↦
      let later = pieces_later space byte bytes other.0 in
      rw (later, other.0) (fields_from_law bytes (rw later at e))
]

pub pieces_fields : (bytes : List ℕ) → up_to space bytes ≡ [] → every number_keeps (fields_of bytes) ≡ true → Fields bytes (numbers_of bytes)
pieces_fields bytes none e = rw none at (fields_from_law bytes e)

pub record AsPieces (bytes numbers : List ℕ) : Type 0 where
  pub none_before : up_to space bytes ≡ []
  pub all_numbers : every number_keeps (fields_of bytes) ≡ true
  pub their_values : numbers_of bytes ≡ numbers

pub fields_pieces : {bytes numbers : List ℕ} → Fields bytes numbers → AsPieces bytes numbers
unfolding up_to pieces
fields_pieces no_fields = record { none_before = refl; all_numbers = refl; their_values = refl }
fields_pieces (field {bytes} {rest} number fields) =
    let later = fields_pieces fields in
    let parted = pieces_part space bytes rest (number_lacks number space (omega arith)) later.none_before in
    record {
      none_before = refl;
      all_numbers = rw parted (both_true (number_keeps_law number) later.all_numbers);
      their_values = rw parted (rw (number.value, later.their_values));
    }

pub fields_lack : {bytes numbers : List ℕ} → Fields bytes numbers → Lacks line_feed bytes
fields_lack no_fields = λ i h e. omega arith
fields_lack (field {bytes} {rest} number fields) =
    cons_lacks space (bytes ++ rest) (λ e. omega arith) (append_lacks bytes rest (number_lacks number line_feed (omega arith)) (fields_lack fields))
