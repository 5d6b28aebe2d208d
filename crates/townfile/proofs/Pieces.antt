-- A text in pieces: the first is what stands before the first separator, and the others are the pieces behind it.
use Prim.Native.Nat.{ℕ, ◌<◌}
use mathlib.Core.Path.{◌≡◌, refl}
use mathlib.Core.List.{List, [], ◌∷◌}
use mathlib.Core.Logic.{inl, inr}
use native.Mathlib.Omega.{arith}
use lib.ListN.{length, drop}
use borrow.Author.Tests.{eq-eqb}
use Rattle.model.proofs.Tests.{eqb_cases}
use Rattle.townfile.specs.Bytes.{up_to, on_first, pieces}
use Rattle.townfile.proofs.Lacks.{Lacks, cons_lacks}

module _ (separator : ℕ) where
  pub pieces_next : (bytes : List ℕ) → pieces separator bytes ≡ up_to separator bytes ∷ drop 1 (pieces separator (drop (length (up_to separator bytes)) bytes))
  unfolding pieces up_to on_first
  pieces_next [] = refl
  pieces_next (byte ∷ bytes) = elim (eqb_cases byte separator) [
    | inl here ↦ rw here.0 (rw here.0)
    | inr other ↦ rw other.0 (rw (pieces_next bytes))
  ]

  pub pieces_behind : (bytes : List ℕ) → pieces separator (separator ∷ bytes) ≡ [] ∷ pieces separator bytes
  unfolding pieces
  pieces_behind bytes = rw (eq-eqb separator separator refl)

  -- No separator stands before the first one.
  pub up_to_has_none : (bytes : List ℕ) → Lacks separator (up_to separator bytes)
  unfolding up_to
  up_to_has_none [] i h e = absurd (omega arith)
  up_to_has_none (byte ∷ bytes) i h e = elim (eqb_cases byte separator) [
    | inl here ↦ (let z : i < 0 = rw here.0 at h in absurd (omega arith))
    | inr other ↦ cons_lacks byte (up_to separator bytes) other.1 (up_to_has_none bytes) i (rw other.0 at h) (rw other.0 at e)
  ]
