-- No byte of a text is a given one: part by part.
use Prim.Native.Nat.{ℕ, zero, suc, ◌<◌}
use mathlib.Core.Path.{◌≡◌}
use mathlib.Core.List.{List, [], ◌∷◌, ◌++◌}
use native.Mathlib.Omega.{arith}
use lib.ListN.{length, get_or}

abbrev pub Lacks : ℕ → List ℕ → Type 0
Lacks byte bytes = (i : ℕ) → i < length bytes → get_or bytes i 0 ≡ byte → ⊥

module _ {byte : ℕ} where
  pub cons_lacks : (first : ℕ) (bytes : List ℕ) → (first ≡ byte → ⊥) → Lacks byte bytes → Lacks byte (first ∷ bytes)
  cons_lacks first bytes other lacks zero h e = other e
  cons_lacks first bytes other lacks (suc i) h e = lacks i (omega arith) e

  pub append_lacks : (bytes rest : List ℕ) → Lacks byte bytes → Lacks byte rest → Lacks byte (bytes ++ rest)
  append_lacks [] rest lacks later = later
  append_lacks (first ∷ bytes) rest lacks later = cons_lacks first (bytes ++ rest) (lacks 0 (omega arith)) (append_lacks bytes rest (λ i h e. lacks (suc i) (omega arith) e) later)
