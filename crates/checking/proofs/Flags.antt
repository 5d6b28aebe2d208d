-- Flags: what a call's flag says of the test that its contract equates it with, and that no flag is both.
use Prim.Native.Nat.{ℕ}
use mathlib.Core.Path.{◌≡◌, sym, ◌∙◌}
use mathlib.Core.Bool.{Bool, true, false}
use native.Mathlib.Omega.{arith}

pub test_fails : {flag test : Bool} → flag ≡ test → flag ≡ false → test ≡ false
test_fails same e = sym same ∙ e

pub test_passes : {flag test : Bool} → flag ≡ test → flag ≡ true → test ≡ true
test_passes same e = sym same ∙ e

pub true_not_false : {flag : Bool} → flag ≡ true → flag ≡ false → ⊥
true_not_false p q = let z : ◌≡◌ {A = ℕ} 0 1 = cc in omega arith
