-- What keeps a product within 64 bits.
use Prim.Native.Nat.{ℕ, ◌*◌, ◌≤◌}
use native.Mathlib.Nat.{mul-le-mul}
use native.Mathlib.Omega.{arith}
use mir.Val.{Fits}
use mir.Syntax.{w32, w64}

pub product_fits : {a b : ℕ} → Fits w32 a → Fits w32 b → Fits w64 (a * b)
product_fits {a} {b} p q =
    let left : a ≤ 4294967295 = omega (arith, p) in
    let right : b ≤ 4294967295 = omega (arith, q) in
    omega (arith, mul-le-mul {n₂ = 4294967295} {m₂ = 4294967295} left right)
