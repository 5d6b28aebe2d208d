-- The spans covered in some ticks: they add up over a pause in the counting, grow with the ticks and with the speeds, and at
-- one speed are a product.
use Prim.Native.Nat.{ℕ, zero, suc, ◌+◌, ◌-◌, ◌*◌, ◌≤◌, ◌<◌}
use mathlib.Core.Path.{◌≡◌, ap, sym}
use native.Mathlib.Nat.{add-zero, add-suc, add_assoc, zero-mul, suc-mul, add-le-add, le_refl}
use native.Mathlib.Omega.{arith}
use Rattle.model.specs.Flow.{covered}

pub covered_add : (v : ℕ → ℕ) (s m n : ℕ) → covered v s (m + n) ≡ covered v s m + covered v (s + m) n
unfolding covered
covered_add v s m zero = rw (add-zero m, add-zero (covered v s m))
covered_add v s m (suc n) =
    rw (add-suc m n, covered_add v s m n, ← add_assoc s m n, add_assoc (covered v s m) (covered v (s + m) n) (v (s + m + n)))

-- Faster everywhere covers at least as much.
pub covered_faster : (v w : ℕ → ℕ) → ((t : ℕ) → w t ≤ v t) → (s n : ℕ) → covered w s n ≤ covered v s n
unfolding covered
covered_faster v w faster s zero = le_refl 0
covered_faster v w faster s (suc n) = add-le-add (covered_faster v w faster s n) (faster (s + n))

pub covered_more : (v : ℕ → ℕ) (s m n : ℕ) → m ≤ n → covered v s m ≤ covered v s n
covered_more v s m n h =
    let split : n ≡ m + (n - m) = omega arith in
    omega (arith, ap (covered v s) split, covered_add v s m (n - m))

-- Who leaves earlier, nowhere slower, has covered at least as much by the same tick.
pub covered_earlier : (v w : ℕ → ℕ) → ((t : ℕ) → w t ≤ v t) → (s s' n : ℕ) → s ≤ s' → covered w s' n ≤ covered v s (s' - s + n)
covered_earlier v w faster s s' n h =
    let same : s + (s' - s) ≡ s' = omega arith in
    omega (arith, covered_add v s (s' - s) n, ap (λ (t : ℕ). covered v t n) same, covered_faster v w faster s' n)

-- At one speed.
pub covered_steady : (v : ℕ → ℕ) (s n speed : ℕ) → ((i : ℕ) → i < n → v (s + i) ≡ speed) → covered v s n ≡ n * speed
unfolding covered
covered_steady v s zero speed steady = sym (zero-mul speed)
covered_steady v s (suc n) speed steady =
    rw (covered_steady v s n speed (λ i h. steady i (omega arith)), steady n (omega arith), suc-mul n speed)
