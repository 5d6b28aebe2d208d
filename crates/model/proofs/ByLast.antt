-- A tick up to the last, or never: what is above the last tick stays so whatever is added, and the order of two ticks is kept.
use Prim.Native.Nat.{ℕ, ◌+◌, ◌≤◌, ◌<◌}
use mathlib.Core.Path.{◌≡◌, sym, ◌∙◌}
use mathlib.Core.Logic.{◌⊎◌, inl, inr, ⊎_elim}
use native.Mathlib.Omega.{arith}
use borrow.Author.Tests.{lt-leb}
use Rattle.model.specs.Ticks.{last, never, tick_by_last}
use Rattle.model.proofs.Tests.{leb_cases}

-- What is above the last tick is never, and else itself.
pub by_last : (t : ℕ) → ((tick_by_last t ≡ t) × (t ≤ last)) ⊎ ((tick_by_last t ≡ never) × (last < t))
by_last t = ⊎_elim (λ w. inl (rw w.0, w.1)) (λ w. inr (rw w.0, w.1)) (leb_cases t last)

pub above_last : (t : ℕ) → last < t → tick_by_last t ≡ never
above_last t h = rw (lt-leb t last h)

-- What is added to never is above the last tick again.
pub by_last_added : (t n : ℕ) → tick_by_last (tick_by_last t + n) ≡ tick_by_last (t + n)
by_last_added t n =
    ⊎_elim
    (λ w. rw w.0)
    (λ w. rw w.0 (above_last (never + n) (omega arith) ∙ sym (above_last (t + n) (omega (arith, w.1)))))
    (by_last t)

pub by_last_keeps_order : (t t' : ℕ) → t ≤ t' → tick_by_last t ≤ tick_by_last t'
by_last_keeps_order t t' h =
    ⊎_elim
    (λ w. ⊎_elim (λ w'. omega (arith, w.0, w'.0)) (λ w'. omega (arith, w.0, w.1, w'.0)) (by_last t'))
    (λ w. ⊎_elim (λ w'. absurd (omega (arith, w.1, w'.1))) (λ w'. omega (arith, w.0, w'.0)) (by_last t'))
    (by_last t)
