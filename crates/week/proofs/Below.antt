-- A test at every number below a bound.
use Prim.Native.Nat.{ℕ, zero, suc, ◌+◌, ◌<◌}
use mathlib.Core.Path.{◌≡◌, refl, sym}
use mathlib.Core.Bool.{Bool, true, false, and-false}
use mathlib.Core.Logic.{by_cases}
use native.Mathlib.Decide.{ℕ_discrete}
use native.Mathlib.Numerals.{add-one}
use native.Mathlib.Omega.{arith}
use Rattle.refusals.proofs.Rules.{both_true, true_both}
use Rattle.week.specs.Store.{below}

pub below_at : (n : ℕ) (test : ℕ → Bool) → below n test ≡ true → (k : ℕ) → k < n → test k ≡ true
unfolding below
below_at zero test all k less = absurd (omega arith)
below_at (suc n) test all k less =
    let both = true_both (below n test) (test n) all in
    by_cases (ℕ_discrete k n) (λ same. rw same both.1) (λ other. below_at n test both.0 k (omega (arith, other)))

pub all_below : (n : ℕ) (test : ℕ → Bool) → ((k : ℕ) → k < n → test k ≡ true) → below n test ≡ true
unfolding below
all_below zero test all = refl
all_below (suc n) test all = both_true (all_below n test (λ k less. all k (omega arith))) (all n (omega arith))

pub below_next : (n : ℕ) (test : ℕ → Bool) → below n test ≡ true → test n ≡ true → below (n + 1) test ≡ true
unfolding below
below_next n test all here = rw (add-one n) (both_true all here)

pub below_breaks : (n : ℕ) (test : ℕ → Bool) (k : ℕ) → k < n → test k ≡ false → below n test ≡ false
unfolding below
below_breaks zero test k less breaks = absurd (omega arith)
below_breaks (suc n) test k less breaks =
    by_cases (ℕ_discrete k n)
    (λ same. rw (sym same, breaks) (and-false (below k test)))
    (λ other. rw (below_breaks n test k (omega (arith, other)) breaks) refl)
