-- How many fences a time of day has reached: the number does not fall with time; the next fence after those that it counts lies ahead, and
-- until it none is added; a fence is counted only where it is reached; and with a fence that is reached, all before it are counted.
use Prim.Native.Nat.{ℕ, zero, suc, ◌≤◌, ◌<◌, zero-le, suc-le-suc}
use mathlib.Core.List.{List, [], ◌∷◌}
use mathlib.Core.Logic.{⊎_elim}
use native.Mathlib.Nat.{le_of_lt, le_of_suc-le-suc}
use native.Mathlib.Omega.{arith}
use lib.ListN.{length, get_or}
use borrow.Author.Tests.{le-leb, lt-leb}
use Rattle.model.specs.Intervals.{passed}
use Rattle.model.proofs.Tests.{leb_cases}

pub passed_monotone : (fences : List ℕ) (s t : ℕ) → s ≤ t → passed fences s ≤ passed fences t
unfolding passed
passed_monotone [] s t h = zero-le
passed_monotone (f ∷ fs) s t h =
    ⊎_elim
    (λ w. rw (w.0, le-leb f t (omega arith)) (suc-le-suc (passed_monotone fs s t h)))
    (λ w. rw w.0 zero-le)
    (leb_cases f s)

-- Before a fence no more are counted than stand before it.
pub passed_before : (fences : List ℕ) (t k d : ℕ) → (k < length fences → t < get_or fences k d) → passed fences t ≤ k
unfolding passed
passed_before [] t k d before = zero-le
passed_before (f ∷ fs) t zero d before = rw (lt-leb f t (before (omega arith))) zero-le
passed_before (f ∷ fs) t (suc k) d before =
    ⊎_elim
    (λ w. rw w.0 (suc-le-suc (passed_before fs t k d (λ h. before (suc-le-suc h)))))
    (λ w. rw w.0 zero-le)
    (leb_cases f t)

-- No more are counted than there are.
pub passed_at_most : (fences : List ℕ) (t : ℕ) → passed fences t ≤ length fences
passed_at_most fences t = passed_before fences t (length fences) 0 (λ h. absurd (omega arith))

-- The first fence that is not counted, or what stands for it where there is none, is no earlier.
pub next_no_earlier : (fences : List ℕ) (t d : ℕ) → t ≤ d → t ≤ get_or fences (passed fences t) d
unfolding passed
next_no_earlier [] t d h = h
next_no_earlier (f ∷ fs) t d h = ⊎_elim (λ w. rw w.0 (next_no_earlier fs t d h)) (λ w. rw w.0 (le_of_lt w.1)) (leb_cases f t)

-- A fence that is counted has been reached.
pub counted_reached : (fences : List ℕ) (k t : ℕ) → k < passed fences t → get_or fences k 0 ≤ t
unfolding passed
counted_reached [] k t counted = absurd (omega arith)
counted_reached (f ∷ fs) zero t counted = ⊎_elim (λ w. w.1) (λ w. absurd (let none : 0 < 0 = rw w.0 at counted in omega arith)) (leb_cases f t)
counted_reached (f ∷ fs) (suc k) t counted =
    ⊎_elim
    (λ w. counted_reached fs k t (le_of_suc-le-suc (rw w.0 at counted)))
    (λ w. absurd (let none : suc k < 0 = rw w.0 at counted in omega arith))
    (leb_cases f t)

-- Of fences that rise, one that is reached is counted, with those before it.
pub reached_counted : (fences : List ℕ) → ((k : ℕ) → suc k < length fences → get_or fences k 0 < get_or fences (suc k) 0) →
    (k t : ℕ) → k < length fences → get_or fences k 0 ≤ t → k < passed fences t
unfolding passed
reached_counted [] rising k t inside reached = absurd (omega arith)
reached_counted (f ∷ fs) rising zero t inside reached = rw (le-leb f t reached) (omega arith)
reached_counted (f ∷ fs) rising (suc k) t inside reached =
    let others = reached_counted fs (λ i h. rising (suc i) (suc-le-suc h)) k t (le_of_suc-le-suc inside) reached in
    let before : f < get_or fs 0 0 = rising 0 (omega arith) in
    rw (le-leb f t (omega (arith, counted_reached fs 0 t (omega arith)))) (suc-le-suc others)
