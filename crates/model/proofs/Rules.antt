-- The tests of the network's rules and their plain statements.
use Prim.Native.Nat.{ℕ, zero, suc, ◌≤◌, ◌<◌}
use mathlib.Core.Path.{◌≡◌, refl, ap}
use mathlib.Core.Bool.{true, false, not}
use mathlib.Core.List.{List, [], ◌∷◌}
use native.Mathlib.Omega.{arith}
use lib.Dec.{leb, ltb, eqb}
use lib.ListN.{length, get_or}
use borrow.Author.Tests.{not-false, ltb-true, leb-true, eqb-true, lt-ltb, le-leb, eq-eqb}
use Rattle.model.specs.Ticks.{day}
use Rattle.model.specs.Limits.{max_intervals, max_length}
use Rattle.model.specs.Intervals.{FencesKept}
use Rattle.model.specs.Rules.{every, rise_from, count_keeps, fences_keep_lem, length_keeps_lem}
pub use Rattle.refusals.proofs.Rules.{kept_replies, replies_kept, append_kept, kept_next, refused_at_law, refused_exactly_when, refused_before, kept_before}
pub use Rattle.refusals.proofs.Rules.{replying_refused, replying_replied, kept_append, both_true, true_both, true_three, every_at, at_every}

pub kept_count : (fences : List ℕ) → not (count_keeps fences) ≡ false → (1 ≤ length fences) × (length fences ≤ max_intervals)
kept_count fences e =
    let parts = true_both (ltb 0 (length fences)) (leb (length fences) max_intervals) (not-false (count_keeps fences) e) in
    (ltb-true 0 (length fences) parts.0, leb-true (length fences) max_intervals parts.1)

pub count_kept : (fences : List ℕ) → 1 ≤ length fences → length fences ≤ max_intervals → not (count_keeps fences) ≡ false
count_kept fences some few = ap not (both_true (lt-ltb 0 (length fences) some) (le-leb (length fences) max_intervals few))

pub kept_length : (metres : ℕ) → length_keeps_lem metres ≡ true → (1 ≤ metres) × (metres ≤ max_length)
kept_length metres e =
    let parts = true_both (ltb 0 metres) (leb metres max_length) e in
    (ltb-true 0 metres parts.0, leb-true metres max_length parts.1)

pub length_kept : (metres : ℕ) → 1 ≤ metres → metres ≤ max_length → length_keeps_lem metres ≡ true
length_kept metres some fits = both_true (lt-ltb 0 metres some) (le-leb metres max_length fits)

-- The rule on speeds and that on holds: every entry is within a limit.
module _ (limit : ℕ) (xs : List ℕ) where
  pub kept_within : not (every (λ x. leb x limit) xs) ≡ false → (k : ℕ) → k < length xs → get_or xs k 0 ≤ limit
  kept_within e k h = leb-true (get_or xs k 0) limit (every_at (λ x. leb x limit) 0 xs (not-false (every (λ x. leb x limit) xs) e) k h)

  pub within_kept : ((k : ℕ) → k < length xs → get_or xs k 0 ≤ limit) → not (every (λ x. leb x limit) xs) ≡ false
  within_kept fit = ap not (at_every (λ x. leb x limit) 0 xs (λ k h. le-leb (get_or xs k 0) limit (fit k h)))

-- ---- The fences

-- Each fence is above the one before it, and below the day.
abbrev Rises : ℕ → List ℕ → Type 0
Rises before fences = (k : ℕ) → k < length fences → (get_or (before ∷ fences) k 0 < get_or fences k 0) × (get_or fences k 0 < day)

rise_at : (before : ℕ) (fences : List ℕ) → rise_from before fences ≡ true → Rises before fences
unfolding rise_from
rise_at before [] e k h = absurd (omega arith)
rise_at before (f ∷ fs) e zero h =
    let parts = true_three (ltb before f) (ltb f day) (rise_from f fs) e in
    (ltb-true before f parts.0, ltb-true f day parts.1)
rise_at before (f ∷ fs) e (suc k) h = rise_at f fs (true_three (ltb before f) (ltb f day) (rise_from f fs) e).2 k (omega arith)

at_rise : (before : ℕ) (fences : List ℕ) → Rises before fences → rise_from before fences ≡ true
unfolding rise_from
at_rise before [] rises = refl
at_rise before (f ∷ fs) rises =
    let here = rises 0 (omega arith) in
    both_true (both_true (lt-ltb before f here.0) (lt-ltb f day here.1)) (at_rise f fs (λ k h. rises (suc k) (omega arith)))

pub fences_kept : (fences : List ℕ) → fences_keep_lem fences ≡ true → FencesKept fences
unfolding fences_keep_lem
fences_kept [] e = record { first_is_0 = refl; rising = λ k h. absurd (omega arith); below_day = λ k h. absurd (omega arith) }
fences_kept (f ∷ fs) e =
    let parts = true_both (eqb f 0) (rise_from f fs) e in
    let first : f ≡ 0 = eqb-true f 0 parts.0 in
    record { first_is_0 = first; rising = λ k h. (rise_at f fs parts.1 k (omega arith)).0; below_day = below first (rise_at f fs parts.1) }
  where
    below : f ≡ 0 → ((k : ℕ) → k < length fs → (get_or (f ∷ fs) k 0 < get_or fs k 0) × (get_or fs k 0 < day)) → (k : ℕ) → k < suc (length fs) → get_or (f ∷ fs) k 0 < day
    below first rises zero h = omega arith
    below first rises (suc k) h = (rises k (omega arith)).1

pub kept_fences : (fences : List ℕ) → FencesKept fences → fences_keep_lem fences ≡ true
unfolding fences_keep_lem
kept_fences [] kept = refl
kept_fences (f ∷ fs) kept =
    both_true (eq-eqb f 0 kept.first_is_0) (at_rise f fs (λ k h. (kept.rising k (omega arith), kept.below_day (suc k) (omega arith))))
