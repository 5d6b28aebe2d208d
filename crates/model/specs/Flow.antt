-- The flow speed model in whole ticks, over any speed function: v t is the speed of tick t.
-- "Leaving at tick s, the arrival is the least tick T for which the speeds of ticks s to T−1, added up, are at least
-- 36 × length. If that T is above 1,728,000, or there is none, the arc cannot be driven from s."
use Rattle.std.specs.Prelude.{ℕ, zero, suc, ◌+◌, ◌-◌, ◌*◌, ◌/◌, ◌≤◌, ◌<◌, ◌≡◌, ◌↔◌, cond, leb}
use Rattle.model.specs.Ticks.{last, never}

-- "A span is 1/36 metre. A speed of v covers v spans in one tick, and a metre is 36 spans."
abbrev pub spans_of : ℕ → ℕ
spans_of length = 36 * length

-- The spans covered in n ticks from s on.
unfoldable pub covered : (ℕ → ℕ) → ℕ → ℕ → ℕ
covered v s zero = 0
covered v s (suc n) = covered v s n + v (s + n)

-- The first of the k ticks from s + n on by which the spans are covered, or never.
unfoldable pub first_tick : (ℕ → ℕ) → ℕ → ℕ → ℕ → ℕ → ℕ
first_tick v spans s n zero = never
first_tick v spans s n (suc k) =
    let later = first_tick v spans s (suc n) k in
    cond (leb spans (covered v s n)) (s + n) later

-- The arrival of a vehicle that leaves at s and has the spans to cover, or never.
unfoldable pub arrival : (ℕ → ℕ) → ℕ → ℕ → ℕ
arrival v spans s = first_tick v spans s 0 (suc last - s)

-- The same without a search: a tick up to the last by which the spans are covered and before which they are not, or
-- never, where no tick up to the last covers them.
pub data IsArrival (v : ℕ → ℕ) (spans s : ℕ) : ℕ → Type 0 where
  attained : (n : ℕ) → s + n ≤ last → spans ≤ covered v s n → ((m : ℕ) → m < n → covered v s m < spans) → IsArrival v spans s (s + n)
  none : ((n : ℕ) → s + n ≤ last → covered v s n < spans) → IsArrival v spans s never

-- The ticks that cover the spans at a speed above 0: rounded up.
abbrev pub ticks_for_lem : ℕ → ℕ → ℕ
ticks_for_lem spans speed = (spans + (speed - 1)) / speed

-- A piece of constant speed: from one tick on and up to another, which is no later than the last tick.
pub record Piece (v : ℕ → ℕ) (at end speed : ℕ) : Type 0 where
  pub forward : at ≤ end
  pub in_time : end ≤ last
  pub steady : (t : ℕ) → at ≤ t → t < end → v t ≡ speed

-- ---- What is proved of them

-- The arrival is the least tick that covers the spans, and there is no other such number.
abbrev pub ArrivalIsLeast : Type 0
ArrivalIsLeast = (v : ℕ → ℕ) (spans s t : ℕ) → (t ≡ arrival v spans s) ↔ IsArrival v spans s t

-- A vehicle that has something to cover arrives strictly later than it left.
abbrev pub ArrivalIsLater : Type 0
ArrivalIsLater = (v : ℕ → ℕ) (spans s : ℕ) → 0 < spans → s < never → s < arrival v spans s

-- Leaving no later, no longer, and nowhere slower, arrives no later.
abbrev pub ArrivalIsMonotone : Type 0
ArrivalIsMonotone = (v w : ℕ → ℕ) (spans spans' s s' : ℕ) → s ≤ s' → spans ≤ spans' → ((t : ℕ) → w t ≤ v t) →
    arrival v spans s ≤ arrival w spans' s'

-- Document 004's non_passing property: "T(s) ≤ T(t), if s ≤ t".
abbrev pub NonPassing : Type 0
NonPassing = (v : ℕ → ℕ) (spans s t : ℕ) → s ≤ t → arrival v spans s ≤ arrival v spans t

-- Over a piece of constant speed: the spans left are covered in it, or the arrival is that from its end on with what is left then.
abbrev pub ArrivalOverPiece : Type 0
ArrivalOverPiece = (v : ℕ → ℕ) (at end speed left : ℕ) → Piece v at end speed → 0 < left →
    arrival v left at ≡ cond (leb left ((end - at) * speed)) (at + ticks_for_lem left speed) (arrival v (left - (end - at) * speed) end)

-- At the last tick nothing more is covered.
abbrev pub NeverFromLast : Type 0
NeverFromLast = (v : ℕ → ℕ) (left : ℕ) → 0 < left → arrival v left last ≡ never
