-- Document 02, order 5: "Some stop lines hold every vehicle a fixed time after it arrives. Each arc gets a hold of 0 to 1,200 ticks (..). The
-- arrival is the old one plus the hold, and the arc cannot be driven if that is above the last tick."
use Rattle.std.specs.Prelude.{ℕ, ◌+◌, ◌≤◌, ◌<◌, ◌≡◌, ◌↔◌}
use Rattle.model.specs.Ticks.{last, never, tick_by_last}
use Rattle.model.specs.Flow.{arrival, IsArrival}

-- The arrival with its hold. Where the old one is never, so is the sum, which is above the last tick.
unfoldable pub arrival_with_hold : (ℕ → ℕ) → ℕ → ℕ → ℕ → ℕ
arrival_with_hold v spans hold s = tick_by_last (arrival v spans s + hold)

-- The same in plain words: it is the old arrival and the hold after it, if their sum is a tick up to the last, and else never.
pub data IsWithHold (v : ℕ → ℕ) (spans hold s : ℕ) : ℕ → Type 0 where
  released : (old : ℕ) → IsArrival v spans s old → old + hold ≤ last → IsWithHold v spans hold s (old + hold)
  too_late : (old : ℕ) → IsArrival v spans s old → last < old + hold → IsWithHold v spans hold s never

-- ---- What is proved of it

abbrev pub WithHoldIsSum : Type 0
WithHoldIsSum = (v : ℕ → ℕ) (spans hold s t : ℕ) → (t ≡ arrival_with_hold v spans hold s) ↔ IsWithHold v spans hold s t

-- "Town files so far, and the rows to keep, have hold 0": with it the arrival is the old one.
abbrev pub NoHold : Type 0
NoHold = (v : ℕ → ℕ) (spans s : ℕ) → arrival_with_hold v spans 0 s ≡ arrival v spans s

-- A vehicle that has something to cover arrives strictly later than it left.
abbrev pub WithHoldIsLater : Type 0
WithHoldIsLater = (v : ℕ → ℕ) (spans hold s : ℕ) → 0 < spans → s < never → s < arrival_with_hold v spans hold s

-- Leaving no later, no longer, held no longer, and nowhere slower, arrives no later.
abbrev pub WithHoldIsMonotone : Type 0
WithHoldIsMonotone = (v w : ℕ → ℕ) (spans spans' hold hold' s s' : ℕ) → s ≤ s' → spans ≤ spans' → hold ≤ hold' → ((t : ℕ) → w t ≤ v t) →
    arrival_with_hold v spans hold s ≤ arrival_with_hold w spans' hold' s'

-- Document 004's non_passing property, "T(s) ≤ T(t), if s ≤ t", of the arrival with its hold.
abbrev pub WithHoldNonPassing : Type 0
WithHoldNonPassing = (v : ℕ → ℕ) (spans hold s t : ℕ) → s ≤ t → arrival_with_hold v spans hold s ≤ arrival_with_hold v spans hold t
