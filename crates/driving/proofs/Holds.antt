-- The arrival with its hold, from what driving the arc has told: the hold is added to the tick, and none stays none.
use Rattle.std.proofs.Common.{◌≡◌, ℕ, ◌+◌, ◌<◌, ◌≤◌, List, length, sym, ap, ◌∙◌, arith}
use Rattle.std.specs.Prelude.{Option, None, Some}
use Rattle.model.specs.Ticks.{last}
use Rattle.model.specs.Flow.{arrival}
use Rattle.model.specs.Holds.{arrival_with_hold}
use Rattle.model.specs.Intervals.{time_of_day_lem, interval_of_lem, tick_and_interval?}
use Rattle.model.proofs.Arrival.{arrival_by_last}
use Rattle.model.proofs.Passed.{passed_at_most}
use Rattle.model.proofs.WithInterval.{arrived_at_law, arrived_never, told_none, told_by_last}

module _ (fences : List ℕ) where
  -- a plan that has an interval has every tick's
  pub interval_inside : {interval k : ℕ} (tick : ℕ) → interval < length fences → k ≡ interval_of_lem fences tick → k < length fences
  unfolding interval_of_lem
  interval_inside tick inside is = omega (arith, passed_at_most fences (time_of_day_lem tick))

module _ (fences : List ℕ) (v : ℕ → ℕ) (spans hold s : ℕ) where
  abbrev old : ℕ
  old = arrival v spans s

  with_hold_told : tick_and_interval? fences (arrival_with_hold v spans hold s) ≡ tick_and_interval? fences (old + hold)
  unfolding arrival_with_hold
  with_hold_told = told_by_last fences (old + hold)

  pub held_arrives : {tick k : ℕ} {answer : Option (ℕ × ℕ)} → Some (tick, k) ≡ tick_and_interval? fences old →
      (tick ≤ last → k ≡ interval_of_lem fences tick → answer ≡ tick_and_interval? fences (tick + hold)) →
      answer ≡ tick_and_interval? fences (arrival_with_hold v spans hold s)
  held_arrives {tick} {k} arrived waited =
      let (at, interval_is, in_time) = arrived_at_law fences tick k old arrived in
      waited (omega (arith, at, in_time)) (rw at interval_is) ∙ ap (λ (t : ℕ). tick_and_interval? fences (t + hold)) at ∙ sym with_hold_told

  pub held_never : None ≡ tick_and_interval? fences old → None ≡ tick_and_interval? fences (arrival_with_hold v spans hold s)
  held_never missed =
      let unreached = arrived_never fences old (arrival_by_last v spans s) missed in
      told_none fences (old + hold) (omega (arith, unreached)) ∙ sym with_hold_told
