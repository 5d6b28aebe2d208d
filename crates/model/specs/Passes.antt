-- Document 02, order 9: the reckoning "by repeated passes over all arcs, lowering labels until a pass changes none".
use Rattle.std.specs.Prelude.{ℕ, zero, suc, ◌-◌, ◌≤◌, ◌<◌, ◌≡◌, cond, List, ◌↔◌, set, replicate}
use Rattle.model.specs.Ticks.{last, never}
use Rattle.model.specs.Walks.{Net, Sound}
use Rattle.model.specs.Labels.{offer, labels_of, same?}

-- "A pass goes through the arcs by number from 0, and a lowered label counts at once for the arcs after it": the labels after its first arcs, of
-- which each is left at its tail's label as the arcs before it leave it.
unfoldable pub pass_over : Net → List ℕ → ℕ → List ℕ
pass_over N labels zero = labels
pass_over N labels (suc a) = let now = pass_over N labels a in offer N now a now

-- A whole pass.
abbrev pub pass : Net → List ℕ → List ℕ
pass N labels = pass_over N labels N.arcs

-- "At the start the source has the departure and all others are unreached."
abbrev pub at_start : Net → ℕ → ℕ → List ℕ
at_start N source departure = set (replicate N.junctions never) source departure

-- The labels after n passes.
unfoldable pub after_passes : Net → ℕ → ℕ → ℕ → List ℕ
after_passes N source departure zero = at_start N source departure
after_passes N source departure (suc n) = pass N (after_passes N source departure n)

-- "The reported number of passes is that of the first pass that changes no label": the first from pass n on, which starts with these labels, and at
-- most k passes are made. Where none of these is it, the number after them; `PassesAreFirstUnchanged` says that there is always one.
unfoldable pub first_unchanged : Net → List ℕ → ℕ → ℕ → ℕ
first_unchanged N labels n zero = n
first_unchanged N labels n (suc k) =
    let next = pass N labels in
    let later = first_unchanged N next (suc n) k in
    cond (same? next labels) n later

-- Passes are counted from 1. "It is at most the junction count": so many are made that one of them changes no label.
unfoldable pub passes_of : Net → ℕ → ℕ → ℕ
passes_of N source departure = first_unchanged N (at_start N source departure) 1 N.junctions

-- The same in plain words, of passes without a bound. Pass n, which starts with the labels after the n - 1 before it, changes none of them.
abbrev pub Unchanged : Net → ℕ → ℕ → ℕ → Type 0
Unchanged N source departure n = let labels = after_passes N source departure (n - 1) in pass N labels ≡ labels

-- Pass n changes no label, and every earlier one does.
pub record IsFirstUnchanged (N : Net) (source departure n : ℕ) : Type 0 where
  pub from_1 : 1 ≤ n
  pub unchanged : Unchanged N source departure n
  pub earlier_change : (m : ℕ) → 1 ≤ m → m < n → Unchanged N source departure m → ⊥

-- ---- What is proved of them

-- The number is that of the first pass that changes no label, and no other number is.
abbrev pub PassesAreFirstUnchanged : Type 0
PassesAreFirstUnchanged = (N : Net) → Sound N → (source departure : ℕ) → source < N.junctions → departure ≤ last →
    (n : ℕ) → (n ≡ passes_of N source departure) ↔ IsFirstUnchanged N source departure n

-- "It is at most the junction count." With one junction it is 1.
abbrev pub PassesAtMostJunctions : Type 0
PassesAtMostJunctions = (N : Net) → Sound N → (source departure : ℕ) → source < N.junctions → departure ≤ last →
    (1 ≤ passes_of N source departure) × (passes_of N source departure ≤ N.junctions)

-- So many passes leave the labels of Labels, from which the predecessors follow.
abbrev pub PassesLeaveLabels : Type 0
PassesLeaveLabels = (N : Net) → Sound N → (source departure : ℕ) → source < N.junctions → departure ≤ last →
    after_passes N source departure (passes_of N source departure) ≡ labels_of N source departure
