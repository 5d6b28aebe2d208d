-- "Fences are the ticks at which intervals start. The first is 0, each is greater than the one before, all are below
-- 864,000. An interval contains its own fence and not the next one." Document 02, order 2: "Plans start again at midnight."
use Rattle.std.specs.Prelude.{ℕ, suc, ◌+◌, ◌-◌, ◌%◌, ◌≤◌, ◌<◌, ◌≡◌, Bool, ◌&&◌, cond, List, [], ◌∷◌, ◌↔◌, leb, ltb, length, get_or, Option, None, Some}
use Rattle.model.specs.Ticks.{day, last, never}

pub record FencesKept (fences : List ℕ) : Type 0 where
  pub first_is_0 : get_or fences 0 0 ≡ 0
  pub rising : (k : ℕ) → suc k < length fences → get_or fences k 0 < get_or fences (suc k) 0
  pub below_day : (k : ℕ) → k < length fences → get_or fences k 0 < day

-- A tick's time of day is "its remainder by 864,000": the ticks since the last midnight.
abbrev pub time_of_day_lem : ℕ → ℕ
time_of_day_lem t = t % day

-- How many of the fences a time of day has reached.
unfoldable pub passed : List ℕ → ℕ → ℕ
passed [] time = 0
passed (fence ∷ fences) time = cond (leb fence time) (suc (passed fences time)) 0

-- The number, from 0, of the interval that contains a tick: that of its time of day.
unfoldable pub interval_of_lem : List ℕ → ℕ → ℕ
interval_of_lem fences t = passed fences (time_of_day_lem t) - 1

-- The interval after interval k: after the last of a day comes the first of the next.
abbrev pub interval_after_lem : ℕ → ℕ → ℕ
interval_after_lem intervals k = cond (ltb (suc k) intervals) (suc k) 0

-- Document 02, order 3: the interval of an arrival is given back "beside the tick, as the number, counted from 0, of the interval that contains
-- the arrival tick's remainder by 864,000". There is none where there is no tick up to the last.
abbrev pub tick_and_interval? : List ℕ → ℕ → Option (ℕ × ℕ)
tick_and_interval? fences t = cond (leb t last) (Some (t, interval_of_lem fences t)) None

-- Document 02, order 3: "The engines pass it on when they leave the next junction." Beside each label that is reached stands its interval.
abbrev pub Beside : List ℕ → List ℕ → List ℕ → Type 0
Beside fences labels intervals =
    (j : ℕ) → j < length labels → get_or labels j never < never → get_or intervals j 0 ≡ interval_of_lem fences (get_or labels j never)

-- Whether interval k contains a tick. The last interval has no next fence and ends with the day.
abbrev pub contains? : List ℕ → ℕ → ℕ → Bool
contains? fences k t = ltb k (length fences) && leb (get_or fences k 0) (time_of_day_lem t) && ltb (time_of_day_lem t) (get_or fences (suc k) day)

-- The same in plain words: its fence is at or before the tick's time of day, and the next fence, if there is one, is after it.
pub record Contains (fences : List ℕ) (k t : ℕ) : Type 0 where
  pub is_interval : k < length fences
  pub from_fence : get_or fences k 0 ≤ time_of_day_lem t
  pub before_next : suc k < length fences → time_of_day_lem t < get_or fences (suc k) 0

-- "The speed of a tick is that of its remainder by 864,000": of the interval which contains it.
unfoldable pub speed_at : List ℕ → List ℕ → ℕ → ℕ
speed_at fences speeds t = get_or speeds (interval_of_lem fences t) 0

-- ---- What is proved of them

-- The interval of a tick is the one that contains it.
abbrev pub IntervalContains : Type 0
IntervalContains = (fences : List ℕ) → FencesKept fences → 0 < length fences → (k t : ℕ) → (k ≡ interval_of_lem fences t) ↔ Contains fences k t

-- "Buyers program one day and expect it to repeat": a day later, the same speed.
abbrev pub SpeedsRepeat : Type 0
SpeedsRepeat = (fences speeds : List ℕ) (t : ℕ) → speed_at fences speeds (t + day) ≡ speed_at fences speeds t
