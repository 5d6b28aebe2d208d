-- The tries on an arc in the order of document 004, section 3, and the length left over at the start of each, in spans. Document 02, order 4:
-- "first the try within the interval of departure, then the length left over, then the try in the next interval".
use Rattle.std.specs.Prelude.{◌≡◌, ℕ, suc, ◌+◌, ◌-◌, ◌*◌, ◌<◌, ◌≤◌, List, slice_index_or}
use Rattle.model.specs.Ticks.{day, last}
use Rattle.model.specs.Flow.{spans_of, covered, arrival, ticks_for_lem}
use Rattle.model.specs.Intervals.{time_of_day_lem, passed, interval_of_lem, speed_at}
use Rattle.driving.specs.ArcKept.{ArcKept}

-- The tick at which the interval of a tick ends: the next fence of its day, or the midnight that ends the day.
unfoldable pub end_of : List ℕ → ℕ → ℕ
end_of fences t = t - time_of_day_lem t + slice_index_or fences (suc (interval_of_lem fences t)) day

-- The spans that the interval covers from a tick to its end: "v₀(f₁ − s)", and in the next ones "v₁(f₂ − f₁)" and so on.
unfoldable pub covers_from : List ℕ → List ℕ → ℕ → ℕ
covers_from fences speeds t = (end_of fences t - t) * speed_at fences speeds t

-- A try starts at a tick with a length left over. The first starts at the departure with the whole length. Where its interval covers less than
-- is left, the next starts at the interval's end, with what is left less what the interval covers. At the last tick none starts.
pub data Try (fences speeds : List ℕ) (metres departure : ℕ) : (at left : ℕ) → Type 0 where
  first : departure < last → Try fences speeds metres departure departure (spans_of metres)
  next : {at left : ℕ} → Try fences speeds metres departure at left → covers_from fences speeds at < left → end_of fences at < last →
      Try fences speeds metres departure (end_of fences at) (left - covers_from fences speeds at)

-- "At the start of each try the length left over, in spans, is above 0 and is 36 × length less all that was covered since the departure."
-- So neither subtraction stops at 0: the try starts no earlier than the departure, and something is left.
pub record LeftOver (v : ℕ → ℕ) (metres departure at left : ℕ) : Type 0 where
  pub since_departure : departure ≤ at
  pub above_0 : 0 < left
  pub less_covered : left ≡ spans_of metres - covered v departure (at - departure)

-- The numbers that the engine has at the start of a try: the time of day, the midnight before it, the interval k of that time, as many fences
-- having passed as k and one, and what is left. The function `start_try` asks this of every turn.
pub record AtTry (fences speeds : List ℕ) (metres departure midnight k time left : ℕ) : Type 0 where
  pub in_day_law : time < day
  pub in_interval : suc k ≡ passed fences time
  pub is_try : Try fences speeds metres departure (midnight + time) left
  pub left_over : LeftOver (speed_at fences speeds) metres departure (midnight + time) left

-- ---- What is proved of them, on an arc that keeps the rules

-- Every try starts with the length left over.
abbrev pub LeftOverAtEachTry : Type 0
LeftOverAtEachTry = (departure interval metres : ℕ) (fences speeds : List ℕ) → ArcKept departure interval metres fences speeds →
    (at left : ℕ) → Try fences speeds metres departure at left → LeftOver (speed_at fences speeds) metres departure at left

-- The paper's lines: "T(s) = l/v₀ + s, if l/v₀ < f₁ − s, else T(s) = (l − l₀)/v₁ + f₁", and so on. Where the interval covers what is left, the
-- arrival on the whole arc is the try's start and the quotient, rounded up.
abbrev pub ArrivalWithinTry : Type 0
ArrivalWithinTry = (departure interval metres : ℕ) (fences speeds : List ℕ) → ArcKept departure interval metres fences speeds →
    (at left : ℕ) → Try fences speeds metres departure at left → left ≤ covers_from fences speeds at →
    arrival (speed_at fences speeds) (spans_of metres) departure ≡ at + ticks_for_lem left (speed_at fences speeds at)
