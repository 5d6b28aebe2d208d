-- The highest entry of a table.
use Rattle.std.specs.Prelude.{ℕ, ◌≤◌, ◌<◌, List, length, get_or}

-- No entry is higher, and what lies above all of them lies above it. It is 0 where there is none.
pub record Highest (numbers : List ℕ) (high : ℕ) : Type 0 where
  pub no_higher : (i : ℕ) → i < length numbers → get_or numbers i 0 ≤ high
  pub least : (n : ℕ) → 0 < n → ((i : ℕ) → i < length numbers → get_or numbers i 0 < n) → high < n
