-- What the short reading of speeds tells. It comes to a place behind a number's digits without a look at what stands there, so what
-- it has read is a speed only if a word ends there. The next space, or the line feed behind the row, shows that it does.
use Rattle.std.specs.Prelude.{ℕ, ◌+◌, ◌-◌, ◌≤◌, ◌<◌, ◌≡◌, true, List, [], length, get_or}
use Rattle.model.specs.Rules.{speed_keeps}
use Rattle.townfile.specs.Bytes.{space}
use Rattle.townfile.specs.Numbers.{decimal, number_keeps}
use Rattle.fields.specs.Fields.{word_from}
use Rattle.number_rows.specs.NumbersRead.{numbers_read, row_keeps}

-- The word from a place on is a speed and ends at another place.
pub record SpeedWord (text : List ℕ) (first end : ℕ) : Type 0 where
  pub form : number_keeps (word_from text first) ≡ true
  pub limit : speed_keeps (decimal (word_from text first)) ≡ true
  pub behind : first + length (word_from text first) ≡ end

-- Up to three digits, and the same behind a space.
pub record ShortWord (text : List ℕ) (first end : ℕ) : Type 0 where
  pub near : end ≤ first + 3
  pub word : word_from text end ≡ [] → SpeedWord text first end

pub record ShortField (text : List ℕ) (at end : ℕ) : Type 0 where
  pub gap : get_or text at 0 ≡ space
  pub digits : ShortWord text (at + 1) end

-- As many speeds as they should be, up to a place inside the text. If a word ends there, what is left of a row of any length comes to what the
-- whole row comes to.
pub record ShortRow (text : List ℕ) (at count end : ℕ) : Type 0 where
  pub inside : end < length text
  pub front : (numbers : ℕ) → count ≤ numbers → word_from text end ≡ [] →
      numbers_read (row_keeps 0) (numbers - count) text end ≡ numbers_read (row_keeps count) numbers text at
