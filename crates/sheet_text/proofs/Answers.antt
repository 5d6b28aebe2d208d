-- The answer, by the input's length and by what the code finds in its first line.
use Prim.Native.Nat.{ℕ, ◌-◌, ◌≤◌, ◌<◌, min}
use mathlib.Core.Path.{◌≡◌, sym, ◌∙◌}
use mathlib.Core.Bool.{true, false}
use mathlib.Core.List.{List}
use native.Mathlib.Omega.{arith}
use lib.ListN.{length, get_or, take, drop, replicate}
use Rattle.townfile.specs.FirstFault.{refused_at}
use Rattle.question_line.specs.Line.{numbers_in, of_form, numbers_after}
use Rattle.question_line.specs.Question.{mark_qu, source_in, town_text}
use Rattle.question_line.proofs.Answers.{asked_too_long, asked_not, asked_so, rest_inside}
use Rattle.question_line.proofs.Asked.{NumbersAsked}
use Rattle.sheet_text.specs.Answer.{town_sheet_lem, sheet_for}
use Rattle.sheet_text.specs.Question.{asks_shift, departures_in}
use Rattle.sheet_text.proofs.Networks.{shortened_in_town}
use Rattle.sheet_text.proofs.Questions.{kept_source, kept_departures, other_form, no_source, asks_source}

module _ (input : List ℕ) where
  -- ---- The answer

  pub sheet_too_long : 65536 < length input → sheet_for input ≡ refused_at 20 0
  unfolding sheet_for
  sheet_too_long h = asked_too_long input _ (asks_shift input) h

  module _ (short : length input ≤ 65536) where
    pub sheet_not_asked : asks_shift input ≡ false → sheet_for input ≡ refused_at 25 0
    unfolding sheet_for
    sheet_not_asked a = asked_not input _ short a

    pub sheet_asked : asks_shift input ≡ true → sheet_for input ≡ town_sheet_lem (town_text input) (source_in input) (departures_in input)
    unfolding sheet_for
    sheet_asked a = asked_so input _ short a

    -- ---- By what the code finds

    pub sheet_other_form : of_form mark_qu input ≡ false → sheet_for input ≡ refused_at 25 0
    sheet_other_form e = sheet_not_asked (other_form input e)

  module _ {count next : ℕ} (line : NumbersAsked mark_qu input count next) where
    pub sheet_no_source : length input ≤ 65536 → count ≡ 0 → sheet_for input ≡ refused_at 25 0
    sheet_no_source short none = sheet_not_asked short (no_source input (line.counted ∙ none))

    pub next_inside : next ≤ length input
    next_inside = omega (arith, rest_inside mark_qu input line.form, line.behind)

    -- the numbers that the table then holds
    module _ (some : 0 < count) {table : List ℕ} (copied : table ≡ numbers_after mark_qu input (replicate 98 0)) where
      some_number : 0 < length (numbers_in input)
      some_number = omega (arith, line.counted)

      abbrev departures : List ℕ
      departures = take (min count 98 - 1) (drop 1 table)

      departures_are : departures ≡ take 97 (departures_in input)
      departures_are = rw (copied, line.table (replicate 98 0), ← line.counted) (kept_departures (numbers_in input) some_number)

      source_is : get_or table 0 0 ≡ source_in input
      source_is = rw (copied, line.table (replicate 98 0)) (kept_source (numbers_in input) some_number)

      pub sheet_of_line : length input ≤ 65536 → sheet_for input ≡ town_sheet_lem (drop next input) (get_or table 0 0) departures
      sheet_of_line short =
          let whole = sheet_asked short (asks_source input line.form some_number) in
          let part = shortened_in_town (town_text input) (source_in input) (departures_in input) in
          whole ∙ sym part ∙ rw (departures_are, source_is, ← line.behind)
